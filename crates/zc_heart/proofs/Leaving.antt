-- The blocks of a file as the entries of its map: their stamps are those of the file.
use Rattle.std.proofs.Common.{◌≡◌, ◌≢◌, ℕ, zero, suc, ◌+◌, ◌<◌, ◌≤◌, Bool, true, false, cond, List, [], ◌∷◌, ◌++◌, Option, Some, None, refl, sym, ap, ◌∙◌, ⊎_elim, arith}
use Rattle.std.specs.Prelude.{sum_by, count_by}
use Rattle.std.specs.declared.cmp.Ordering.TheVariants.{Less}
use Rattle.std.specs.Ordering.{nat_cmp, is_eq}
use Rattle.std.specs.List.{AllByRecursion}
use Rattle.std.specs.BTreeMap.{is_at}
use Rattle.std.specs.Map.{keys_of}
use Rattle.std.proofs.lemmas.Bool.{cases_eq, eq-eqb, ne_eqb}
use Rattle.std.proofs.lemmas.List.Sums.{sum_by-cons, sum_by_push}
use Rattle.std.proofs.lemmas.Map.Keys.{sorted_head, sorted_tail}
use Rattle.zc_num.specs.Words.{each}
use Rattle.zc_num.specs.Ordered.{Ascends, value_at}
use Rattle.zc_num.proofs.Each.{each_none, each_more, each_same, map_each}
use Rattle.zc_plain.specs.declared.plain_pool.PlainBlock.{PlainBlock}
use Rattle.zc_plain.specs.declared.plain_pool.PlainBlock.TheVariants.{Hole}
use Rattle.zc_plain.specs.PlainPool.{blocks_of_size}
use Rattle.zc_plain.specs.Charge.{is_stamp, stamp_of}
use Rattle.zc_heart.specs.declared.file.HeldBlock.{HeldBlock}
use Rattle.zc_heart.specs.declared.file.HeartFile.{HeartFile}
use Rattle.zc_heart.specs.declared.stamps.Stamps.{Stamps}
use Rattle.zc_heart.specs.Stamps.{files_at, Moves, LearnsNothing}
use Rattle.zc_heart.specs.Core.{plain_block, plain_blocks, IsHeartFile}
use Rattle.zc_heart.specs.File.{stamps_in}
use Rattle.zc_heart.specs.Deeds.{entry_stamps, entry_stamp}
use Rattle.zc_heart.proofs.DirectoryLaws.{same_number}
use Rattle.zc_heart.proofs.Listing.{counted_flat, counted_both, sum_mapped}

-- a sum over numbers below one
unfoldable sum_below : (ℕ → ℕ) → ℕ → ℕ
sum_below f n = sum_by (λ x. x) (each n f)

sum_below_none : (f : ℕ → ℕ) → sum_below f 0 ≡ 0
unfolding sum_below
sum_below_none f = ap (sum_by (λ x. x)) (each_none f)

sum_below_more : (f : ℕ → ℕ) (n : ℕ) → sum_below f (n + 1) ≡ sum_below f n + f n
unfolding sum_below
sum_below_more f n = ap (sum_by (λ x. x)) (each_more n f) ∙ sum_by_push (λ x. x) (each n f) (f n)

sum_below_same : (f g : ℕ → ℕ) (n : ℕ) → ((k : ℕ) → k < n → f k ≡ g k) → sum_below f n ≡ sum_below g n
unfolding sum_below
sum_below_same f g n same = ap (sum_by (λ x. x)) (each_same n f g same)

-- with one more at one number
sum_below_with : (f g : ℕ → ℕ) (key w : ℕ) → f key ≡ 0 → g key ≡ w → ((k : ℕ) → k ≢ key → g k ≡ f k) → (n : ℕ) → (n ≤ key → w ≡ 0) → sum_below g n ≡ w + sum_below f n
sum_below_with f g key w none here others zero past =
    let nothing = past (omega arith) in
    let first = sum_below_none f in
    let second = sum_below_none g in
    omega (arith, nothing, first, second)
sum_below_with f g key w none here others (suc n) past =
    let next : suc n ≡ n + 1 = omega arith in
    let first = sum_below_more f n in
    let second = sum_below_more g n in
    rw next
    (⊎_elim
    (λ (is : n ≡ key).
    let before = sum_below_same g f n (λ k below. others k (omega arith)) in
    let g_here : g n ≡ w = ap g is ∙ here in
    let f_here : f n ≡ 0 = ap f is ∙ none in
    omega (arith, first, second, before, g_here, f_here))
    (λ (apart : n ≢ key).
    let before = sum_below_with f g key w none here others n (λ behind. past (omega (arith, behind, apart))) in
    let same = others n apart in
    omega (arith, first, second, before, same))
    (cases_eq n key))

sum_of_zeros : (f : ℕ → ℕ) (n : ℕ) → ((k : ℕ) → f k ≡ 0) → sum_below f n ≡ 0
sum_of_zeros f zero none = sum_below_none f
sum_of_zeros f (suc n) none =
    let next : suc n ≡ n + 1 = omega arith in
    let more = sum_below_more f n in
    let before = sum_of_zeros f n none in
    let last = none n in
    rw next (omega (arith, more, before, last))

-- ---- the entries

-- the first key of a map is at none of the others
no_key : {V : Type 0} (key : ℕ) (es : List (ℕ × V)) → AllByRecursion (λ (other : ℕ). nat_cmp key other ≡ Less) (keys_of es) → value_at key es ≡ None
no_key key [] below = refl
no_key {V} key (e ∷ es) below =
    let test : is_at (nat_cmp key) e.0 ≡ false = ap is_eq below.0 in
    ap (λ (here : Bool). cond here (Some e.1) (value_at key es)) test ∙ no_key key es below.1

-- the value at the first key, and at another
value_here : {V : Type 0} (e : ℕ × V) (es : List (ℕ × V)) → value_at e.0 (e ∷ es) ≡ Some e.1
value_here e es =
    let test : is_at (nat_cmp e.0) e.0 ≡ true = same_number e.0 e.0 ∙ eq-eqb e.0 e.0 refl in
    ap (λ (here : Bool). cond here (Some e.1) (value_at e.0 es)) test

value_elsewhere : {V : Type 0} (k : ℕ) (e : ℕ × V) (es : List (ℕ × V)) → k ≢ e.0 → value_at k (e ∷ es) ≡ value_at k es
value_elsewhere k e es apart =
    let test : is_at (nat_cmp k) e.0 ≡ false = same_number k e.0 ∙ ne_eqb e.0 k (λ same. apart (sym same)) in
    ap (λ (here : Bool). cond here (Some e.1) (value_at k es)) test

-- how often a stamp stands at a block
abbrev count_at_block : ℕ × ℕ → PlainBlock → ℕ
count_at_block stamp block = count_by (is_stamp stamp) (stamp_of block)

-- a sum over the numbers of blocks is one over the entries
entries_sum : (stamp : ℕ × ℕ) (n : ℕ) (es : List (ℕ × Option HeldBlock)) → Ascends es → ((k : ℕ) → n ≤ k → plain_block (value_at k es) ≡ Hole)
    → sum_below (λ k. count_at_block stamp (plain_block (value_at k es))) n ≡ sum_by (λ (e : ℕ × Option HeldBlock). count_at_block stamp (plain_block (Some e.1))) es
entries_sum stamp n [] ascends ends = sum_of_zeros (λ k. 0) n (λ k. refl)
entries_sum stamp n (e ∷ es) ascends ends =
    let c = λ (value : Option (Option HeldBlock)). count_at_block stamp (plain_block value) in
    let alone : value_at e.0 es ≡ None = no_key e.0 es (sorted_head nat_cmp e.0 (keys_of es) ascends) in
    let here : value_at e.0 (e ∷ es) ≡ Some e.1 = value_here e es in
    let rest = entries_sum stamp n es (sorted_tail nat_cmp e.0 (keys_of es) ascends)
    (λ k past. ⊎_elim
    (λ (same : k ≡ e.0). ap plain_block (ap (λ (key : ℕ). value_at key es) same ∙ alone))
    (λ (apart : k ≢ e.0). ap plain_block (sym (value_elsewhere k e es apart)) ∙ ends k past)
    (cases_eq k e.0)) in
    let all = sum_below_with (λ k. c (value_at k es)) (λ k. c (value_at k (e ∷ es))) e.0 (c (Some e.1)) (ap c alone) (ap c here) (λ k apart. ap c (value_elsewhere k e es apart)) n
    (λ past. ap (count_at_block stamp) (ap plain_block (sym here) ∙ ends e.0 past)) in
    let sum = sum_by-cons (λ (one : ℕ × Option HeldBlock). count_at_block stamp (plain_block (Some one.1))) e es in
    omega (arith, all, rest, sum)

-- the stamps of the entries are those of the file
pub entries_counted : (stamp : ℕ × ℕ) (file : HeartFile) → IsHeartFile file → Ascends file.blocks → count_by (is_stamp stamp) (entry_stamps file.blocks) ≡ count_by (is_stamp stamp) (stamps_in file)
unfolding sum_below
entries_counted stamp file heart ascends =
    let h = λ (k : ℕ). plain_block (value_at k file.blocks) in
    counted_flat (is_stamp stamp) entry_stamp file.blocks
    ∙ sym (entries_sum stamp (blocks_of_size file.size) file.blocks ascends heart.ends)
    ∙ ap (sum_by (λ x. x)) (sym (map_each (count_at_block stamp) (blocks_of_size file.size) h))
    ∙ sum_mapped (λ x. x) (count_at_block stamp) (each (blocks_of_size file.size) h)
    ∙ sym (counted_flat (is_stamp stamp) stamp_of (plain_blocks file))

-- ---- one entry, or one file, after another

-- what is left once the first part has left too
pub left_on : (first next last : Stamps) (all part rest : List (ℕ × ℕ)) → Moves first next all (part ++ rest) → Moves next last part [] → Moves first last all rest
left_on first next last all part rest before moved =
    λ stamp.
    let one = before stamp in
    let other = moved stamp in
    let both = counted_both (is_stamp stamp) part rest in
    omega (arith, one, other, both)

-- and what is left is still counted
pub still_counted : (first next : Stamps) (all rest : List (ℕ × ℕ)) → ((stamp : ℕ × ℕ) → count_by (is_stamp stamp) all ≤ files_at first stamp) → Moves first next all rest → (stamp : ℕ × ℕ) → count_by (is_stamp stamp) rest ≤ files_at next stamp
still_counted first next all rest counted moved =
    λ stamp.
    let one = moved stamp in
    omega (arith, one, counted stamp)

pub learns_on : (first next last : Stamps) → LearnsNothing first next → LearnsNothing next last → LearnsNothing first last
learns_on first next last one other = λ stamp ptr is. one stamp ptr (other stamp ptr is)

-- of two parts the first is counted where both are
pub part_counted : (stamps : Stamps) (part rest : List (ℕ × ℕ)) → ((stamp : ℕ × ℕ) → count_by (is_stamp stamp) (part ++ rest) ≤ files_at stamps stamp) → (stamp : ℕ × ℕ) → count_by (is_stamp stamp) part ≤ files_at stamps stamp
part_counted stamps part rest counted =
    λ stamp.
    let both = counted_both (is_stamp stamp) part rest in
    omega (arith, both, counted stamp)
