-- A file's blocks by their numbers, `held_at`, and what is counted of them.
use Rattle.std.proofs.Common.{◌≡◌, ◌≢◌, ℕ, zero, suc, ◌+◌, ◌<◌, ◌≤◌, ◌==◌, true, false, cond, List, [], ◌∷◌, ◌++◌, Option, Some, None, refl, sym, ap, subst, ◌∙◌, ⊎_elim, arith}
use Rattle.std.specs.Prelude.{count_by, flat_map}
use Rattle.std.proofs.lemmas.Bool.{cases_lt, cases_eq, cases_Bool, and_parts, eqb-true, eq-eqb, and_from}
use Rattle.std.proofs.lemmas.List.{get_or_past, append-nil}
use Rattle.std.proofs.lemmas.List.Sums.{sum_by-append}
use Rattle.std.proofs.lemmas.List.Concat.{flat_map-append}
use Rattle.zc_num.specs.Ordered.{value_at, insert_entry, remove_entry, Ascends}
use Rattle.zc_num.specs.Words.{each}
use Rattle.zc_num.proofs.Each.{length_each, item_of_each, each_more, each_same}
use Rattle.zc_num.proofs.Entries.{value_of_put, value_of_other_put, value_of_taken, value_of_other_taken}
use Rattle.zc_plain.specs.declared.plain_pool.PlainBlock.{PlainBlock}
use Rattle.zc_plain.specs.declared.plain_pool.PlainBlock.TheVariants.{Hole}
use Rattle.zc_plain.specs.PlainPool.{is_made as is_held}
use Rattle.zc_plain.specs.PlainPool.{blocks_of_size, block_at, made_count}
use Rattle.zc_plain.specs.Charge.{is_stamp, stamp_of}
use Rattle.zc_plain.proofs.Counted.{counted_push}
use Rattle.zc_plain.proofs.Together.{block_by_place}
use Rattle.zc_heart.specs.declared.file.HeartFile.{HeartFile}
use Rattle.zc_heart.specs.Core.{plain_blocks, IsHeartFile}
use Rattle.zc_heart.specs.Steps.{held_at}

-- block k of the plain file is the one that is held at k
pub block_of_heart : (file : HeartFile) (k : ℕ) → IsHeartFile file → block_at k (plain_blocks file) ≡ held_at k file
block_of_heart file k heart =
    ⊎_elim
    (λ (within : k < blocks_of_size file.size). block_by_place (plain_blocks file) k ∙ item_of_each (blocks_of_size file.size) (λ j. held_at j file) k Hole within)
    (λ (past : blocks_of_size file.size ≤ k).
    block_by_place (plain_blocks file) k ∙ get_or_past (plain_blocks file) k Hole (rw length_each past) ∙ sym (heart.ends k past))
    (cases_lt k (blocks_of_size file.size))

-- what holds of a value that was put at a key, and of each other value, holds of the value at any key
pub value_once_put : {V : Type 0} (P : Option V → Type 0) (at key : ℕ) (value : V) (es : List (ℕ × V)) → (at ≡ key → P (Some value)) → (at ≢ key → P (value_at at es)) → P (value_at at (insert_entry key value es))
value_once_put P at key value es here there =
    ⊎_elim
    (λ (same : at ≡ key). subst P (sym (ap (λ (n : ℕ). value_at n (insert_entry key value es)) same ∙ value_of_put key value es)) (here same))
    (λ (apart : at ≢ key). subst P (sym (value_of_other_put at key value es apart)) (there apart))
    (cases_eq at key)

-- the same where a value was taken
pub value_once_taken : {V : Type 0} (P : Option V → Type 0) (at key : ℕ) (es : List (ℕ × V)) → Ascends es → (at ≡ key → P None) → (at ≢ key → P (value_at at es)) → P (value_at at (remove_entry key es))
value_once_taken P at key es ascends here there =
    ⊎_elim
    (λ (same : at ≡ key). subst P (sym (ap (λ (n : ℕ). value_at n (remove_entry key es)) same ∙ value_of_taken key es ascends)) (here same))
    (λ (apart : at ≢ key). subst P (sym (value_of_other_taken at key es apart)) (there apart))
    (cases_eq at key)

-- a measure of a list that grows by the weight of each item
abbrev pub Weighs : {X : Type 0} → (List X → ℕ) → (X → ℕ) → Type 0
Weighs {X} measure weight = (xs : List X) (x : X) → measure (xs ++ x ∷ []) ≡ measure xs + weight x

-- one more item
weighed_more : {X : Type 0} (measure : List X → ℕ) (weight : X → ℕ) → Weighs measure weight → (n : ℕ) (f : ℕ → X) → measure (each (suc n) f) ≡ measure (each n f) + weight (f n)
weighed_more measure weight weighs n f =
    let next : suc n ≡ n + 1 = omega arith in
    ap (λ (m : ℕ). measure (each m f)) next ∙ ap measure (each_more n f) ∙ weighs (each n f) (f n)

-- where one item of a list is another, the measure changes by the weights of the two
pub measure_changed : {X : Type 0} (measure : List X → ℕ) (weight : X → ℕ) → Weighs measure weight → (f g : ℕ → X) (n index : ℕ) → index < n → ((k : ℕ) → k ≢ index → g k ≡ f k)
    → measure (each n g) + weight (f index) ≡ measure (each n f) + weight (g index)
measure_changed measure weight weighs f g zero index within others = absurd (omega arith)
measure_changed measure weight weighs f g (suc n) index within others =
    let more_f = weighed_more measure weight weighs n f in
    let more_g = weighed_more measure weight weighs n g in
    ⊎_elim
    (λ (last : index ≡ n).
    let front : measure (each n g) ≡ measure (each n f) = ap measure (each_same n g f (λ k below. others k (λ (same : k ≡ index). absurd (omega arith)))) in
    let of_f : weight (f index) ≡ weight (f n) = ap (λ (k : ℕ). weight (f k)) last in
    let of_g : weight (g index) ≡ weight (g n) = ap (λ (k : ℕ). weight (g k)) last in
    omega (arith, more_f, more_g, front, of_f, of_g))
    (λ (before : index ≢ n).
    let front = measure_changed measure weight weighs f g n index (omega (arith, before)) others in
    let same : weight (g n) ≡ weight (f n) = ap weight (others n (λ (at : n ≡ index). before (sym at))) in
    omega (arith, more_f, more_g, front, same))
    (cases_eq index n)

-- items that weigh nothing add nothing
pub measure_after : {X : Type 0} (measure : List X → ℕ) (weight : X → ℕ) → Weighs measure weight → (f : ℕ → X) (m n : ℕ) → m ≤ n → ((k : ℕ) → m ≤ k → weight (f k) ≡ 0) → measure (each n f) ≡ measure (each m f)
measure_after measure weight weighs f m zero within none = let all : 0 ≡ m = omega arith in ap (λ (n : ℕ). measure (each n f)) all
measure_after measure weight weighs f m (suc n) within none =
    ⊎_elim
    (λ (all : m ≡ suc n). ap (λ (k : ℕ). measure (each k f)) (sym all))
    (λ (fewer : m ≢ suc n).
    let short : m ≤ n = omega (arith, fewer) in
    let more = weighed_more measure weight weighs n f in
    let front = measure_after measure weight weighs f m n short none in
    omega (arith, more, front, none n short))
    (cases_eq m (suc n))

-- an item weighs no more than all
pub measure_holds : {X : Type 0} (measure : List X → ℕ) (weight : X → ℕ) → Weighs measure weight → (f : ℕ → X) (n index : ℕ) → index < n → weight (f index) ≤ measure (each n f)
measure_holds measure weight weighs f zero index within = absurd (omega arith)
measure_holds measure weight weighs f (suc n) index within =
    let more = weighed_more measure weight weighs n f in
    ⊎_elim
    (λ (last : index ≡ n).
    let here : weight (f index) ≡ weight (f n) = ap (λ (k : ℕ). weight (f k)) last in
    omega (arith, more, here))
    (λ (before : index ≢ n).
    let front = measure_holds measure weight weighs f n index (omega (arith, before)) in
    omega (arith, more, front))
    (cases_eq index n)

-- how many blocks have the stamp, of some and of one
abbrev pub stamped_in : ℕ × ℕ → List PlainBlock → ℕ
stamped_in stamp blocks = count_by (is_stamp stamp) (flat_map stamp_of blocks)

abbrev pub stamped_by : ℕ × ℕ → PlainBlock → ℕ
stamped_by stamp block = count_by (is_stamp stamp) (stamp_of block)

pub stamps_weigh : (stamp : ℕ × ℕ) → Weighs (stamped_in stamp) (stamped_by stamp)
stamps_weigh stamp blocks block =
    ap (count_by (is_stamp stamp)) (flat_map-append stamp_of blocks (block ∷ []) ∙ ap (λ (behind : List (ℕ × ℕ)). flat_map stamp_of blocks ++ behind) (append-nil (stamp_of block)))
    ∙ sum_by-append (λ (other : ℕ × ℕ). cond (is_stamp stamp other) 1 0) (flat_map stamp_of blocks) (stamp_of block)

-- 1 for a block that is no hole
abbrev pub pointer_of : PlainBlock → ℕ
pointer_of block = cond (is_held block) 1 0

pub pointers_weigh : Weighs made_count pointer_of
unfolding made_count
pointers_weigh blocks block = counted_push is_held blocks block

-- two stamps that are one are alike, and a stamp is itself
pub one_stamp : (a b : ℕ × ℕ) → is_stamp a b ≡ true → a ≡ b
one_stamp (entry, index) (other_entry, other_index) is =
    let parts = and_parts (entry == other_entry) (index == other_index) is in
    let entries : entry ≡ other_entry = eqb-true entry other_entry parts.0 in
    let indexes : index ≡ other_index = eqb-true index other_index parts.1 in
    ap (λ (n : ℕ). (n, index)) entries ∙ ap (λ (n : ℕ). (other_entry, n)) indexes

pub same_stamp : (a : ℕ × ℕ) → is_stamp a a ≡ true
same_stamp a = and_from (a.0 == a.0) (a.1 == a.1) (eq-eqb a.0 a.0 refl) (eq-eqb a.1 a.1 refl)

-- the number of a command's stamp tells it from the others
pub other_stamp : (number k j : ℕ) → j ≢ k → is_stamp (number, j) (number, k) ≡ false
other_stamp number k j apart =
    ⊎_elim
    (λ (is : is_stamp (number, j) (number, k) ≡ true).
    let same : j ≡ k = ap (λ (stamp : ℕ × ℕ). stamp.1) (one_stamp (number, j) (number, k) is) in
    absurd (apart same))
    (λ (no : is_stamp (number, j) (number, k) ≡ false). no)
    (cases_Bool (is_stamp (number, j) (number, k)))
