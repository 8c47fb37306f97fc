-- What a row of numbers gives by the entries at them is what the entries give in their order.
use Rattle.std.proofs.Common.{◌≡◌, ◌∙◌, ℕ, zero, suc, ◌+◌, ◌<◌, ◌≤◌, Bool, true, false, cond, List, [], ◌∷◌, ◌++◌, map, length, Option, Some, None, refl, sym, ap, subst, ⊎_elim, arith}
use Rattle.std.specs.Prelude.{flat_map, count_by}
use Rattle.std.specs.List.{AllByRecursion, range_with_len}
use Rattle.std.specs.Map.{keys_of}
use Rattle.std.specs.BTreeMap.{is_at}
use Rattle.std.specs.Ordering.{nat_cmp}
use Rattle.std.specs.Option.{option_map}
use Rattle.std.proofs.lemmas.Bool.{cases_lt}
use Rattle.std.proofs.lemmas.List.{append_assoc, append-nil}
use Rattle.std.proofs.lemmas.List.Sums.{sum_by-cons}
use Rattle.zc_num.specs.Words.{each}
use Rattle.zc_num.specs.Ordered.{value_at, insert_entry}
use Rattle.zc_num.proofs.Entries.{put_last}
use Rattle.zc_tree.specs.Spelling.{AscendFrom}
use Rattle.zc_plain.specs.declared.plain_pool.PlainBlock.{PlainBlock}
use Rattle.zc_plain.specs.declared.plain_pool.PlainBlock.TheVariants.{Hole, Made}
use Rattle.zc_plain.specs.PlainPool.{is_made, made_count}
use Rattle.zc_plain.specs.Charge.{stamp_of}
use Rattle.zc_heart.proofs.ListLaws.{some_of, one_item, no_item, each_of, all_append}
use Rattle.zc_heart.proofs.SlotLaws.{value_here, value_past, none_below}

-- ---- rows

-- numbers that ascend are at least the least
pub above_least : (least : ℕ) (numbers : List ℕ) → AscendFrom least numbers → AllByRecursion (λ n. least ≤ n) numbers
above_least least [] ascend = tt
above_least least (number ∷ numbers) ascend =
    (ascend.0, each_of (λ n. number + 1 ≤ n) (λ n. least ≤ n) numbers (λ n le. let least_is = ascend.0 in omega (arith, least_is)) (above_least (number + 1) numbers ascend.1))

-- two functions that agree from a number on
range_same : {B : Type 0} (f g : ℕ → List B) (n from : ℕ) → ((k : ℕ) → from ≤ k → f k ≡ g k) → flat_map f (range_with_len from n) ≡ flat_map g (range_with_len from n)
range_same f g zero from agree = refl
range_same f g (suc n) from agree = λ i. agree from (omega arith) i ++ range_same f g n (from + 1) (λ k above. agree k (omega arith)) i

abbrev keys : {V : Type 0} → List (ℕ × V) → List ℕ
keys es = map (λ entry. entry.0) es

-- numbers without an entry give nothing
row_none : {V B : Type 0} (give : Option V → List B) → give None ≡ [] → (n from : ℕ) → flat_map (λ k. give (value_at k [])) (range_with_len from n) ≡ []
row_none give none zero from = refl
row_none give none (suc n) from = λ i. none i ++ row_none give none n (from + 1) i

pub row : {V B : Type 0} (give : Option V → List B) → give None ≡ [] → (n from : ℕ) (es : List (ℕ × V)) → AscendFrom from (keys es) → AllByRecursion (λ (e : ℕ × V). e.0 < from + n) es
    → flat_map (λ k. give (value_at k es)) (range_with_len from n) ≡ flat_map (λ (e : ℕ × V). give (Some e.1)) es
row give none zero from [] ascend low = refl
row give none zero from (e ∷ es) ascend low = let least = ascend.0 in let most = low.0 in absurd (omega (arith, least, most))
row give none (suc n) from [] ascend low = row_none give none (suc n) from
row {V} {B} give none (suc n) from (e ∷ es) ascend low =
    let least = ascend.0 in
    ⊎_elim
    (λ (before : from < e.0).
    let later : AscendFrom (from + 1) (keys (e ∷ es)) = (omega arith, ascend.1) in
    let above : AllByRecursion (λ k. from < k) (keys_of (e ∷ es)) = each_of (λ k. from + 1 ≤ k) (λ k. from < k) (keys (e ∷ es)) (λ k le. omega arith) (above_least (from + 1) (keys (e ∷ es)) later) in
    let nothing : give (value_at from (e ∷ es)) ≡ [] = ap give (none_below from (e ∷ es) above) ∙ none in
    ap (λ (front : List B). front ++ flat_map (λ k. give (value_at k (e ∷ es))) (range_with_len (from + 1) n)) nothing
    ∙ row give none n (from + 1) (e ∷ es) later (each_of (λ (x : ℕ × V). x.0 < from + suc n) (λ (x : ℕ × V). x.0 < (from + 1) + n) (e ∷ es) (λ x below. omega arith) low))
    (λ (at : e.0 ≤ from).
    let same : from ≡ e.0 = omega (arith, least) in
    let here : give (value_at from (e ∷ es)) ≡ give (Some e.1) = ap give (value_here from e.0 e.1 es same) in
    let rest : flat_map (λ k. give (value_at k (e ∷ es))) (range_with_len (from + 1) n) ≡ flat_map (λ k. give (value_at k es)) (range_with_len (from + 1) n) =
    range_same (λ k. give (value_at k (e ∷ es))) (λ k. give (value_at k es)) n (from + 1) (λ k above. ap give (value_past k e.0 e.1 es (λ equal. absurd (omega (arith, same, equal))))) in
    let later : AscendFrom (from + 1) (keys es) = subst (λ (m : ℕ). AscendFrom (m + 1) (keys es)) (sym same) ascend.1 in
    let others = row give none n (from + 1) es later (each_of (λ (x : ℕ × V). x.0 < from + suc n) (λ (x : ℕ × V). x.0 < (from + 1) + n) es (λ x below. omega arith) low.1) in
    λ i. here i ++ (rest ∙ others) i)
    (cases_lt from e.0)

-- the same of the items of `each`
flat_mapped : {X Y B : Type 0} (g : Y → List B) (f : X → Y) (xs : List X) → flat_map g (map f xs) ≡ flat_map (λ x. g (f x)) xs
flat_mapped g f [] = refl
flat_mapped g f (x ∷ xs) = ap (λ (rest : List _). g (f x) ++ rest) (flat_mapped g f xs)

pub row_of_each : {V Y B : Type 0} (g : Y → List B) (f : Option V → Y) → g (f None) ≡ [] → (n : ℕ) (es : List (ℕ × V)) → AscendFrom 0 (keys es) → AllByRecursion (λ (e : ℕ × V). e.0 < n) es
    → flat_map g (each n (λ k. f (value_at k es))) ≡ flat_map (λ (e : ℕ × V). g (f (Some e.1))) es
unfolding each
row_of_each {V} g f none n es ascend low =
    flat_mapped g (λ k. f (value_at k es)) (range_with_len 0 n)
    ∙ row (λ slot. g (f slot)) none n 0 es ascend (each_of (λ (x : ℕ × V). x.0 < n) (λ (x : ℕ × V). x.0 < 0 + n) es (λ x below. omega arith) low)

-- ---- entries one after the other

-- entries that are put in ascending order stand in that order
pub put_in_order : {V W : Type 0} (f : V → W) (put : List (ℕ × W) → List (ℕ × V) → List (ℕ × W)) → ((front : List (ℕ × W)) → put front [] ≡ front)
    → ((front : List (ℕ × W)) (e : ℕ × V) (es : List (ℕ × V)) → put front (e ∷ es) ≡ put (insert_entry e.0 (f e.1) front) es)
    → (least : ℕ) (front : List (ℕ × W)) (es : List (ℕ × V)) → AllByRecursion (λ (e : ℕ × W). e.0 < least) front → AscendFrom least (keys es) → put front es ≡ front ++ map (λ (e : ℕ × V). (e.0, f e.1)) es
put_in_order f put none more least front [] lower ascend = none front ∙ sym (append-nil front)
put_in_order {V} {W} f put none more least front (e ∷ es) lower ascend =
    let least_is = ascend.0 in
    let low : AllByRecursion (λ (x : ℕ × W). x.0 < e.0) front = each_of (λ (x : ℕ × W). x.0 < least) (λ (x : ℕ × W). x.0 < e.0) front (λ x below. omega (arith, least_is)) lower in
    let last : insert_entry e.0 (f e.1) front ≡ front ++ (e.0, f e.1) ∷ [] = put_last e.0 (f e.1) front low in
    let higher : AllByRecursion (λ (x : ℕ × W). x.0 < e.0 + 1) (front ++ (e.0, f e.1) ∷ []) =
    all_append (λ (x : ℕ × W). x.0 < e.0 + 1) front ((e.0, f e.1) ∷ []) (each_of (λ (x : ℕ × W). x.0 < e.0) (λ (x : ℕ × W). x.0 < e.0 + 1) front (λ x below. omega arith) low) (omega arith, tt) in
    more front e es ∙ ap (λ (entries : List (ℕ × W)). put entries es) last
    ∙ put_in_order f put none more (e.0 + 1) (front ++ (e.0, f e.1) ∷ []) es higher ascend.1
    ∙ append_assoc front ((e.0, f e.1) ∷ []) (map (λ (x : ℕ × V). (x.0, f x.1)) es)

-- the value at a key among entries of which each value was changed
pub value_mapped : {V W : Type 0} (f : V → W) (key : ℕ) (es : List (ℕ × V)) → value_at key (map (λ (e : ℕ × V). (e.0, f e.1)) es) ≡ option_map f (value_at key es)
value_mapped f key [] = refl
value_mapped {V} {W} f key (e ∷ es) = by (value_mapped f key es) (is_at (nat_cmp key) e.0) where
  by : value_at key (map (λ (x : ℕ × V). (x.0, f x.1)) es) ≡ option_map f (value_at key es) → (here : Bool)
      → cond here (some_of (f e.1)) (value_at key (map (λ (x : ℕ × V). (x.0, f x.1)) es)) ≡ option_map f (cond here (some_of e.1) (value_at key es))
  by rest true = refl
  by rest false = rest

-- what holds of each value holds of one that is there
pub value_has : {V : Type 0} (P : V → Type 0) (key : ℕ) (es : List (ℕ × V)) (v : V) → AllByRecursion (λ (e : ℕ × V). P e.1) es → value_at key es ≡ Some v → P v
value_has P key [] v all there = no_item v there
value_has {V} P key (e ∷ es) v all there = by (λ later. value_has P key es v all.1 later) (is_at (nat_cmp key) e.0) there where
  by : (value_at key es ≡ Some v → P v) → (here : Bool) → cond here (some_of e.1) (value_at key es) ≡ Some v → P v
  by rest true is = subst P (one_item e.1 v is) all.0
  by rest false is = rest is

-- past all keys there is none
pub none_past : {V : Type 0} (key : ℕ) (es : List (ℕ × V)) → AllByRecursion (λ (e : ℕ × V). e.0 < key) es → value_at key es ≡ None
none_past key [] low = refl
none_past key (e ∷ es) low = let below = low.0 in value_past key e.0 e.1 es (λ equal. absurd (omega (arith, below, equal))) ∙ none_past key es low.1

-- ---- blocks that were made

-- as many were made as there are stamps
pub made_by_stamps : (blocks : List PlainBlock) → made_count blocks ≡ length (flat_map stamp_of blocks)
unfolding made_count
made_by_stamps [] = refl
made_by_stamps (Hole ∷ blocks) = let rest : count_by is_made blocks ≡ length (flat_map stamp_of blocks) = made_by_stamps blocks in omega (arith, rest, sum_by-cons (λ (block : PlainBlock). cond (is_made block) 1 0) Hole blocks)
made_by_stamps (Made entry index bytes ∷ blocks) =
    let rest : count_by is_made blocks ≡ length (flat_map stamp_of blocks) = made_by_stamps blocks in
    let long : length (flat_map stamp_of (Made entry index bytes ∷ blocks)) ≡ suc (length (flat_map stamp_of blocks)) = refl in
    omega (arith, rest, long, sum_by-cons (λ (block : PlainBlock). cond (is_made block) 1 0) (Made entry index bytes) blocks)
