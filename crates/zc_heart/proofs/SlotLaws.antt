-- Entries in ascending order of their keys, and the slots of a plain file.
use Rattle.std.proofs.Common.{◌≡◌, ◌≢◌, ◌∙◌, ◌⊎◌, ℕ, zero, suc, ◌+◌, ◌<◌, ◌≤◌, true, false, true≢false, List, [], ◌∷◌, Option, Some, None, refl, sym, ap, ⊎_elim, arith}
use Rattle.std.specs.declared.cmp.Ordering.TheVariants.{Less, Equal, Greater}
use Rattle.std.specs.Ordering.{nat_cmp, is_eq}
use Rattle.std.specs.BTreeMap.{is_at}
use Rattle.std.specs.List.{AllByRecursion}
use Rattle.std.specs.List.Sorted.{IsStrictlySortedBy}
use Rattle.std.specs.Map.{keys_of}
use Rattle.std.proofs.lemmas.Bool.{cases_order, cases_eq, lt-ltb, le-ltb, eq-eqb, ne_eqb}
use Rattle.zc_num.specs.Ordered.{value_at, Ascends}
use Rattle.zc_blkptr.specs.declared.ptr.Ptr.{Ptr}
use Rattle.zc_plain.specs.declared.plain_pool.PlainBlock.{PlainBlock}
use Rattle.zc_plain.specs.declared.plain_pool.PlainBlock.TheVariants.{Hole, Made}
use Rattle.zc_plain.specs.PlainPool.{block_at}
use Rattle.zc_heart.specs.Changes.{Placing, slots_from}

abbrev some_of : {X : Type 0} → X → Option X
some_of x = Some x

-- ---- look-ups

-- how two numbers compare
less_is : (a b : ℕ) → a < b → nat_cmp a b ≡ Less
less_is a b less = rw (lt-ltb a b less)

same_is : (a b : ℕ) → a ≡ b → nat_cmp a b ≡ Equal
same_is a b equal = rw (le-ltb a b (omega arith), eq-eqb a b equal)

more_is : (a b : ℕ) → b < a → nat_cmp a b ≡ Greater
more_is a b more = rw (le-ltb a b (omega arith), ne_eqb a b (λ equal. absurd (omega arith)))

-- a key is found at itself alone
pub at_true : (a b : ℕ) → a ≡ b → is_at (nat_cmp a) b ≡ true
at_true a b equal = ap is_eq (same_is a b equal)

pub at_false : (a b : ℕ) → a ≢ b → is_at (nat_cmp a) b ≡ false
at_false a b apart =
    ⊎_elim
    (λ (equal : a ≡ b). absurd (apart equal))
    (λ (other : (a < b) ⊎ (b < a)). ⊎_elim (λ (less : a < b). ap is_eq (less_is a b less)) (λ (more : b < a). ap is_eq (more_is a b more)) other)
    (cases_order a b)

pub at_means : (a b : ℕ) → is_at (nat_cmp a) b ≡ true → a ≡ b
at_means a b found =
    ⊎_elim
    (λ (equal : a ≡ b). equal)
    (λ (other : (a < b) ⊎ (b < a)). absurd (true≢false (sym found ∙ at_false a b (λ equal. absurd (⊎_elim (λ (less : a < b). omega arith) (λ (more : b < a). omega arith) other)))))
    (cases_order a b)

-- the value of the first entry, and of those after it
pub value_here : {V : Type 0} (key k : ℕ) (v : V) (es : List (ℕ × V)) → key ≡ k → value_at key ((k, v) ∷ es) ≡ Some v
value_here key k v es equal = rw (at_true key k equal)

pub value_past : {V : Type 0} (key k : ℕ) (v : V) (es : List (ℕ × V)) → key ≢ k → value_at key ((k, v) ∷ es) ≡ value_at key es
value_past key k v es apart = rw (at_false key k apart)

-- a key that is below all has no value
pub none_below : {V : Type 0} (key : ℕ) (es : List (ℕ × V)) → AllByRecursion (λ k. key < k) (keys_of es) → value_at key es ≡ None
none_below key [] above = refl
none_below key (e ∷ es) above = value_past key e.0 e.1 es (λ equal. absurd (omega (arith, above.0))) ∙ none_below key es above.1

-- what holds of each key
pub all_keys : (P Q : ℕ → Type 0) (ks : List ℕ) → ((k : ℕ) → P k → Q k) → AllByRecursion P ks → AllByRecursion Q ks
all_keys P Q [] step all = tt
all_keys P Q (k ∷ ks) step all = (step k all.0, all_keys P Q ks step all.1)

-- a number that comes before another in the order is below it
pub less_means : (a b : ℕ) → nat_cmp a b ≡ Less → a < b
less_means a b less =
    ⊎_elim
    (λ (equal : a ≡ b). let same = same_is a b equal in cc)
    (λ (other : (a < b) ⊎ (b < a)). ⊎_elim (λ (below : a < b). below) (λ (above : b < a). let more = more_is a b above in cc) other)
    (cases_order a b)

pub keys_above : (least : ℕ) (ks : List ℕ) → AllByRecursion (λ k. nat_cmp least k ≡ Less) ks → AllByRecursion (λ k. least < k) ks
keys_above least ks rise = all_keys (λ k. nat_cmp least k ≡ Less) (λ k. least < k) ks (λ k less. less_means least k less) rise

-- entries that ascend, and that have one value at each key, are the same
some_is : {V : Type 0} (x y : V) → some_of x ≡ some_of y → x ≡ y
some_is x y same = cc

none_is : {V A : Type 0} (x : V) → None ≡ some_of x → A
none_is x same = cc

pub same_entries : {V : Type 0} (es fs : List (ℕ × V)) → Ascends es → Ascends fs → ((k : ℕ) → value_at k es ≡ value_at k fs) → es ≡ fs
unfolding IsStrictlySortedBy
same_entries [] [] rise also same = refl
same_entries [] (f ∷ fs) rise also same = none_is f.1 (same f.0 ∙ value_here f.0 f.0 f.1 fs refl)
same_entries (e ∷ es) [] rise also same = none_is e.1 (sym (same e.0) ∙ value_here e.0 e.0 e.1 es refl)
same_entries {V} (e ∷ es) (f ∷ fs) rise also same =
    let past : AllByRecursion (λ k. e.0 < k) (keys_of es) = keys_above e.0 (keys_of es) rise.0 in
    let beyond : AllByRecursion (λ k. f.0 < k) (keys_of fs) = keys_above f.0 (keys_of fs) also.0 in
    ⊎_elim
    (λ (equal : e.0 ≡ f.0).
    let value : e.1 ≡ f.1 = some_is e.1 f.1 (sym (value_here e.0 e.0 e.1 es refl) ∙ same e.0 ∙ value_here e.0 f.0 f.1 fs equal) in
    let rest : es ≡ fs = same_entries es fs rise.1 also.1 (λ k. ⊎_elim
    (λ (at : k ≡ e.0). none_below k es (all_keys (λ n. e.0 < n) (λ n. k < n) (keys_of es) (λ n above. omega (arith, at)) past) ∙ sym (none_below k fs (all_keys (λ n. f.0 < n) (λ n. k < n) (keys_of fs) (λ n above. omega (arith, at, equal)) beyond)))
    (λ (other : k ≢ e.0). sym (value_past k e.0 e.1 es other) ∙ same k ∙ value_past k f.0 f.1 fs (λ at. other (at ∙ sym equal)))
    (cases_eq k e.0)) in
    λ i. (equal i, value i) ∷ rest i)
    (λ (apart : (e.0 < f.0) ⊎ (f.0 < e.0)). ⊎_elim
    (λ (below : e.0 < f.0).
    none_is e.1 (sym (none_below e.0 (f ∷ fs) (below, all_keys (λ n. f.0 < n) (λ n. e.0 < n) (keys_of fs) (λ n above. omega arith) beyond)) ∙ sym (same e.0) ∙ value_here e.0 e.0 e.1 es refl))
    (λ (above : f.0 < e.0).
    none_is f.1 (sym (none_below f.0 (e ∷ es) (above, all_keys (λ n. e.0 < n) (λ n. f.0 < n) (keys_of es) (λ n higher. omega arith) past)) ∙ same f.0 ∙ value_here f.0 f.0 f.1 fs refl))
    apart)
    (cases_order e.0 f.0)

-- ---- the slots of a plain file

-- what a file has at a block, by what stands there
abbrev pub slot_value : Placing → PlainBlock → Option Ptr
slot_value placing Hole = None
slot_value placing (Made entry index bytes) = Some (placing entry index bytes)

-- the keys of slots from a number on
pub slots_above : (placing : Placing) (from : ℕ) (blocks : List PlainBlock) → AllByRecursion (λ k. from ≤ k) (keys_of (slots_from placing from blocks))
slots_above placing from [] = tt
slots_above placing from (Hole ∷ blocks) = all_keys (λ k. from + 1 ≤ k) (λ k. from ≤ k) (keys_of (slots_from placing (from + 1) blocks)) (λ k above. omega arith) (slots_above placing (from + 1) blocks)
slots_above placing from (Made entry index bytes ∷ blocks) =
    (omega arith, all_keys (λ k. from + 1 ≤ k) (λ k. from ≤ k) (keys_of (slots_from placing (from + 1) blocks)) (λ k above. omega arith) (slots_above placing (from + 1) blocks))

-- they ascend
pub slots_ascend : (placing : Placing) (from : ℕ) (blocks : List PlainBlock) → Ascends (slots_from placing from blocks)
unfolding IsStrictlySortedBy
slots_ascend placing from [] = tt
slots_ascend placing from (Hole ∷ blocks) = slots_ascend placing (from + 1) blocks
slots_ascend placing from (Made entry index bytes ∷ blocks) =
    (all_keys (λ k. from + 1 ≤ k) (λ k. nat_cmp from k ≡ Less) (keys_of (slots_from placing (from + 1) blocks)) (λ k above. less_is from k (omega arith)) (slots_above placing (from + 1) blocks), slots_ascend placing (from + 1) blocks)

-- at each block there is what stands there
pub slot_of_block : (placing : Placing) (k from m : ℕ) (blocks : List PlainBlock) → k ≡ from + m → value_at k (slots_from placing from blocks) ≡ slot_value placing (block_at m blocks)
slot_of_block placing k from m [] at = refl
slot_of_block placing k from zero (Hole ∷ blocks) at =
    none_below k (slots_from placing (from + 1) blocks) (all_keys (λ key. from + 1 ≤ key) (λ key. k < key) (keys_of (slots_from placing (from + 1) blocks)) (λ key above. omega (arith, at)) (slots_above placing (from + 1) blocks))
slot_of_block placing k from zero (Made entry index bytes ∷ blocks) at = value_here k from (placing entry index bytes) (slots_from placing (from + 1) blocks) (omega (arith, at))
slot_of_block placing k from (suc m) (Hole ∷ blocks) at = slot_of_block placing k (from + 1) m blocks (omega (arith, at))
slot_of_block placing k from (suc m) (Made entry index bytes ∷ blocks) at =
    value_past k from (placing entry index bytes) (slots_from placing (from + 1) blocks) (λ equal. absurd (omega (arith, at, equal))) ∙ slot_of_block placing k (from + 1) m blocks (omega (arith, at))
