-- The entries of a map from numbers, after one was put or taken: `value_at`, `insert_entry`, `remove_entry`, `Ascends`.
use Rattle.std.proofs.Common.{◌≡◌, ◌≢◌, ◌∙◌, ◌⊎◌, ℕ, ◌<◌, true, false, cond, List, [], ◌∷◌, ◌++◌, Some, None, refl, sym, ap, ⊎_elim, arith}
use Rattle.std.specs.declared.cmp.Ordering.TheVariants.{Less, Equal, Greater}
use Rattle.std.specs.Ordering.{nat_cmp, is_eq, eq_by_cmp}
use Rattle.std.proofs.lemmas.Bool.{cases_order, lt-ltb, le-ltb, eq-eqb, ne_eqb}
use Rattle.std.proofs.lemmas.Cmp.{nat_cmp_total}
use Rattle.std.proofs.lemmas.Map.{lookup-remove_entry}
use Rattle.std.proofs.lemmas.Map.Keys.{IsDistinct-from_sorted}
use Rattle.std.specs.BTreeMap.{is_at}
use Rattle.std.specs.Cmp.{eq_by_cmp_equiv}
use Rattle.std.specs.List.{AllByRecursion}
use Rattle.std.specs.List.Sorted.{IsStrictlySortedBy}
use Rattle.std.specs.Map.{keys_of}
use Rattle.zc_num.specs.Ordered.{value_at, insert_entry, remove_entry, Ascends}

-- how two numbers compare
data Ordered (a b : ℕ) : Type 0 where
  below : a < b → nat_cmp a b ≡ Less → Ordered a b
  same : a ≡ b → nat_cmp a b ≡ Equal → Ordered a b
  above : b < a → nat_cmp a b ≡ Greater → Ordered a b

order_of : (a b : ℕ) → Ordered a b
order_of a b =
    ⊎_elim
    (λ (equal : a ≡ b). same equal (rw (le-ltb a b (omega arith), eq-eqb a b equal)))
    (λ (apart : (a < b) ⊎ (b < a)). ⊎_elim
    (λ (less : a < b). below less (rw (lt-ltb a b less)))
    (λ (more : b < a). above more (rw (le-ltb a b (omega arith), ne_eqb a b (λ equal. absurd (omega arith)))))
    apart)
    (cases_order a b)

-- a key is found at itself alone
at_true : (a b : ℕ) → a ≡ b → is_at (nat_cmp a) b ≡ true
at_true a b equal = elim (order_of a b) [ below less is ↦ absurd (omega arith) | same _ is ↦ ap is_eq is | above more is ↦ absurd (omega arith) ]

at_false : (a b : ℕ) → a ≢ b → is_at (nat_cmp a) b ≡ false
at_false a b apart = elim (order_of a b) [ below less is ↦ ap is_eq is | same equal is ↦ absurd (apart equal) | above more is ↦ ap is_eq is ]

-- a key that was put has its value
pub value_of_put : {V : Type 0} (key : ℕ) (value : V) (es : List (ℕ × V)) → value_at key (insert_entry key value es) ≡ Some value
value_of_put key value [] = rw (at_true key key refl)
value_of_put key value (e ∷ es) = elim (order_of key e.0) [
  | below less is ↦ rw is (rw (at_true key key refl))
  | same equal is ↦ rw is (rw (at_true key e.0 equal))
  | above more is ↦ rw is (rw (at_false key e.0 (λ equal. absurd (omega arith))) (value_of_put key value es))
]

-- another key has the value that it had
pub value_of_other_put : {V : Type 0} (other key : ℕ) (value : V) (es : List (ℕ × V)) → other ≢ key → value_at other (insert_entry key value es) ≡ value_at other es
value_of_other_put other key value [] apart = rw (at_false other key apart)
value_of_other_put other key value (e ∷ es) apart = elim (order_of key e.0) [
  | below less is ↦ rw is (rw (at_false other key apart))
  | same equal is ↦ rw is (rw (at_false other e.0 (λ there. apart (there ∙ sym equal))))
  | above more is ↦ rw is (ap (cond (is_at (nat_cmp other) e.0) (Some e.1)) (value_of_other_put other key value es apart))
]

-- another key keeps its value where one is taken
pub value_of_other_taken : {V : Type 0} (other key : ℕ) (es : List (ℕ × V)) → other ≢ key → value_at other (remove_entry key es) ≡ value_at other es
value_of_other_taken other key [] apart = refl
value_of_other_taken other key (e ∷ es) apart = elim (order_of key e.0) [
  | below less is ↦ rw is (ap (cond (is_at (nat_cmp other) e.0) (Some e.1)) (value_of_other_taken other key es apart))
  | same equal is ↦ rw is (rw (at_false other e.0 (λ there. apart (there ∙ sym equal))))
  | above more is ↦ rw is (ap (cond (is_at (nat_cmp other) e.0) (Some e.1)) (value_of_other_taken other key es apart))
]

-- a key that was taken has no value
pub value_of_taken : {V : Type 0} (key : ℕ) (es : List (ℕ × V)) → Ascends es → value_at key (remove_entry key es) ≡ None
value_of_taken key es ascends =
    lookup-remove_entry {eq = eq_by_cmp nat_cmp} (eq_by_cmp_equiv nat_cmp_total) (is_at (nat_cmp key)) alike key es (IsDistinct-from_sorted nat_cmp (keys_of es) ascends)
    ∙ rw (at_true key key refl)
  where
    alike : (x y : ℕ) → is_at (nat_cmp key) x ≡ true → is_at (nat_cmp key) y ≡ eq_by_cmp nat_cmp x y
    alike x y found = elim (order_of key x) [
      | below less is ↦ let no : false ≡ true = sym (ap is_eq is) ∙ found in cc
      | same equal is ↦ ap (λ k. is_eq (nat_cmp k y)) equal
      | above more is ↦ let no : false ≡ true = sym (ap is_eq is) ∙ found in cc
    ]

-- no entry ascends
pub ascends_none : (V : Type 0) → Ascends {V = V} []
unfolding IsStrictlySortedBy
ascends_none V = tt

-- what holds of each key and of one more, after that one is put
all_put : {V : Type 0} (P : ℕ → Type 0) (key : ℕ) (value : V) (es : List (ℕ × V)) → P key → AllByRecursion P (keys_of es) → AllByRecursion P (keys_of (insert_entry key value es))
all_put P key value [] here others = (here, tt)
all_put P key value (e ∷ es) here others = elim (order_of key e.0) [
  | below less is ↦ rw is (here, others)
  | same equal is ↦ rw is others
  | above more is ↦ rw is (others.0, all_put P key value es here others.1)
]

-- what holds of each key, after one is taken
all_taken : {V : Type 0} (P : ℕ → Type 0) (key : ℕ) (es : List (ℕ × V)) → AllByRecursion P (keys_of es) → AllByRecursion P (keys_of (remove_entry key es))
all_taken P key [] others = tt
all_taken P key (e ∷ es) others = elim (order_of key e.0) [
  | below less is ↦ rw is (others.0, all_taken P key es others.1)
  | same equal is ↦ rw is others.1
  | above more is ↦ rw is (others.0, all_taken P key es others.1)
]

-- a key below one is below all that are above it
all_above : (key least : ℕ) (keys : List ℕ) → nat_cmp key least ≡ Less → AllByRecursion (λ k. nat_cmp least k ≡ Less) keys → AllByRecursion (λ k. nat_cmp key k ≡ Less) keys
all_above key least [] less others = tt
all_above key least (k ∷ keys) less others = (nat_cmp_total.trans key least k less others.0, all_above key least keys less others.1)

-- the entries ascend after one is put
pub ascends_put : {V : Type 0} (key : ℕ) (value : V) (es : List (ℕ × V)) → Ascends es → Ascends (insert_entry key value es)
unfolding IsStrictlySortedBy
ascends_put key value [] ascends = (tt, tt)
ascends_put key value (e ∷ es) ascends = elim (order_of key e.0) [
  | below less is ↦ rw is ((is, all_above key e.0 (keys_of es) is ascends.0), ascends)
  | same equal is ↦ rw is ascends
  | above more is ↦
      let after : nat_cmp e.0 key ≡ Less = elim (order_of e.0 key) [ below _ less ↦ less | same equal _ ↦ absurd (omega arith) | above less _ ↦ absurd (omega arith) ] in
      rw is (all_put (λ k. nat_cmp e.0 k ≡ Less) key value es after ascends.0, ascends_put key value es ascends.1)
]

-- the entries ascend after one is taken
pub ascends_taken : {V : Type 0} (key : ℕ) (es : List (ℕ × V)) → Ascends es → Ascends (remove_entry key es)
unfolding IsStrictlySortedBy
ascends_taken key [] ascends = tt
ascends_taken key (e ∷ es) ascends = elim (order_of key e.0) [
  | below less is ↦ rw is (all_taken (λ k. nat_cmp e.0 k ≡ Less) key es ascends.0, ascends_taken key es ascends.1)
  | same equal is ↦ rw is ascends.1
  | above more is ↦ rw is (all_taken (λ k. nat_cmp e.0 k ≡ Less) key es ascends.0, ascends_taken key es ascends.1)
]

-- a key above all others is put after them
pub put_last : {V : Type 0} (key : ℕ) (value : V) (es : List (ℕ × V)) → AllByRecursion (λ (e : ℕ × V). e.0 < key) es → insert_entry key value es ≡ es ++ (key, value) ∷ []
put_last key value [] lower = refl
put_last {V} key value (e ∷ es) lower = elim (order_of key e.0) [
  | below less is ↦ absurd (omega (arith, lower.0))
  | same equal is ↦ absurd (omega (arith, lower.0))
  | above more is ↦ rw is (ap (λ (t : List (ℕ × V)). e ∷ t) (put_last key value es lower.1))
]
