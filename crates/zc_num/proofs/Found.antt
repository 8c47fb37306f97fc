-- Where the first item that passes a test stands, `found_from test k xs`.
use Rattle.std.proofs.Common.{◌≡◌, ℕ, zero, suc, ◌+◌, ◌-◌, ◌<◌, ◌≤◌, Bool, true, false, List, [], ◌∷◌, length, get_or, Some, None, ⊎_elim, arith}
use Rattle.std.proofs.lemmas.Bool.{cases_Bool}
use Rattle.zc_num.specs.Words.{found_from}

-- what is known of an index that is found: it is in range, its item passes, and none before it does
pub record IsFirst {X : Type 0} (test : X → Bool) (k : ℕ) (xs : List X) (index : ℕ) : Type 0 where
  pub from : k ≤ index
  pub within : index < k + length xs
  pub passes : (d : X) → test (get_or xs (index - k) d) ≡ true
  pub before : (i : ℕ) (d : X) → i < index - k → test (get_or xs i d) ≡ false

-- after an item that fails, the first is as far as it is among the others
behind : {X : Type 0} (test : X → Bool) (k : ℕ) (x : X) (xs : List X) (index : ℕ) → test x ≡ false → IsFirst test (k + 1) xs index → IsFirst test k (x ∷ xs) index
behind {X} test k x xs index fails first =
    let place : index - k ≡ suc (index - (k + 1)) = omega (arith, first.from) in
    let before : (i : ℕ) (d : X) → i < index - k → test (get_or (x ∷ xs) i d) ≡ false = λ i d near. earlier i d (omega arith) in
    record {
      from = omega (arith, first.from);
      within = omega (arith, first.within);
      passes = λ d. rw place (first.passes d);
      before = before;
    }
  where
    earlier : (i : ℕ) (d : X) → i < suc (index - (k + 1)) → test (get_or (x ∷ xs) i d) ≡ false
    earlier zero d near = fails
    earlier (suc i) d near = first.before i d (omega arith)

-- what is found is the first that passes
pub found_is_first : {X : Type 0} (test : X → Bool) (k : ℕ) (xs : List X) (index : ℕ) → found_from test k xs ≡ Some index → IsFirst test k xs index
found_is_first test k [] index found = cc
found_is_first {X} test k (x ∷ xs) index found =
    ⊎_elim
    (λ (passes : test x ≡ true).
    let here : Some k ≡ Some index = rw passes at found in
    let same : k ≡ index = cc in
    let none : index - k ≡ 0 = omega arith in
    record {
      from = omega arith;
      within = omega arith;
      passes = λ d. rw none passes;
      before = λ i d near. absurd (omega arith);
    })
    (λ (fails : test x ≡ false).
    let there : found_from test (k + 1) xs ≡ Some index = rw fails at found in
    behind test k x xs index fails (found_is_first test (k + 1) xs index there))
    (cases_Bool (test x))

-- where none is found, none passes
pub none_passes : {X : Type 0} (test : X → Bool) (k : ℕ) (xs : List X) → found_from test k xs ≡ None → (i : ℕ) (d : X) → i < length xs → test (get_or xs i d) ≡ false
none_passes test k [] missing i d within = absurd (omega arith)
none_passes test k (x ∷ xs) missing i d within =
    ⊎_elim
    (λ (passes : test x ≡ true).
    let here : Some k ≡ None = rw passes at missing in
    cc)
    (λ (fails : test x ≡ false).
    let there : found_from test (k + 1) xs ≡ None = rw fails at missing in
    at_item (none_passes test (k + 1) xs there) i fails within)
    (cases_Bool (test x))
  where
    at_item : ((i : ℕ) (d : _) → i < length xs → test (get_or xs i d) ≡ false) → (i : ℕ) → test x ≡ false → i < length (x ∷ xs) → test (get_or (x ∷ xs) i d) ≡ false
    at_item others zero fails within = fails
    at_item others (suc i) fails within = others i d (omega arith)
