-- The items that fail a test, by taking out one after another that passes.
use Rattle.std.proofs.Common.{◌≡◌, ℕ, zero, suc, ◌+◌, ◌<◌, ◌≤◌, Bool, true, false, nat_lt, cond, List, [], ◌∷◌, length, get_or, Some, None, refl, ap, arith}
use Rattle.std.specs.Prelude.{not, filter, position}
use Rattle.std.specs.List.{remove, prefix_len, position_or_len}
use Rattle.std.proofs.lemmas.Bool.{ltb-false}
use Rattle.std.proofs.lemmas.List.Quantifiers.{position-Some}

left_at : {A : Type 0} (p : A → Bool) (xs : List A) (i : ℕ) (d : A) → i < length xs → p (get_or xs i d) ≡ true → filter (λ x. not (p x)) (remove xs i) ≡ filter (λ x. not (p x)) xs
left_at p [] i d within is = absurd (omega arith)
left_at p (x ∷ xs) zero d within is = rw is refl
left_at p (x ∷ xs) (suc i) d within is =
    let within_rest : i < length xs = omega arith in
    ap (λ ys. cond (not (p x)) (x ∷ ys) ys) (left_at p xs i d within_rest is)

-- one that passes the test goes: which are left stays
pub left_one : {A : Type 0} (p : A → Bool) (xs : List A) (i : ℕ) → position p xs ≡ Some i → filter (λ x. not (p x)) (remove xs i) ≡ filter (λ x. not (p x)) xs
left_one p [] i found = cc
left_one p (x ∷ xs) i found =
    let at = position-Some p (x ∷ xs) i x found in
    left_at p (x ∷ xs) i x at.0 at.1

all_of : {A : Type 0} (p : A → Bool) (xs : List A) → length xs ≤ prefix_len (λ x. not (p x)) xs → filter (λ x. not (p x)) xs ≡ xs
all_of p [] all = refl
all_of p (x ∷ xs) all = by (not (p x)) (all_of p xs) all
  where
    by : (b : Bool) → (length xs ≤ prefix_len (λ y. not (p y)) xs → filter (λ y. not (p y)) xs ≡ xs) → length (x ∷ xs) ≤ cond b (1 + prefix_len (λ y. not (p y)) xs) 0
        → cond b (x ∷ filter (λ y. not (p y)) xs) (filter (λ y. not (p y)) xs) ≡ x ∷ xs
    by true rest long = let rest_long : length xs ≤ prefix_len (λ y. not (p y)) xs = omega arith in ap (λ ys. x ∷ ys) (rest rest_long)
    by false rest long = absurd (omega arith)

-- where none passes, all are left
pub left_none : {A : Type 0} (p : A → Bool) (xs : List A) → position p xs ≡ None → filter (λ x. not (p x)) xs ≡ xs
left_none p xs none = all_of p xs (long (nat_lt (position_or_len p xs) (length xs)) refl none)
  where
    long : (b : Bool) → nat_lt (position_or_len p xs) (length xs) ≡ b → cond b (Some (position_or_len p xs)) None ≡ None → length xs ≤ position_or_len p xs
    long true is said = absurd cc
    long false is said = ltb-false (position_or_len p xs) (length xs) is
