-- Lists with two more items at their end.
use Rattle.std.proofs.Common.{◌≡◌, ℕ, zero, suc, ◌+◌, List, [], ◌∷◌, ◌++◌, length, take, refl, ap, arith, append_assoc}
use Rattle.std.specs.Prelude.{slice_set}
use Rattle.std.proofs.Math.Seq.{take-append_seam}

-- one pushed after another
pub two_after : {A : Type 0} (xs : List A) (a b : A) → (xs ++ a ∷ []) ++ b ∷ [] ≡ xs ++ a ∷ b ∷ []
two_after xs a b = append_assoc xs (a ∷ []) (b ∷ [])

-- what stood there before more was pushed
pub front_of_more : {A : Type 0} (xs more : List A) → take (length xs) (xs ++ more) ≡ xs
front_of_more xs more = take-append_seam xs more

-- the last two, each set in its place
pub two_set : {A : Type 0} (xs : List A) (place : ℕ) (a b : A) → length xs ≡ place + 2 → slice_set (slice_set xs place a) (place + 1) b ≡ take place xs ++ a ∷ b ∷ []
two_set [] place a b long = absurd (omega arith)
two_set (x ∷ []) zero a b long = absurd (omega arith)
two_set (x ∷ y ∷ []) zero a b long = refl
two_set (x ∷ y ∷ z ∷ zs) zero a b long = absurd (omega arith)
two_set (x ∷ xs) (suc place) a b long =
    let next : suc place + 1 ≡ suc (place + 1) = omega arith in
    let long_rest : length xs ≡ place + 2 = omega arith in
    rw next (ap (λ ys. x ∷ ys) (two_set xs place a b long_rest))

-- one that was pushed, and then set
pub one_set : {A : Type 0} (xs : List A) (a b : A) → slice_set (xs ++ a ∷ []) (length xs) b ≡ xs ++ b ∷ []
one_set [] a b = refl
one_set (x ∷ xs) a b = ap (λ ys. x ∷ ys) (one_set xs a b)
