-- The first of many that is hit.
use Rattle.std.specs.Prelude.{ℕ, zero, suc, ◌+◌, Bool, List, [], ◌∷◌, Option, Some, None, if◌then◌else◌}

-- the one, or where it is None the other
abbrev pub or_else : {Y : Type 0} → Option Y → Option Y → Option Y
or_else None other = other
or_else (Some y) other = Some y

-- the item, where the test holds
abbrev pub when : {Y : Type 0} → Bool → Y → Option Y
when test y = if test then Some y else None

-- what f makes of the first item of which it makes something
abbrev pub first_of : {X Y : Type 0} → (X → Option Y) → List X → Option Y
first_of f [] = None
first_of f (x ∷ xs) = or_else (f x) (first_of f xs)

-- the same for the n numbers from k on
abbrev pub first_from : {Y : Type 0} → (ℕ → Option Y) → ℕ → ℕ → Option Y
first_from f k zero = None
first_from f k (suc n) = or_else (f k) (first_from f (k + 1) n)
