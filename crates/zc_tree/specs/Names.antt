-- Names that differ from each other.
use Rattle.std.specs.Prelude.{◌≡◌, ℕ, Bool, false, List, [], ◌∷◌}
use Rattle.std.specs.List.{list_any}
use Rattle.std.specs.Str.{bytes_eq}

-- the name is one of these
abbrev pub is_among : List ℕ → List (List ℕ) → Bool
is_among name names = list_any (λ other. bytes_eq other name) names

-- no name is one of the others, nor comes twice
abbrev pub AreNewTo : List (List ℕ) → List (List ℕ) → Type 0
AreNewTo others [] = Unit {0}
AreNewTo others (name ∷ names) = (is_among name others ≡ false) × AreNewTo (name ∷ others) names
