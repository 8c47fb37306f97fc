-- Which bytes stand at which places of an image.
use Rattle.std.specs.Prelude.{◌≡◌, ◌⊎◌, ◌<◌, ◌||◌, ℕ, Bool, true, false, List, [], ◌∷◌}
use Rattle.zc_num.specs.declared.numbers.PlaceAt.{PlaceAt}
use Rattle.zc_tape.specs.Tape.{Image, is_at}

-- the bytes of one place
pub record Put : Type 0 where
  pub at : PlaceAt
  pub bytes : List ℕ

-- the image has these bytes at these places
abbrev pub Holds : Image → List Put → Type 0
Holds image [] = Unit {0}
Holds image (put ∷ puts) = (image put.at.device put.at.place ≡ put.bytes) × Holds image puts

-- one of the puts is at the place
abbrev pub owns : List Put → ℕ → ℕ → Bool
owns [] d p = false
owns (put ∷ puts) d p = is_at put.at.device put.at.place d p || owns puts d p

-- the put is one of these
abbrev pub IsAmong : Put → List Put → Type 0
IsAmong put [] = ⊥
IsAmong put (other ∷ puts) = (put ≡ other) ⊎ IsAmong put puts

-- the images have the same bytes at the places of the puts
abbrev pub Agrees : List Put → Image → Image → Type 0
Agrees puts before after = (d p : ℕ) → owns puts d p ≡ true → after d p ≡ before d p

-- no two of the puts are at one place
abbrev pub AreDistinct : List Put → Type 0
AreDistinct [] = Unit {0}
AreDistinct (put ∷ puts) = (owns puts put.at.device put.at.place ≡ false) × AreDistinct puts

-- no put is at a place of the roots
abbrev pub NotAtRoots : List Put → Type 0
NotAtRoots puts = (place : ℕ) → place < 4 → owns puts 0 place ≡ false

-- the blocks, each at its place; what has no partner is left out
abbrev pub at_places : List PlaceAt → List (List ℕ) → List Put
at_places [] blocks = []
at_places (at ∷ places) [] = []
at_places (at ∷ places) (block ∷ blocks) = record { at = at; bytes = block } ∷ at_places places blocks

-- one of the places is the named one
abbrev pub has_place : List PlaceAt → ℕ → ℕ → Bool
has_place [] d p = false
has_place (at ∷ places) d p = is_at at.device at.place d p || has_place places d p

-- no two of the places are one
abbrev pub AreApart : List PlaceAt → Type 0
AreApart [] = Unit {0}
AreApart (at ∷ places) = (has_place places at.device at.place ≡ false) × AreApart places
