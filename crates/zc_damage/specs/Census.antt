-- What is counted of each place once, and of what.
use Rattle.std.specs.Prelude.{◌≡◌, ℕ, ◌+◌, Bool, List, [], ◌∷◌, length, Option, Some, None}
use Rattle.zc_num.specs.Words.{each}
use Rattle.zc_num.specs.Limits.{total_of}
use Rattle.zc_num.specs.declared.numbers.PlaceAt.{PlaceAt}
use Rattle.zc_blkptr.specs.declared.ptr.Ptr.{Ptr}
use Rattle.zc_damage.specs.declared.place_use.PlaceUse.{PlaceUse}
use Rattle.zc_damage.specs.Words.{or_else, when}
use Rattle.zc_damage.specs.Places.{pointers_to, chain_has}
use Rattle.zc_damage.specs.Checks.{differ, other_block}

-- what a census was made of, which is all that contracts see of it
pub record Counted : Type 0 where
  pub devices : ℕ
  pub places : ℕ
  pub reach : List Ptr
  pub chain : List PlaceAt

-- the census is that of these pointers and of these places of the catalogue, in a pool of this size
abbrev pub IsCensus : (devices places : ℕ) → List Ptr → List PlaceAt → Counted → Type 0
IsCensus devices places reach chain census = census ≡ record { devices = devices; places = places; reach = reach; chain = chain }

-- ---- the use of one place

-- the first of the pointers to a place
abbrev pub first_in : List Ptr → Option Ptr
first_in [] = None
first_in (first ∷ ptrs) = Some first

-- the physical birth of the first of them that isn't of the block of the first
abbrev pub other_in : List Ptr → Option ℕ
other_in [] = None
other_in (first ∷ ptrs) = other_block first ptrs

-- the use of a place with these pointers to it
abbrev pub use_by : List Ptr → Bool → PlaceUse
use_by ptrs in_catalogue = record { first = first_in ptrs; pointers = length ptrs; other = other_in ptrs; in_catalogue = in_catalogue }

-- the use of the place with this number
abbrev pub use_of : (places : ℕ) → List Ptr → List PlaceAt → ℕ → PlaceUse
use_of places reach chain number = use_by (pointers_to places reach number) (chain_has places chain number)

-- the uses of all places
abbrev pub uses_of : (devices places : ℕ) → List Ptr → List PlaceAt → List PlaceUse
uses_of devices places reach chain = each (total_of devices places) (use_of places reach chain)

-- the birth that is known of another block, or where none is, this pointer's, if it is of another block than the first
abbrev pub other_with : Option Ptr → Option ℕ → Ptr → Option ℕ
other_with None other ptr = None
other_with (Some first) other ptr = or_else other (when (differ first ptr) ptr.physical)

-- the pointer, where it is the first
abbrev pub first_with : Option Ptr → Ptr → Option Ptr
first_with first ptr = or_else first (Some ptr)

-- the use with one more pointer
abbrev pub with_pointer : PlaceUse → Ptr → PlaceUse
with_pointer used ptr = record used { first = first_with used.first ptr; pointers = used.pointers + 1; other = other_with used.first used.other ptr }
