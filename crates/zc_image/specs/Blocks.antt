-- What stands at a place.
use Rattle.std.specs.Prelude.{◌≡◌, ℕ, List, length}
use Rattle.std.specs.List.{AllByRecursion}
use Rattle.zc_num.specs.declared.numbers.PlaceAt.{PlaceAt}
use Rattle.zc_wire.specs.Numbers.{IsBytes}
use Rattle.zc_tape.specs.Tape.{Image}

-- 4,096 bytes
abbrev pub IsBlock : List ℕ → Type 0
IsBlock block = (length block ≡ 4096) × IsBytes block

-- the image has 4,096 bytes at each of the places
abbrev pub AreBlocksAt : Image → List PlaceAt → Type 0
AreBlocksAt image places = AllByRecursion (λ (at : PlaceAt). IsBlock (image at.device at.place)) places
