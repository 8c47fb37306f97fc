-- A chain that is followed place by place.
use Rattle.std.specs.Prelude.{ℕ, ◌&&◌, List, ◌++◌, take, drop, Option, Some, None, Result, Ok, Err, if◌then◌else◌}
use Rattle.zc_num.specs.declared.numbers.PlaceAt.{PlaceAt}
use Rattle.zc_tape.specs.Tape.{Image}
use Rattle.zc_root.specs.declared.body.Body.{Body}
use Rattle.zc_catalog.specs.Chain.{next_in}
use Rattle.zc_damage.specs.declared.damage.Damage.{Damage}
use Rattle.zc_state.specs.Reading.{chain_damage, may_follow, is_last}

-- the place after this one of a chain that has been at these places, where the chain goes on
abbrev pub next_after : (devices places : ℕ) → Image → List PlaceAt → PlaceAt → Option PlaceAt
next_after devices places image seen at = if may_follow devices places seen at then next_in (image at.device at.place) else None

-- the last bytes of a chain, so many, where it ends at this place
abbrev pub last_bytes : (devices places : ℕ) → Image → List PlaceAt → ℕ → PlaceAt → Option (List ℕ)
last_bytes devices places image seen count at =
    if may_follow devices places seen at && is_last count (image at.device at.place) then Some (take count (drop 8 (image at.device at.place))) else None

-- the answer, or the damage of the chain at the place with this number
abbrev pub or_broken : {X : Type 0} → Body → PlaceAt → ℕ → Option X → Result X Damage
or_broken body at index None = Err (chain_damage body at index)
or_broken body at index (Some x) = Ok x

-- what is found from a place on, with places and bytes in front of it
abbrev pub ahead : List PlaceAt → List ℕ → Result (List PlaceAt × List ℕ) (PlaceAt × ℕ) → Result (List PlaceAt × List ℕ) (PlaceAt × ℕ)
ahead places bytes (Ok rest) = Ok (places ++ rest.0, bytes ++ rest.1)
ahead places bytes (Err bad) = Err bad

-- a place at which the chain is none is a damage
abbrev pub placed : Body → Result (List PlaceAt × List ℕ) (PlaceAt × ℕ) → Result (List PlaceAt × List ℕ) Damage
placed body (Ok found) = Ok found
placed body (Err bad) = Err (chain_damage body bad.0 bad.1)
