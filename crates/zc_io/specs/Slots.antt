-- What stands under each name of a shelf in memory.
use Rattle.std.specs.Prelude.{◌≡◌, ◌||◌, ℕ, Bool, true, false, List, Option, Some, None, is_some, if◌then◌else◌}
use Rattle.std.specs.List.{find}
use Rattle.std.specs.Option.{option_map}
use Rattle.std.specs.Str.{bytes_eq}
use Rattle.zc_io.specs.declared.slots.Stored.{Stored}
use Rattle.zc_io.specs.declared.slots.Slot.{Slot}
use Rattle.zc_io.specs.declared.slots.Slots.{Slots}
use Rattle.zc_tape.specs.declared.memory.MemoryDisks.{MemoryDisks}

-- what stands under a name before anything was put there
abbrev pub nothing : Stored
nothing = record { laid = None; given = None; out = false }

-- what a slot holds, and nothing where there is no slot
abbrev pub held_in : Option Slot → Stored
held_in None = nothing
held_in (Some slot) = slot.held

-- the first slot of a name
abbrev pub slot_in : List Slot → List ℕ → Option Slot
slot_in slots name = find (λ slot. bytes_eq slot.name name) slots

-- what the first slot of a name holds
abbrev pub held_at : List Slot → List ℕ → Stored
held_at slots name = held_in (slot_in slots name)

-- what stands under each name
abbrev pub under : Slots → List ℕ → Stored
under s = held_at s.slots.items

-- the name has a slot
abbrev pub has_slot : Slots → List ℕ → Bool
has_slot s name = is_some (slot_in s.slots.items name)

-- the same with something else under one name
abbrev pub with_held : (List ℕ → Stored) → List ℕ → Stored → List ℕ → Stored
with_held holds name held n = if bytes_eq name n then held else holds n

-- a disk set lies there
abbrev pub is_here : Stored → Bool
is_here held = is_some held.laid || is_some held.given

-- the disk set that lies there
abbrev pub disks_in : Stored → Option MemoryDisks
disks_in held = elim held.laid [ None ↦ held.given | Some unused ↦ Some unused.disks ]

-- once what lay there was handed out
abbrev pub taken_out : Stored
taken_out = record { laid = None; given = None; out = true }

-- once the name is handed out no more: a set that was brought lies there, or else what lay there before
abbrev pub brought_back : Stored → Option MemoryDisks → Stored
brought_back held None = record held { out = false }
brought_back held (Some disks) = record { laid = None; given = Some disks; out = false }

-- a set with no call on its tape was laid under a name, and nothing else changed
pub record IsLaid (old new : List ℕ → Stored) (name : List ℕ) (disks : MemoryDisks) : Type 0 where
  pub there : option_map (λ unused. unused.disks) (new name).laid ≡ Some disks
  pub others : (n : List ℕ) → bytes_eq name n ≡ false → new n ≡ old n
