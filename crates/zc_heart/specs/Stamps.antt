-- How many files share each block, and which numbers are among some.
use Rattle.std.specs.Prelude.{◌≡◌, ◌⊎◌, ℕ, ◌+◌, ◌<◌, ◌==◌, Bool, true, slice_get, List, count_by, Option, Some, None, if◌then◌else◌, is_some, IsTrue}
use Rattle.std.specs.BTreeMap.{is_at}
use Rattle.std.specs.Map.{lookup}
use Rattle.std.specs.List.{list_any}
use Rattle.std.specs.Ordering.{nat_cmp, ordering_then}
use Rattle.std.specs.declared.cmp.Ordering.{Ordering}
use Rattle.zc_blkptr.specs.declared.ptr.Ptr.{Ptr}
use Rattle.zc_plain.specs.Charge.{is_stamp}
use Rattle.zc_heart.specs.declared.stamps.Stamp.{Stamp}
use Rattle.zc_heart.specs.declared.stamps.Count.{Count}
use Rattle.zc_heart.specs.declared.stamps.Stamps.{Stamps}
use Rattle.zc_heart.specs.declared.stamps.Numbers.{Numbers}

-- stamps stand in the order of their commands, and those of one command in the order of their numbers there
abbrev pub stamp_cmp : Stamp → Stamp → Ordering
stamp_cmp a b = ordering_then (nat_cmp a.entry b.entry) (nat_cmp a.index b.index)

-- the stamp as a pair, and the pair as a stamp
abbrev pub pair_of : Stamp → ℕ × ℕ
pair_of stamp = (stamp.entry, stamp.index)

abbrev pub stamp_at : ℕ × ℕ → Stamp
stamp_at pair = record { entry = pair.0; index = pair.1 }

-- what is kept of the block with the stamp
abbrev pub count_at : Stamps → ℕ × ℕ → Option Count
count_at stamps stamp = lookup (is_at (stamp_cmp (stamp_at stamp))) stamps

-- how many blocks of files have the stamp
abbrev pub files_of : Option Count → ℕ
files_of None = 0
files_of (Some count) = count.files

abbrev pub files_at : Stamps → ℕ × ℕ → ℕ
files_at stamps stamp = files_of (count_at stamps stamp)

-- where the block with the stamp is on the disks, where that is known
abbrev pub ptr_of : Option Count → Option Ptr
ptr_of None = None
ptr_of (Some count) = count.placed

abbrev pub ptr_at : Stamps → ℕ × ℕ → Option Ptr
ptr_at stamps stamp = ptr_of (count_at stamps stamp)

-- the stamp has an entry, and so another file can join in without memory
abbrev pub has_room : Stamps → ℕ × ℕ → Bool
has_room stamps stamp = is_some (count_at stamps stamp)

-- each stamp is counted as often as it stands in the list
abbrev pub AreCounted : Stamps → List (ℕ × ℕ) → Type 0
AreCounted stamps list = (stamp : ℕ × ℕ) → files_at stamps stamp ≡ count_by (is_stamp stamp) list

-- how often each stamp stands in the one list and the other makes the difference of the counts
abbrev pub Moves : (old new : Stamps) → (before behind : List (ℕ × ℕ)) → Type 0
Moves old new before behind =
    (stamp : ℕ × ℕ) → files_at new stamp + count_by (is_stamp stamp) before ≡ files_at old stamp + count_by (is_stamp stamp) behind

-- of this stamp this is kept now, and of each other what was
abbrev pub Keeps : (old new : Stamps) → ℕ × ℕ → Option Count → Type 0
Keeps old new at kept = (stamp : ℕ × ℕ) → count_at new stamp ≡ (if is_stamp at stamp then kept else count_at old stamp)

-- a stamp that had room still has it
abbrev pub KeepsRoom : Stamps → Stamps → Type 0
KeepsRoom old new = (stamp : ℕ × ℕ) → IsTrue (has_room old stamp) → IsTrue (has_room new stamp)

-- where it is known to be of a block that some file has is put in; of all others nothing is learnt
abbrev pub Learns : (old new : Stamps) → ℕ × ℕ → Ptr → Type 0
Learns old new at placed =
    (stamp : ℕ × ℕ) (ptr : Ptr) → ptr_at new stamp ≡ Some ptr → (ptr_at old stamp ≡ Some ptr) ⊎ ((stamp ≡ at) × (ptr ≡ placed) × (0 < files_at old stamp))

-- no pointer is known that wasn't
abbrev pub LearnsNothing : Stamps → Stamps → Type 0
LearnsNothing old new = (stamp : ℕ × ℕ) (ptr : Ptr) → ptr_at new stamp ≡ Some ptr → ptr_at old stamp ≡ Some ptr

-- where each block with one of the stamps is, is known, if some file has it; and what was known of such a block stays known
abbrev pub AreKnown : (old new : Stamps) → List Stamp → Type 0
AreKnown old new list = (k : ℕ) (stamp : Stamp) → slice_get list k ≡ Some stamp → 0 < files_at old (pair_of stamp) → is_some (ptr_at new (pair_of stamp)) ≡ true

abbrev pub StaysKnown : Stamps → Stamps → Type 0
StaysKnown old new = (stamp : ℕ × ℕ) → 0 < files_at old stamp → is_some (ptr_at old stamp) ≡ true → is_some (ptr_at new stamp) ≡ true

-- where each block is that some file has, is known
abbrev pub IsAllKnown : Stamps → Type 0
IsAllKnown stamps = (stamp : ℕ × ℕ) → 0 < files_at stamps stamp → is_some (ptr_at stamps stamp) ≡ true

-- the number is among these
abbrev pub holds_number : ℕ → Numbers → Bool
holds_number number numbers = list_any (λ (one : ℕ). one == number) numbers
