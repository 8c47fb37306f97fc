-- How a dataset's part of a catalogue is read: field by field, each with its rules.
use Rattle.std.specs.Prelude.{ℕ, zero, suc, ◌+◌, ◌*◌, not, ◌&&◌, ◌==◌, nat_lt, nat_le, List, [], ◌∷◌, length, Ok, if◌then◌else◌}
use Rattle.std.specs.List.{list_all, list_any}
use Rattle.std.specs.Str.{bytes_eq}
use Rattle.zc_num.specs.Limits.{files_of, pointers_of, file_bytes_of, log_places_of}
use Rattle.zc_wire.specs.Fields.{Read, ◌>>=◌, u32_field, u64_field, bytes_field, rule}
use Rattle.zc_command.specs.Names.{is_name_byte, most_name}
use Rattle.zc_blkptr.specs.declared.ptr.Ptr.{Ptr}
use Rattle.zc_blkptr.specs.PtrField.{ptr_field}
use Rattle.zc_tree.specs.declared.tree.LogState.{LogState}
use Rattle.zc_tree.specs.declared.tree.LogState.TheVariants.{Normal, Claimed}
use Rattle.zc_tree.specs.declared.tree.File.{File}
use Rattle.zc_tree.specs.declared.tree.Dataset.{Dataset}
use Rattle.zc_tree.specs.Names.{is_among}

-- the length of a name
unfoldable pub name_length_field : List ℕ → Read ℕ
name_length_field bytes = do
  count ← u32_field bytes
  _ ← rule (nat_le 1 count.0 && nat_le count.0 most_name) bytes
  Ok count

-- the bytes of a name
unfoldable pub name_field : ℕ → List ℕ → Read (List ℕ)
name_field count bytes = do
  name ← bytes_field count bytes
  _ ← rule (list_all is_name_byte name.0) bytes
  Ok name

-- an entry of a file of this size, whose block is at least `least`
unfoldable pub entry_field : (devices places size least : ℕ) → List ℕ → Read (ℕ × Ptr)
entry_field devices places size least bytes = do
  block ← u32_field bytes
  _ ← rule (nat_le least block.0 && nat_lt (block.0 * 4096) size) bytes
  ptr ← ptr_field devices places block.1
  Ok ((block.0, ptr.0), ptr.1)

-- so many entries
unfoldable pub entries_field : (devices places size count least : ℕ) → List ℕ → Read (List (ℕ × Ptr))
entries_field devices places size zero least bytes = Ok ([], bytes)
entries_field devices places size (suc count) least bytes = do
  first ← entry_field devices places size least bytes
  others ← entries_field devices places size count (first.0.0 + 1) first.1
  Ok (first.0 ∷ others.0, others.1)

-- a file whose number is at least `least` and below the next one, after files of these names that have `used` pointers
unfoldable pub file_field : (devices places next_file least used : ℕ) → List (List ℕ) → List ℕ → Read File
file_field devices places next_file least used names bytes = do
  id ← u64_field bytes
  _ ← rule (nat_le least id.0 && nat_lt id.0 next_file) bytes
  count ← name_length_field id.1
  name ← name_field count.0 count.1
  _ ← rule (not (is_among name.0 names)) count.1
  size ← u64_field name.1
  _ ← rule (nat_le size.0 (file_bytes_of devices places)) name.1
  pointers ← u32_field size.1
  _ ← rule (nat_le (used + pointers.0) (pointers_of devices places)) size.1
  slots ← entries_field devices places size.0 pointers.0 0 pointers.1
  Ok (record { id = id.0; name = name.0; size = size.0; slots = slots.0 }, slots.1)

-- so many files
unfoldable pub files_field : (devices places next_file count least used : ℕ) → List (List ℕ) → List ℕ → Read (List File)
files_field devices places next_file zero least used names bytes = Ok ([], bytes)
files_field devices places next_file (suc count) least used names bytes = do
  first ← file_field devices places next_file least used names bytes
  others ← files_field devices places next_file count (first.0.id + 1) (used + length first.0.slots) (first.0.name ∷ names) first.1
  Ok (first.0 ∷ others.0, others.1)

-- the epoch and the number of blocks of a claimed log
unfoldable pub claimed_field : (devices places group : ℕ) → List ℕ → Read LogState
claimed_field devices places group bytes = do
  epoch ← u64_field bytes
  _ ← rule (nat_le 1 epoch.0 && nat_lt epoch.0 group) bytes
  blocks ← u32_field epoch.1
  _ ← rule (nat_le 1 blocks.0 && nat_le blocks.0 (log_places_of devices places)) epoch.1
  Ok (Claimed epoch.0 blocks.0, blocks.1)

-- the state of a log
unfoldable pub log_field : (devices places group : ℕ) → List ℕ → Read LogState
log_field devices places group bytes = do
  state ← u32_field bytes
  _ ← rule (nat_le state.0 1) bytes
  if state.0 == 0 then Ok (Normal, state.1) else claimed_field devices places group state.1

-- the number, the slot and the name of a dataset after others: a greater number, another slot and another name
unfoldable pub head_field : ℕ → List Dataset → List ℕ → Read (ℕ × ℕ × List ℕ)
head_field next_dataset others bytes = do
  id ← u64_field bytes
  _ ← rule (nat_le 1 id.0 && (nat_lt id.0 next_dataset && list_all (λ other. nat_lt other.id id.0) others)) bytes
  slot ← u32_field id.1
  _ ← rule (nat_lt slot.0 8 && not (list_any (λ other. other.slot == slot.0) others)) id.1
  count ← name_length_field slot.1
  name ← name_field count.0 count.1
  _ ← rule (not (list_any (λ other. bytes_eq other.name name.0) others)) count.1
  Ok ((id.0, slot.0, name.0), name.1)

-- a dataset after others
unfoldable pub dataset_field : (devices places group next_dataset : ℕ) → List Dataset → List ℕ → Read Dataset
dataset_field devices places group next_dataset others bytes = do
  head ← head_field next_dataset others bytes
  next_file ← u64_field head.1
  _ ← rule (nat_le 1 next_file.0) head.1
  log ← log_field devices places group next_file.1
  count ← u32_field log.1
  _ ← rule (nat_le count.0 (files_of devices places)) log.1
  files ← files_field devices places next_file.0 count.0 1 0 [] count.1
  Ok (record { id = head.0.0; slot = head.0.1; name = head.0.2; next_file = next_file.0; log = log.0; files = files.0 }, files.1)
