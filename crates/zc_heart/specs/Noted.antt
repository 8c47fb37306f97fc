-- What a seal makes of a heart: the changes that it hands out, the stamps of the blocks that they put, and the files as they are once the
-- next group begins; and what is taken in of a finished group.
use Rattle.std.specs.Prelude.{◌≡◌, ℕ, ◌+◌, false, if◌then◌else◌, List, [], ◌∷◌, ◌++◌, map, flat_map, find, Option, Some, None}
use Rattle.std.specs.List.{AllByRecursion}
use Rattle.std.specs.List.Sorted.{IsStrictlySortedBy}
use Rattle.std.specs.Ordering.{nat_cmp}
use Rattle.zc_num.specs.Ordered.{value_at, Ascends}
use Rattle.zc_heart.specs.declared.changes.Now.{Now}
use Rattle.zc_heart.specs.declared.changes.Now.TheVariants as now
use Rattle.zc_heart.specs.declared.changes.Change.{Change}
use Rattle.zc_heart.specs.declared.changes.Change.TheVariants.{Size, Put}
use Rattle.zc_heart.specs.declared.changes.Sealed.{Sealed}
use Rattle.zc_blkptr.specs.declared.ptr.Ptr.{Ptr}
use Rattle.zc_heart.specs.declared.stamps.Stamp.{Stamp}
use Rattle.zc_heart.specs.declared.stamps.Stamps.{Stamps}
use Rattle.zc_heart.specs.declared.file.HeldBlock.{HeldBlock}
use Rattle.zc_heart.specs.declared.file.Mark.{Mark}
use Rattle.zc_heart.specs.declared.file.HeartFile.{HeartFile}
use Rattle.zc_heart.specs.declared.directory.Named.{Named}
use Rattle.zc_heart.specs.declared.pool_core.HeartDataset.{HeartDataset}
use Rattle.zc_heart.specs.declared.pool_core.WaitingGroup.{WaitingGroup}
use Rattle.zc_heart.specs.declared.pool_core.Core.{Core}
use Rattle.zc_heart.specs.Changes.{Where, change_by}
use Rattle.zc_heart.specs.Stamps.{ptr_at}
use Rattle.zc_heart.specs.Core.{is_touched_by}
use Rattle.zc_heart.specs.Directory.{id_of, is_numbered, with_value}

-- ---- what is handed out

-- what stands at a block of a file; where there is none, and where there is room for one, a hole
abbrev pub now_of : Option (Option HeldBlock) → Now
now_of None = now.Hole
now_of (Some None) = now.Hole
now_of (Some (Some held)) = now.Made held.bytes

-- the stamp of what stands there
abbrev pub stamp_of_held : Option (Option HeldBlock) → List Stamp
stamp_of_held None = []
stamp_of_held (Some None) = []
stamp_of_held (Some (Some held)) = record { entry = held.entry; index = held.index } ∷ []

-- the put of a block that is marked, where the open group touched it, and the stamp of what it puts
abbrev pub put_of : (dataset file : ℕ) → HeartFile → ℕ × Mark → List Change
put_of dataset file held marked = if is_touched_by (Some marked.1) then Put dataset file marked.0 (now_of (value_at marked.0 held.blocks)) ∷ [] else []

abbrev pub stamp_put : HeartFile → ℕ × Mark → List Stamp
stamp_put held marked = if is_touched_by (Some marked.1) then stamp_of_held (value_at marked.0 held.blocks) else []

abbrev pub puts_of : (dataset file : ℕ) → HeartFile → List (ℕ × Mark) → List Change
puts_of dataset file held marks = flat_map (put_of dataset file held) marks

abbrev pub stamps_put : HeartFile → List (ℕ × Mark) → List Stamp
stamps_put held marks = flat_map (stamp_put held) marks

-- the size of a file, where the open group set it
abbrev pub sizes_of : (dataset file : ℕ) → HeartFile → List Change
sizes_of dataset file held = if held.sized then Size dataset file held.size ∷ [] else []

-- what is handed out of the file with a number, where it stands
abbrev pub noted_in_file : (dataset : ℕ) → Option (Named HeartFile) → List Change
noted_in_file dataset None = []
noted_in_file dataset (Some named) = sizes_of dataset named.id named.value ++ puts_of dataset named.id named.value named.value.marks

abbrev pub stamps_in_file : Option (Named HeartFile) → List Stamp
stamps_in_file None = []
stamps_in_file (Some named) = stamps_put named.value named.value.marks

-- what is handed out of the files with these numbers
abbrev pub noted_in_files : (dataset : ℕ) → List (Named HeartFile) → List ℕ → List Change
noted_in_files dataset files numbers = flat_map (λ number. noted_in_file dataset (find (is_numbered number) files)) numbers

abbrev pub stamps_in_files : List (Named HeartFile) → List ℕ → List Stamp
stamps_in_files files numbers = flat_map (λ number. stamps_in_file (find (is_numbered number) files)) numbers

-- the marks of a file ascend, where it stands; so do those of the files with these numbers
abbrev pub HasMarks : Option (Named HeartFile) → Type 0
HasMarks None = Unit {0}
HasMarks (Some named) = Ascends named.value.marks

abbrev pub AreMarked : List (Named HeartFile) → List ℕ → Type 0
AreMarked files numbers = AllByRecursion (λ number. HasMarks (find (is_numbered number) files)) numbers

-- the numbers of the changed files ascend, and their marks do
abbrev pub IsMarked : HeartDataset → Type 0
IsMarked dataset = AreMarked dataset.files dataset.changed × IsStrictlySortedBy nat_cmp dataset.changed

-- what is handed out of datasets
abbrev pub noted_in_dataset : HeartDataset → List Change
noted_in_dataset dataset = noted_in_files dataset.id dataset.files dataset.changed

abbrev pub stamps_in_dataset : HeartDataset → List Stamp
stamps_in_dataset dataset = stamps_in_files dataset.files dataset.changed

abbrev pub noted_in : List HeartDataset → List Change
noted_in datasets = flat_map noted_in_dataset datasets

abbrev pub stamps_in_all : List HeartDataset → List Stamp
stamps_in_all datasets = flat_map stamps_in_dataset datasets

-- what is handed out of a heart of whose blocks so many stand
abbrev pub sealed_of : (held : ℕ) → Core → Sealed
sealed_of held core = record { group = core.group; held = held; changes = core.log ++ noted_in core.datasets }

-- ---- how the next group begins

-- the file, untouched
abbrev pub settled_file : HeartFile → HeartFile
settled_file file = record file { marks = []; sized = false }

-- the file with the number untouched, where it stands
abbrev pub settled_found : ℕ → Option (Named HeartFile) → List (Named HeartFile) → List (Named HeartFile)
settled_found number None files = files
settled_found number (Some named) files = change_by id_of number (with_value (settled_file named.value)) files

abbrev pub settled_at : ℕ → List (Named HeartFile) → List (Named HeartFile)
settled_at number files = settled_found number (find (is_numbered number) files) files

-- the files with these numbers untouched
abbrev pub settled_files : List ℕ → List (Named HeartFile) → List (Named HeartFile)
settled_files [] files = files
settled_files (number ∷ numbers) files = settled_files numbers (settled_at number files)

-- the dataset with no file touched
abbrev pub settled_dataset : HeartDataset → HeartDataset
settled_dataset dataset = record dataset { files = settled_files dataset.changed dataset.files; changed = [] }

-- the group as it waits
abbrev pub waiting_of : (held : ℕ) → Core → WaitingGroup
waiting_of held core = record { group = core.group; held = held; made = core.made; stamps = stamps_in_all core.datasets }

-- the heart in its next group
abbrev pub sealed_core : (held : ℕ) → Core → Core
sealed_core held core = record core {
  group = core.group + 1;
  datasets = map settled_dataset core.datasets;
  log = [];
  made = 0;
  waiting = core.waiting ++ waiting_of held core ∷ [];
}

-- ---- what is taken in

-- the stamps of the first group that waits
abbrev pub first_stamps : List WaitingGroup → List Stamp
first_stamps [] = []
first_stamps (waits ∷ others) = waits.stamps

-- where it is known of blocks, they stand there
abbrev pub AreWhere : Where → Stamps → Type 0
AreWhere placing stamps = (entry index : ℕ) (ptr : Ptr) → ptr_at stamps (entry, index) ≡ Some ptr → placing entry index ≡ ptr
