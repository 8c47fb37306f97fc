-- What a heart answers to a command, by what it holds, and what it then does.
use Rattle.std.specs.Prelude.{◌≡◌, ℕ, ◌+◌, ◌-◌, ◌/◌, ◌^◌, ◌<◌, ◌≤◌, ◌==◌, nat_lt, false, IsTrue, List, [], ◌∷◌, ◌++◌, length, replicate, find, slice_get, slice_set, flat_map, count_by, Option, Some, None, Result, Ok, Err, is_some, IsSome, if◌then◌else◌}
use Rattle.std.specs.Option.{ok_or}
use Rattle.std.specs.Str.{bytes_eq}
use Rattle.zc_num.specs.Words.{found_from}
use Rattle.zc_command.specs.declared.command.Command.{Command}
use Rattle.zc_command.specs.declared.command.Command.TheVariants.{Mkds, Rmds, Mount, Create, Remove, Write, Fill, Truncate, Read, Stat, Commit}
use Rattle.zc_command.specs.declared.refusal.Part.TheVariants as part
use Rattle.zc_command.specs.declared.refusal.Why.TheVariants as why
use Rattle.zc_command.specs.declared.refusal.Bad.TheVariants as bad
use Rattle.zc_command.specs.declared.refusal.What.TheVariants as what
use Rattle.zc_command.specs.declared.refusal.Refusal.{Refusal}
use Rattle.zc_command.specs.declared.refusal.Refusal.TheVariants.{Enoent, Ebusy, Eexist, Einval, Enospc}
use Rattle.zc_command.specs.declared.reply.Reply.{Reply}
use Rattle.zc_command.specs.declared.reply.Reply.TheVariants.{Done, Count, Data, Size, No}
use Rattle.zc_plain.specs.declared.plain_pool.PlainBlock.{PlainBlock}
use Rattle.zc_plain.specs.declared.plain_pool.PlainFile.{PlainFile}
use Rattle.zc_plain.specs.declared.plain_pool.PlainDataset.{PlainDataset}
use Rattle.zc_plain.specs.declared.plain_pool.PlainPool.{PlainPool}
use Rattle.zc_plain.specs.declared.tally.MadeBlock.{MadeBlock}
use Rattle.zc_plain.specs.declared.tally.Tally.{Tally}
use Rattle.zc_plain.specs.PlainPool.{dataset_at, with_new_dataset, with_new_file, without_dataset, in_dataset, bytes_from}
use Rattle.zc_plain.specs.IsPlain.{IsPlainFile}
use Rattle.zc_plain.specs.Putting.{first_touched, touched_count}
use Rattle.zc_plain.specs.Written.{written}
use Rattle.zc_plain.specs.Truncated.{is_trimmed, truncated}
use Rattle.zc_plain.specs.Charge.{is_stamp, stamp_of, blocks_made, with_blocks}
use Rattle.zc_plain.specs.Answer.{◌>>=◌, refuse_if, refuse_long, refuse_end, refuse_pointers, most_datasets, most_files, most_charge, most_read, holes_touched}
use Rattle.zc_heart.specs.declared.changes.Change.{Change}
use Rattle.zc_heart.specs.declared.changes.Change.TheVariants.{MakeDataset}
use Rattle.zc_heart.specs.declared.file.HeldBlock.{HeldBlock}
use Rattle.zc_heart.specs.declared.file.HeartFile.{HeartFile}
use Rattle.zc_heart.specs.declared.stamps.Stamps.{Stamps}
use Rattle.zc_heart.specs.declared.directory.Named.{Named}
use Rattle.zc_heart.specs.declared.dataset.Spot.{Spot}
use Rattle.zc_heart.specs.declared.pool_core.HeartDataset.{HeartDataset}
use Rattle.zc_heart.specs.declared.pool_core.Core.{Core}
use Rattle.zc_heart.specs.Directory.{AreBelow, id_of, id_called, is_numbered, with_value}
use Rattle.zc_heart.specs.Stamps.{files_at, Moves, LearnsNothing, holds_number}
use Rattle.zc_heart.specs.Changes.{change_by, without}
use Rattle.zc_heart.specs.Core.{plain_block, plain_blocks, pool_of, charge, Agrees, IsHeartFile, IsCore}
use Rattle.zc_heart.specs.File.{bare, stamps_in, Counts, IsNew, unmade_in, StaysFile, StaysCounted, Writes, Truncates, CountsChange}
use Rattle.zc_heart.specs.Meaning.{Stays, Commands}

-- ---- where things stand

-- the place of the dataset of the name
unfoldable pub dataset_index : List ℕ → Core → Option ℕ
dataset_index name core = found_from (λ (dataset : HeartDataset). bytes_eq dataset.name name) 0 core.datasets

-- the place of a dataset that has to be there
unfoldable pub dataset_of : List ℕ → Core → Result ℕ Refusal
dataset_of name core = ok_or (dataset_index name core) (Enoent part.Dataset)

-- the files of a dataset, none where there is no dataset
abbrev pub files_of : Option HeartDataset → List (Named HeartFile)
files_of None = []
files_of (Some dataset) = dataset.files

-- the files of the dataset at the place
unfoldable pub files_in : ℕ → Core → List (Named HeartFile)
files_in place core = files_of (slice_get core.datasets place)

-- the place of a dataset and the number of a file of it, which have to be there
unfoldable pub spot_of : List ℕ → List ℕ → Core → Result Spot Refusal
spot_of dataset file core = do
  place ← dataset_of dataset core
  id ← ok_or (id_called file (files_in place core)) (Enoent part.File)
  Ok (record { place = place; id = id })

-- the file that stands there
unfoldable pub file_on : Spot → Core → Option (Named HeartFile)
file_on spot core = find (is_numbered spot.id) (files_in spot.place core)

-- what there is to say of a file, and this where there is none
abbrev pub said_of : {X : Type 0} → X → (HeartFile → X) → Option (Named HeartFile) → X
said_of other say None = other
said_of other say (Some named) = say named.value

-- the blocks of the file that stands there, its bytes from the offset on, its size, and how many of its blocks are no holes
abbrev pub blocks_on : Spot → Core → List PlainBlock
blocks_on spot core = said_of [] plain_blocks (file_on spot core)

abbrev pub bytes_on : ℕ → ℕ → Spot → Core → List ℕ
bytes_on offset len spot core = said_of [] (λ file. bytes_from offset len (bare file)) (file_on spot core)

abbrev pub size_on : Spot → Core → ℕ
size_on spot core = said_of 0 (λ file. file.size) (file_on spot core)

abbrev pub made_on : Spot → Core → ℕ
made_on spot core = said_of 0 (λ file. file.pointers) (file_on spot core)

-- how many of so many of its blocks from the first on the open group didn't make
abbrev pub unmade_on : ℕ → ℕ → Spot → Core → ℕ
unmade_on first count spot core = said_of 0 (unmade_in first count) (file_on spot core)

-- how many of its blocks are trimmed where it gets the size
abbrev pub trimmed_count : ℕ → HeartFile → ℕ
trimmed_count size file = if is_trimmed file.size size (plain_blocks file) (size / 4096) then 1 else 0

abbrev pub trimmed_on : ℕ → Spot → Core → ℕ
trimmed_on size spot core = said_of 0 (trimmed_count size) (file_on spot core)

-- how many pointers a dataset has
abbrev pub pointers_of : Option HeartDataset → ℕ
pointers_of None = 0
pointers_of (Some dataset) = dataset.pointers

abbrev pub pointers_at : ℕ → Core → ℕ
pointers_at place core = pointers_of (slice_get core.datasets place)

-- ---- what is done

-- what a command does that isn't refused; the bytes that it makes stand there by the command with the number
pub data Deed : Type 0 where
  Nothing : Deed
  AddDataset : (name : List ℕ) → Deed
  DropDataset : (place : ℕ) → Deed
  AddFile : (place : ℕ) (name : List ℕ) → Deed
  DropFile : Spot → Deed
  PutBytes : (number : ℕ) → Spot → (offset : ℕ) (bytes : List ℕ) → Deed
  SetSize : (number : ℕ) → Spot → (size : ℕ) → Deed

-- the number of a plain file
abbrev pub number_of : PlainFile → ℕ
number_of file = file.id

-- the dataset with the file of the number changed, and without it
abbrev pub with_file_changed : ℕ → (PlainFile → PlainFile) → PlainDataset → PlainDataset
with_file_changed id change dataset = record dataset { files = change_by number_of id change dataset.files }

abbrev pub without_numbered : ℕ → PlainDataset → PlainDataset
without_numbered id dataset = record dataset { files = without number_of id dataset.files }

-- the plain pool after a deed
abbrev pub pool_after_command : Deed → PlainPool → PlainPool
pool_after_command Nothing pool = pool
pool_after_command (AddDataset name) pool = with_new_dataset name pool
pool_after_command (DropDataset place) pool = without_dataset place pool
pool_after_command (AddFile place name) pool = in_dataset place (with_new_file name) pool
pool_after_command (DropFile spot) pool = in_dataset spot.place (without_numbered spot.id) pool
pool_after_command (PutBytes number spot offset bytes) pool = in_dataset spot.place (with_file_changed spot.id (written number offset bytes)) pool
pool_after_command (SetSize number spot size) pool = in_dataset spot.place (with_file_changed spot.id (truncated number size)) pool

-- the number of the last command that made a block, after a deed
abbrev pub last_later : Deed → ℕ → ℕ
last_later Nothing last = last
last_later (AddDataset name) last = last
last_later (DropDataset place) last = last
last_later (AddFile place name) last = last
last_later (DropFile spot) last = last
last_later (PutBytes number spot offset bytes) last = number
last_later (SetSize number spot size) last = number

-- so many blocks of the file that stands there from the first on, made now
abbrev pub blocks_there : Tally → ℕ → ℕ → Spot → Core → List MadeBlock
blocks_there tally first count spot core = blocks_made tally (dataset_at spot.place (pool_of core)).id spot.id first count

-- the blocks whose bytes a deed makes
abbrev pub blocks_by : Tally → Deed → Core → List MadeBlock
blocks_by tally Nothing core = []
blocks_by tally (AddDataset name) core = []
blocks_by tally (DropDataset place) core = []
blocks_by tally (AddFile place name) core = []
blocks_by tally (DropFile spot) core = []
blocks_by tally (PutBytes number spot offset bytes) core = blocks_there tally (first_touched offset) (touched_count offset (length bytes)) spot core
blocks_by tally (SetSize number spot size) core = blocks_there tally (size / 4096) (trimmed_on size spot core) spot core

-- What a deed makes of a heart.
pub record Becomes (deed : Deed) (old new : Core) : Type 0 where
  pub is : IsCore new
  pub pool : pool_of new ≡ pool_after_command deed (pool_of old)
  pub agrees : (tally : Tally) → Agrees tally old → Agrees (with_blocks (blocks_by tally deed old) tally) new
  pub commands : Commands old new
  pub last : new.last ≡ last_later deed old.last

-- nothing leaves the heart as it was
abbrev pub Does : Deed → Core → Core → Type 0
Does Nothing old new = new ≡ old
Does (AddDataset name) old new = Becomes (AddDataset name) old new
Does (DropDataset place) old new = Becomes (DropDataset place) old new
Does (AddFile place name) old new = Becomes (AddFile place name) old new
Does (DropFile spot) old new = Becomes (DropFile spot) old new
Does (PutBytes number spot offset bytes) old new = Becomes (PutBytes number spot offset bytes) old new
Does (SetSize number spot size) old new = Becomes (SetSize number spot size) old new

-- Where memory was wanting, there may be more room than before, and no file has changed.
pub record IsLeft (old new : Core) : Type 0 where
  pub is : IsCore new
  pub stays : Stays old new

-- the reply is that of the answer, and what was done is what the answer says
abbrev pub Gives : Core → Core → Reply → Result (Reply × Deed) Refusal → Type 0
Gives old new reply (Ok done) = (reply ≡ done.0) × Does done.1 old new
Gives old new reply (Err refusal) = (reply ≡ No refusal) × (new ≡ old)

-- ---- the answers

-- a new dataset
unfoldable pub mkds : List ℕ → Core → Result (Reply × Deed) Refusal
mkds dataset core = do
  _ ← refuse_if (is_some (dataset_index dataset core)) Eexist
  _ ← refuse_if (nat_lt most_datasets (length core.datasets + 1)) (Enospc what.Datasets (length core.datasets + 1) most_datasets)
  Ok (Done, AddDataset dataset)

-- a dataset and its files go
unfoldable pub rmds : List ℕ → Core → Result (Reply × Deed) Refusal
rmds dataset core = do
  place ← dataset_of dataset core
  Ok (Done, DropDataset place)

-- each dataset is mounted
unfoldable pub mount : List ℕ → Core → Result (Reply × Deed) Refusal
mount dataset core = do
  place ← dataset_of dataset core
  Err (Ebusy why.Mounted)

-- a new file
unfoldable pub create : List ℕ → List ℕ → Core → Result (Reply × Deed) Refusal
create dataset file core = do
  place ← dataset_of dataset core
  _ ← refuse_if (is_some (id_called file (files_in place core))) Eexist
  _ ← refuse_if (nat_lt (most_files (pool_of core)) (length (files_in place core) + 1)) (Enospc what.Files (length (files_in place core) + 1) (most_files (pool_of core)))
  Ok (Done, AddFile place file)

-- a file goes
unfoldable pub remove : List ℕ → List ℕ → Core → Result (Reply × Deed) Refusal
remove dataset file core = do
  spot ← spot_of dataset file core
  Ok (Done, DropFile spot)

-- the file and its dataset have room for so many bytes from the offset on, of which there are some
unfoldable pub room_in_file : ℕ → ℕ → Spot → Core → Result (Unit {0}) Refusal
room_in_file offset len spot core = do
  _ ← refuse_end (offset + len) (pool_of core)
  refuse_pointers (pointers_at spot.place core + holes_touched offset len (blocks_on spot core)) (pool_of core)

-- refused where the pool would be charged too much once so many more blocks were made
unfoldable pub refuse_charge : ℕ → Core → Result (Unit {0}) Refusal
refuse_charge more core = refuse_if (nat_lt (most_charge (pool_of core)) (charge core + more)) (Enospc what.Charge (charge core + more) (most_charge (pool_of core)))

-- bytes, of which there are some, stand at the offset
unfoldable pub put_some : ℕ → Spot → ℕ → List ℕ → Core → Result (Reply × Deed) Refusal
put_some number spot offset bytes core = do
  _ ← room_in_file offset (length bytes) spot core
  _ ← refuse_charge (unmade_on (first_touched offset) (touched_count offset (length bytes)) spot core) core
  Ok (Count (length bytes), PutBytes number spot offset bytes)

-- no bytes change nothing, and need no room
unfoldable pub put : ℕ → Spot → ℕ → List ℕ → Core → Result (Reply × Deed) Refusal
put number spot offset bytes core = if length bytes == 0 then Ok (Count 0, Nothing) else put_some number spot offset bytes core

-- bytes stand at the offset
unfoldable pub write : ℕ → List ℕ → List ℕ → ℕ → List ℕ → Core → Result (Reply × Deed) Refusal
write number dataset file offset bytes core = do
  spot ← spot_of dataset file core
  put number spot offset bytes core

-- the size of a file is set
unfoldable pub truncate : ℕ → List ℕ → List ℕ → ℕ → Core → Result (Reply × Deed) Refusal
truncate number dataset file size core = do
  spot ← spot_of dataset file core
  _ ← refuse_end size (pool_of core)
  _ ← refuse_charge (unmade_on (size / 4096) (trimmed_on size spot core) spot core) core
  Ok (Done, SetSize number spot size)

-- the bytes from the offset on
unfoldable pub read : List ℕ → List ℕ → ℕ → ℕ → Core → Result (Reply × Deed) Refusal
read dataset file offset len core = do
  spot ← spot_of dataset file core
  _ ← refuse_if (nat_lt most_read len) (Einval bad.Length)
  Ok (Data (bytes_on offset len spot core), Nothing)

-- the size of a file, and how many of its blocks are no holes
unfoldable pub stat : List ℕ → List ℕ → Core → Result (Reply × Deed) Refusal
stat dataset file core = do
  spot ← spot_of dataset file core
  Ok (Size (size_on spot core) (made_on spot core), Nothing)

-- after the names each command has its own refusals
abbrev pub named_answer : ℕ → Core → Command → Result (Reply × Deed) Refusal
named_answer number core (Mkds dataset) = mkds dataset core
named_answer number core (Rmds dataset) = rmds dataset core
named_answer number core (Mount dataset) = mount dataset core
named_answer number core (Create dataset file) = create dataset file core
named_answer number core (Remove dataset file) = remove dataset file core
named_answer number core (Write dataset file offset bytes) = write number dataset file offset bytes core
named_answer number core (Fill dataset file offset len byte) = write number dataset file offset (replicate len byte) core
named_answer number core (Truncate dataset file size) = truncate number dataset file size core
named_answer number core (Read dataset file offset len) = read dataset file offset len core
named_answer number core (Stat dataset file) = stat dataset file core
named_answer number core Commit = Ok (Done, Nothing)

-- the answer to the command that is the entry with the number: names first
unfoldable pub answer : ℕ → Core → Command → Result (Reply × Deed) Refusal
answer number core command = do
  _ ← refuse_long command
  named_answer number core command

-- ---- single steps

-- a dataset without files, and a file without bytes
abbrev pub empty_dataset : (id area : ℕ) → List ℕ → HeartDataset
empty_dataset id area name = record { id = id; area = area; name = name; next_file = 1; pointers = 0; files = []; changed = [] }

abbrev pub empty_file : HeartFile
empty_file = record { size = 0; blocks = []; marks = []; pointers = 0; sized = false }

-- the heart with one more entry in its log
abbrev pub with_logged : Change → Core → Core
with_logged change core = record core { log = core.log ++ change ∷ [] }

-- the heart with a new dataset at the log area
abbrev pub with_dataset : (area : ℕ) → List ℕ → Core → Core
with_dataset area name core =
    record (with_logged (MakeDataset core.next_dataset area name) core) { next_dataset = core.next_dataset + 1; datasets = core.datasets ++ empty_dataset core.next_dataset area name ∷ [] }

-- the dataset with a new file
abbrev pub with_file : List ℕ → HeartDataset → HeartDataset
with_file name dataset =
    record dataset { next_file = dataset.next_file + 1; files = dataset.files ++ record { id = dataset.next_file; name = name; value = empty_file } ∷ [] }

-- What a dataset needs for a new file of the name: a number is left for it, and no file has the number or the name.
pub record IsFreshIn (name : List ℕ) (dataset : HeartDataset) : Type 0 where
  pub number : dataset.next_file < 2 ^ 64 - 1
  pub below : AreBelow dataset.next_file dataset.files
  pub missing : id_called name dataset.files ≡ None

-- What a file needs so that a command changes it.
pub record IsChangeableFile (dataset : HeartDataset) (stamps : Stamps) (file : HeartFile) : Type 0 where
  pub heart : IsHeartFile file
  pub plain : IsPlainFile (bare file)
  pub short : file.size ≤ 2 ^ 28
  pub counted : Counts stamps file
  pub pointers : file.pointers ≤ dataset.pointers

-- What a dataset needs so that the command with the number changes the file of the number.
pub record IsChangeable (id number : ℕ) (dataset : HeartDataset) (stamps : Stamps) : Type 0 where
  pub there : IsSome (find (is_numbered id) dataset.files)
  pub file : (named : Named HeartFile) → find (is_numbered id) dataset.files ≡ Some named → IsChangeableFile dataset stamps named.value
  pub alone : (named other : Named HeartFile) (at : ℕ) → find (is_numbered id) dataset.files ≡ Some named → slice_get dataset.files at ≡ Some other → other.id ≡ id → other ≡ named
  pub few : dataset.pointers ≤ 2 ^ 62
  pub new : IsNew number stamps

-- the stamps of the blocks of some files
abbrev pub stamps_in_files : List (Named HeartFile) → List (ℕ × ℕ)
stamps_in_files files = flat_map (λ (named : Named HeartFile). stamps_in named.value) files

-- the stamp of an entry of a file's map of blocks, and the stamps of entries in their order
abbrev pub entry_stamp : ℕ × Option HeldBlock → List (ℕ × ℕ)
entry_stamp entry = stamp_of (plain_block (Some entry.1))

abbrev pub entry_stamps : List (ℕ × Option HeldBlock) → List (ℕ × ℕ)
entry_stamps entries = flat_map entry_stamp entries

-- each stamp is counted at least as often as a block of the files has it
abbrev pub CountsAll : Stamps → List (Named HeartFile) → Type 0
CountsAll stamps files = (stamp : ℕ × ℕ) → count_by (is_stamp stamp) (stamps_in_files files) ≤ files_at stamps stamp

-- The file is taken out of the dataset, and its blocks are no longer counted.
pub record TakesFile (id : ℕ) (old new : HeartDataset) (before behind : Stamps) : Type 0 where
  pub was : Named HeartFile
  pub there : find (is_numbered id) old.files ≡ Some was
  pub dataset : new ≡ record old { files = without id_of id old.files; pointers = old.pointers - was.value.pointers }
  pub moves : Moves before behind (stamps_in was.value) []
  pub learns : LearnsNothing before behind

-- The file of the number is changed so, and the dataset notes what that makes of it.
pub record ChangesFile (id : ℕ) (Change : HeartFile → HeartFile → Type 0) (old new : HeartDataset) : Type 0 where
  pub was : Named HeartFile
  pub there : find (is_numbered id) old.files ≡ Some was
  pub file : HeartFile
  pub change : Change was.value file
  pub is : IsHeartFile file
  pub dataset : new ≡ record old { files = change_by id_of id (with_value file) old.files; changed = new.changed; pointers = new.pointers }
  pub pointers : new.pointers + was.value.pointers ≡ old.pointers + file.pointers
  pub noted : (other : ℕ) → holds_number other new.changed ≡ false → holds_number other old.changed ≡ false

-- The same of the dataset at a place.
pub record ChangesFileAt (spot : Spot) (Change : HeartFile → HeartFile → Type 0) (old new : List HeartDataset) : Type 0 where
  pub was : HeartDataset
  pub there : slice_get old spot.place ≡ Some was
  pub behind : HeartDataset
  pub changes : ChangesFile spot.id Change was behind
  pub datasets : new ≡ slice_set old spot.place behind

-- the file that was changed is among the changed ones
abbrev pub IsNoted : Spot → List HeartDataset → Type 0
IsNoted spot datasets = (dataset : HeartDataset) → slice_get datasets spot.place ≡ Some dataset → IsTrue (holds_number spot.id dataset.changed)

-- a write, a truncation and want of memory, with what they make of the counts
abbrev pub Puts : (number offset : ℕ) → List ℕ → (before behind : Stamps) → HeartFile → HeartFile → Type 0
Puts number offset bytes before behind old new = Writes number offset bytes old new × CountsChange before behind old new

abbrev pub Cuts : (number size : ℕ) → (before behind : Stamps) → HeartFile → HeartFile → Type 0
Cuts number size before behind old new = Truncates number size old new × CountsChange before behind old new

abbrev pub Keeps : (before behind : Stamps) → HeartFile → HeartFile → Type 0
Keeps before behind old new = StaysFile old new × StaysCounted before behind
