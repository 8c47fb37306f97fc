-- What an entry changes of a plain pool, and what it leaves: promises that are read without what the commands are made of.
use Rattle.std.specs.Prelude.{◌≡◌, ◌≢◌, ◌⊎◌, ℕ, ◌+◌, ◌-◌, ◌<◌, ◌≤◌, max, min, Bool, true, false, List, [], ◌∷◌, length, replicate, slice_get, slice_index, find, Option, Some, None}
use Rattle.std.specs.Option.{option_and_then}
use Rattle.std.specs.Str.{bytes_eq}
use Rattle.zc_command.specs.declared.command.Command.{Command}
use Rattle.zc_command.specs.declared.command.Command.TheVariants.{Mkds, Rmds, Mount, Create, Remove, Write, Fill, Truncate, Read, Stat, Commit}
use Rattle.zc_command.specs.declared.refusal.Refusal.{Refusal}
use Rattle.zc_command.specs.declared.reply.Reply.{Reply}
use Rattle.zc_command.specs.declared.reply.Reply.TheVariants.{Done, Count, Data, Size, No}
use Rattle.zc_command.specs.Names.{names_of}
use Rattle.zc_plain.specs.declared.entry.Entry.{Entry}
use Rattle.zc_plain.specs.declared.entry.Entry.TheVariants.{Ask, Answer, Seal, Finish}
use Rattle.zc_plain.specs.declared.plain_pool.PlainFile.{PlainFile}
use Rattle.zc_plain.specs.declared.plain_pool.PlainDataset.{PlainDataset}
use Rattle.zc_plain.specs.declared.plain_pool.PlainPool.{PlainPool}
use Rattle.zc_plain.specs.PlainPool.{byte_of, made_count, pointers_in, new_file, new_dataset}
use Rattle.zc_plain.specs.Charge.{charge_of}
use Rattle.zc_plain.specs.Answer.{most_charge, most_pointers}
use Rattle.zc_plain.specs.History.{PlainState}
use Rattle.zc_plain.specs.IsPlain.{StandsAt}

-- the dataset of the name, where there is one
unfoldable pub dataset_named : List ℕ → PlainPool → Option PlainDataset
dataset_named name pool = find (λ (dataset : PlainDataset). bytes_eq dataset.name name) pool.datasets

-- the file of the name among those of a dataset, where there is one
unfoldable pub file_among : List ℕ → PlainDataset → Option PlainFile
file_among name dataset = find (λ (file : PlainFile). bytes_eq file.name name) dataset.files

-- the file of the name in the dataset of the name, where both are there
unfoldable pub file_named : List ℕ → List ℕ → PlainPool → Option PlainFile
file_named dataset file pool = option_and_then (file_among file) (dataset_named dataset pool)

-- a file was there with its number and its name, or its number was never given in the dataset
abbrev pub IsOldOrNewFile : PlainDataset → PlainFile → Type 0
IsOldOrNewFile before file = ((place : ℕ) × (was : PlainFile) × StandsAt before.files place was × (was.id ≡ file.id) × (was.name ≡ file.name)) ⊎ (before.next_file ≤ file.id)

-- the dataset later on: it is the same one, and its files are those that it had, or new ones
pub record LivesOn (before after : PlainDataset) : Type 0 where
  pub number : before.id ≡ after.id
  pub name : before.name ≡ after.name
  pub next : before.next_file ≤ after.next_file
  pub files : (place : ℕ) (file : PlainFile) → StandsAt after.files place file → IsOldOrNewFile before file

-- a dataset was there, or its number was never given in the pool
abbrev pub IsOldOrNew : PlainPool → PlainDataset → Type 0
IsOldOrNew before dataset = ((place : ℕ) × (was : PlainDataset) × StandsAt before.datasets place was × LivesOn was dataset) ⊎ (before.next_dataset ≤ dataset.id)

-- the pool later on: each of its datasets was there with its number and its name, or has a number that none had before
pub record GivesNoNumberTwice (before after : PlainPool) : Type 0 where
  pub next : before.next_dataset ≤ after.next_dataset
  pub datasets : (place : ℕ) (dataset : PlainDataset) → StandsAt after.datasets place dataset → IsOldOrNew before dataset

-- the file once the bytes were written at the offset: they stand there, every other byte is as it was, and it ends where the one
-- or the other ends; no bytes change nothing
pub record IsWritten (offset : ℕ) (bytes : List ℕ) (before after : PlainFile) : Type 0 where
  pub none : length bytes ≡ 0 → after ≡ before
  pub size : 0 < length bytes → after.size ≡ max before.size (offset + length bytes)
  pub inside : (i : ℕ) → offset ≤ i → i < offset + length bytes → byte_of after i ≡ slice_index bytes (i - offset)
  pub beside : (i : ℕ) → (i < offset) ⊎ (offset + length bytes ≤ i) → byte_of after i ≡ byte_of before i

-- the file once its size was set: bytes before both sizes are as they were, and all others are 0
pub record IsTruncated (size : ℕ) (before after : PlainFile) : Type 0 where
  pub is_size : after.size ≡ size
  pub kept : (i : ℕ) → i < size → i < before.size → byte_of after i ≡ byte_of before i
  pub zeros : (i : ℕ) → (size ≤ i) ⊎ (before.size ≤ i) → byte_of after i ≡ 0

-- the bytes are those of the file from the offset on before its size, at most so many
pub record AreBytesOf (file : PlainFile) (offset len : ℕ) (bytes : List ℕ) : Type 0 where
  pub count : length bytes ≡ min len (file.size - offset)
  pub each_one : (i : ℕ) → i < length bytes → slice_index bytes i ≡ byte_of file (offset + i)

-- there was no dataset of the name, and now there is an empty one with the number that was the next
abbrev pub DatasetCame : List ℕ → PlainPool → PlainPool → Type 0
DatasetCame name old new = (dataset_named name old ≡ None) × (dataset_named name new ≡ Some (new_dataset old.next_dataset name))

-- there was a dataset of the name, and now there is none
abbrev pub DatasetWent : List ℕ → PlainPool → PlainPool → Type 0
DatasetWent name old new = (was : PlainDataset) × (dataset_named name old ≡ Some was) × (dataset_named name new ≡ None)

-- there was no file of the names in a dataset that was there, and now there is an empty one with the number that was the dataset's next
abbrev pub FileCame : List ℕ → List ℕ → PlainPool → PlainPool → Type 0
FileCame dataset file old new =
    (owner : PlainDataset) × (dataset_named dataset old ≡ Some owner) × (file_named dataset file old ≡ None) × (file_named dataset file new ≡ Some (new_file owner.next_file file))

-- there was a file of the names, and now there is none
abbrev pub FileWent : List ℕ → List ℕ → PlainPool → PlainPool → Type 0
FileWent dataset file old new = (was : PlainFile) × (file_named dataset file old ≡ Some was) × (file_named dataset file new ≡ None)

-- there was a file of the names, and it is there with its number, changed so
abbrev pub FileBecame : (PlainFile → PlainFile → Type 0) → List ℕ → List ℕ → PlainPool → PlainPool → Type 0
FileBecame Change dataset file old new =
    (before : PlainFile) × (after : PlainFile) × (file_named dataset file old ≡ Some before) × (file_named dataset file new ≡ Some after) × (before.id ≡ after.id) × Change before after

-- there is a file of the names of which this holds, and nothing has changed
abbrev pub FileHas : (PlainFile → Type 0) → List ℕ → List ℕ → PlainPool → PlainPool → Type 0
FileHas P dataset file old new = (it : PlainFile) × (file_named dataset file old ≡ Some it) × P it × (new ≡ old)

-- the reply is a refusal, or it is Done and this holds
abbrev pub UnlessDone : Type 0 → Option Reply → Type 0
UnlessDone P (Some Done) = P
UnlessDone P (Some (No refusal)) = Unit {0}
UnlessDone P other = ⊥

-- the reply is a refusal, or it is a count of which this holds
abbrev pub UnlessCount : (ℕ → Type 0) → Option Reply → Type 0
UnlessCount P (Some (Count count)) = P count
UnlessCount P (Some (No refusal)) = Unit {0}
UnlessCount P other = ⊥

-- the reply is a refusal, or it is bytes of which this holds
abbrev pub UnlessData : (List ℕ → Type 0) → Option Reply → Type 0
UnlessData P (Some (Data bytes)) = P bytes
UnlessData P (Some (No refusal)) = Unit {0}
UnlessData P other = ⊥

-- the reply is a refusal, or it is a size and a number of pointers of which this holds
abbrev pub UnlessSize : (ℕ → ℕ → Type 0) → Option Reply → Type 0
UnlessSize P (Some (Size size pointers)) = P size pointers
UnlessSize P (Some (No refusal)) = Unit {0}
UnlessSize P other = ⊥

-- what a command has done where its reply is no refusal
abbrev pub HasDone : PlainPool → PlainPool → Option Reply → Command → Type 0
HasDone old new reply (Mkds dataset) = UnlessDone (DatasetCame dataset old new) reply
HasDone old new reply (Rmds dataset) = UnlessDone (DatasetWent dataset old new) reply
HasDone old new reply (Mount dataset) = UnlessDone ⊥ reply
HasDone old new reply (Create dataset file) = UnlessDone (FileCame dataset file old new) reply
HasDone old new reply (Remove dataset file) = UnlessDone (FileWent dataset file old new) reply
HasDone old new reply (Write dataset file offset bytes) = UnlessCount (λ count. (count ≡ length bytes) × FileBecame (IsWritten offset bytes) dataset file old new) reply
HasDone old new reply (Fill dataset file offset len byte) = UnlessCount (λ count. (count ≡ len) × FileBecame (IsWritten offset (replicate len byte)) dataset file old new) reply
HasDone old new reply (Truncate dataset file size) = UnlessDone (FileBecame (IsTruncated size) dataset file old new) reply
HasDone old new reply (Read dataset file offset len) = UnlessData (λ bytes. FileHas (λ it. AreBytesOf it offset len bytes) dataset file old new) reply
HasDone old new reply (Stat dataset file) = UnlessSize (λ size pointers. FileHas (λ it. (size ≡ it.size) × (pointers ≡ made_count it.blocks)) dataset file old new) reply
HasDone old new reply Commit = (reply ≡ None) × (new ≡ old)

-- an entry that asks nothing gets no reply, and changes no pool
abbrev pub HasActed : PlainPool → PlainPool → Option Reply → Entry → Type 0
HasActed old new reply (Ask session command) = HasDone old new reply command
HasActed old new reply (Answer session told) = (reply ≡ None) × (new ≡ old)
HasActed old new reply (Seal group) = (reply ≡ None) × (new ≡ old)
HasActed old new reply (Finish group held) = (reply ≡ None) × (new ≡ old)

-- the names in an entry
abbrev pub names_in : Entry → List (List ℕ)
names_in (Ask session command) = names_of command
names_in (Answer session told) = []
names_in (Seal group) = []
names_in (Finish group held) = []

-- the entry finishes a group
abbrev pub is_finish : Entry → Bool
is_finish (Ask session command) = false
is_finish (Answer session told) = false
is_finish (Seal group) = false
is_finish (Finish group held) = true

-- no dataset has more pointers than it may
abbrev pub HaveFewPointers : PlainPool → Type 0
HaveFewPointers pool = (place : ℕ) (dataset : PlainDataset) → StandsAt pool.datasets place dataset → pointers_in dataset ≤ most_pointers pool

-- the promises
pub record Promises (old new : PlainState) (reply : Option Reply) (entry : Entry) : Type 0 where
  -- a refusal changes neither the pool nor what is counted
  pub refused : (refusal : Refusal) → reply ≡ Some (No refusal) → (new.pool ≡ old.pool) × (new.tally ≡ old.tally)
  -- nothing but a finished group lowers the charge
  pub charge : is_finish entry ≡ false → charge_of old.tally ≤ charge_of new.tally
  -- and nothing else brings it above its limit
  pub within : is_finish entry ≡ false → charge_of old.tally ≤ most_charge old.pool → charge_of new.tally ≤ most_charge new.pool
  -- nothing brings the pointers of a dataset above their limit
  pub pointers : HaveFewPointers old.pool → HaveFewPointers new.pool
  -- the limits stay
  pub limits : new.pool.limits ≡ old.pool.limits
  -- no number is given twice, of a dataset or of a file in one
  pub numbers : GivesNoNumberTwice old.pool new.pool
  -- a dataset that isn't named stays as it is
  pub other_datasets : (dataset : List ℕ) → slice_get (names_in entry) 0 ≢ Some dataset → dataset_named dataset new.pool ≡ dataset_named dataset old.pool
  -- a file that isn't named stays as it is, unless its whole dataset is removed
  pub other_files : (dataset file : List ℕ) → names_in entry ≢ dataset ∷ file ∷ [] → ((session : ℕ) → entry ≢ Ask session (Rmds dataset)) → file_named dataset file new.pool ≡ file_named dataset file old.pool
  -- what isn't refused is done
  pub acted : HasActed old.pool new.pool reply entry
