-- What plain files answer to a command: the reply and the next pool, or the first refusal that applies.
use Rattle.std.specs.Prelude.{◌≡◌, ℕ, ◌+◌, ◌/◌, ◌==◌, Bool, nat_lt, List, [], length, replicate, count_by, Option, Some, None, Result, Ok, Err, is_some, if◌then◌else◌}
use Rattle.std.specs.Option.{ok_or, option_map}
use Rattle.std.specs.Result.{result_ok}
use Rattle.std.specs.Str.{bytes_eq}
use Rattle.std.specs.declared.alloc.AllocError.{AllocError}
use Rattle.zc_num.specs.Limits.{files_of, pointers_of, file_bytes_of, data_places_of}
use Rattle.zc_num.specs.Words.{each, found_from}
use Rattle.zc_command.specs.declared.command.Command.{Command}
use Rattle.zc_command.specs.declared.command.Command.TheVariants.{Mkds, Rmds, Mount, Create, Remove, Write, Fill, Truncate, Read, Stat, Commit}
use Rattle.zc_command.specs.declared.refusal.Part.TheVariants as part
use Rattle.zc_command.specs.declared.refusal.Why.TheVariants as why
use Rattle.zc_command.specs.declared.refusal.Bad.TheVariants as bad
use Rattle.zc_command.specs.declared.refusal.What.TheVariants as what
use Rattle.zc_command.specs.declared.refusal.Refusal.{Refusal}
use Rattle.zc_command.specs.declared.refusal.Refusal.TheVariants.{Enoent, Ebusy, Eexist, Einval, Efbig, Enospc, Enametoolong}
use Rattle.zc_command.specs.declared.reply.Reply.{Reply}
use Rattle.zc_command.specs.declared.reply.Reply.TheVariants.{Done, Count, Data, Size, No}
use Rattle.zc_command.specs.Names.{first_long}
use Rattle.zc_plain.specs.declared.finding.Path.{Path}
use Rattle.zc_plain.specs.declared.plain_pool.PlainBlock.{PlainBlock}
use Rattle.zc_plain.specs.declared.plain_pool.PlainFile.{PlainFile}
use Rattle.zc_plain.specs.declared.plain_pool.PlainDataset.{PlainDataset}
use Rattle.zc_plain.specs.declared.plain_pool.PlainPool.{PlainPool}
use Rattle.zc_plain.specs.declared.tally.MadeBlock.{MadeBlock}
use Rattle.zc_plain.specs.declared.tally.Tally.{Tally}
use Rattle.zc_plain.specs.PlainPool.{block_at, is_hole, made_count, dataset_at, file_at, in_dataset, in_file, with_new_dataset, with_new_file, without_dataset, without_file, pointers_in, bytes_from}
use Rattle.zc_plain.specs.Putting.{first_touched, touched_count}
use Rattle.zc_plain.specs.Written.{written}
use Rattle.zc_plain.specs.Truncated.{is_trimmed, truncated}
use Rattle.zc_plain.specs.Charge.{blocks_made, with_blocks, charge_of}

-- the one test and then the other, which goes on with what the first found
infixl 10 ◌>>=◌
abbrev pub ◌>>=◌ : {A B : Type 0} → Result A Refusal → (A → Result B Refusal) → Result B Refusal
(Ok x) >>= f = f x
(Err refusal) >>= f = Err refusal

-- refused where the test holds
abbrev pub refuse_if : Bool → Refusal → Result (Unit {0}) Refusal
refuse_if test refusal = if test then Err refusal else Ok tt

-- refused for a name of this length, where there is one
abbrev pub refuse_length : Option ℕ → Result (Unit {0}) Refusal
refuse_length None = Ok tt
refuse_length (Some len) = Err (Enametoolong len)

-- refused where a name is too long, with the length of the first such
abbrev pub refuse_long : Command → Result (Unit {0}) Refusal
refuse_long command = refuse_length (first_long command)

-- the most datasets that a pool holds
abbrev pub most_datasets : ℕ
most_datasets = 8

-- the most files that a dataset of the pool holds
abbrev pub most_files : PlainPool → ℕ
most_files pool = files_of pool.limits.devices pool.limits.places

-- the most bytes of a file, the most pointers of a dataset, and the most that the pool may be charged
abbrev pub most_bytes : PlainPool → ℕ
most_bytes pool = file_bytes_of pool.limits.devices pool.limits.places

abbrev pub most_pointers : PlainPool → ℕ
most_pointers pool = pointers_of pool.limits.devices pool.limits.places

abbrev pub most_charge : PlainPool → ℕ
most_charge pool = data_places_of pool.limits.devices pool.limits.places

-- the most bytes that are read at once
abbrev pub most_read : ℕ
most_read = 65536

-- the place of the dataset of the name, and of the file
unfoldable pub dataset_place : List ℕ → PlainPool → Option ℕ
dataset_place name pool = found_from (λ (dataset : PlainDataset). bytes_eq dataset.name name) 0 pool.datasets

unfoldable pub file_place : List ℕ → PlainDataset → Option ℕ
file_place name dataset = found_from (λ (file : PlainFile). bytes_eq file.name name) 0 dataset.files

-- the place of a dataset that has to be there
unfoldable pub dataset_of : List ℕ → PlainPool → Result ℕ Refusal
dataset_of dataset pool = ok_or (dataset_place dataset pool) (Enoent part.Dataset)

-- the path of a file that has to be there
unfoldable pub path_of : List ℕ → List ℕ → PlainPool → Result Path Refusal
path_of dataset file pool = do
  place ← dataset_of dataset pool
  file_place ← ok_or (file_place file (dataset_at place pool)) (Enoent part.File)
  Ok (record { dataset = place; file = file_place })

-- a new dataset
unfoldable pub mkds : List ℕ → PlainPool → Result (Reply × PlainPool) Refusal
mkds dataset pool = do
  _ ← refuse_if (is_some (dataset_place dataset pool)) Eexist
  _ ← refuse_if (nat_lt most_datasets (length pool.datasets + 1)) (Enospc what.Datasets (length pool.datasets + 1) most_datasets)
  Ok (Done, with_new_dataset dataset pool)

-- a new file
unfoldable pub create : List ℕ → List ℕ → PlainPool → Result (Reply × PlainPool) Refusal
create dataset file pool = do
  place ← dataset_of dataset pool
  _ ← refuse_if (is_some (file_place file (dataset_at place pool))) Eexist
  _ ← refuse_if (nat_lt (most_files pool) (length (dataset_at place pool).files + 1)) (Enospc what.Files (length (dataset_at place pool).files + 1) (most_files pool))
  Ok (Done, in_dataset place (with_new_file file) pool)

-- a dataset and its files go
unfoldable pub rmds : List ℕ → PlainPool → Result (Reply × PlainPool) Refusal
rmds dataset pool = do
  place ← dataset_of dataset pool
  Ok (Done, without_dataset place pool)

-- each dataset is mounted
unfoldable pub mount : List ℕ → PlainPool → Result (Reply × PlainPool) Refusal
mount dataset pool = do
  place ← dataset_of dataset pool
  Err (Ebusy why.Mounted)

-- a file goes
unfoldable pub remove : List ℕ → List ℕ → PlainPool → Result (Reply × PlainPool) Refusal
remove dataset file pool = do
  path ← path_of dataset file pool
  Ok (Done, in_dataset path.dataset (without_file path.file) pool)

-- the blocks of the file at the path that so many bytes from the offset on touch, of which there are some, made now
abbrev pub blocks_touched : Tally → ℕ → ℕ → Path → PlainPool → List MadeBlock
blocks_touched tally offset len path pool =
    blocks_made tally (dataset_at path.dataset pool).id (file_at path pool).id (first_touched offset) (touched_count offset len)

-- how many of them are holes
unfoldable pub holes_touched : ℕ → ℕ → List PlainBlock → ℕ
holes_touched offset len blocks = count_by is_hole (each (touched_count offset len) (λ k. block_at (first_touched offset + k) blocks))

-- the pointers of the dataset once a block stands wherever the bytes touch one
abbrev pub pointers_after : ℕ → ℕ → Path → PlainPool → ℕ
pointers_after offset len path pool = pointers_in (dataset_at path.dataset pool) + holes_touched offset len (file_at path pool).blocks

-- refused where the file would end past its limit
abbrev pub refuse_end : ℕ → PlainPool → Result (Unit {0}) Refusal
refuse_end end pool = refuse_if (nat_lt (most_bytes pool) end) (Efbig end (most_bytes pool))

-- refused where the dataset would have too many pointers
abbrev pub refuse_pointers : ℕ → PlainPool → Result (Unit {0}) Refusal
refuse_pointers pointers pool = refuse_if (nat_lt (most_pointers pool) pointers) (Enospc what.Pointers pointers (most_pointers pool))

-- refused where the pool would be charged too much once these blocks were made
abbrev pub refuse_charge : List MadeBlock → Tally → PlainPool → Result (Unit {0}) Refusal
refuse_charge blocks tally pool =
    refuse_if (nat_lt (most_charge pool) (charge_of (with_blocks blocks tally))) (Enospc what.Charge (charge_of (with_blocks blocks tally)) (most_charge pool))

-- the file and its dataset have room for so many bytes from the offset on, of which there are some
unfoldable pub room_in_file : ℕ → ℕ → Path → PlainPool → Result (Unit {0}) Refusal
room_in_file offset len path pool = do
  _ ← refuse_end (offset + len) pool
  refuse_pointers (pointers_after offset len path pool) pool

-- bytes, of which there are some, stand at the offset of the file at the path
unfoldable pub put_some : ℕ → Path → ℕ → List ℕ → Tally → PlainPool → Result (Reply × PlainPool) Refusal
put_some number path offset bytes tally pool = do
  _ ← room_in_file offset (length bytes) path pool
  _ ← refuse_charge (blocks_touched tally offset (length bytes) path pool) tally pool
  Ok (Count (length bytes), in_file path (written number offset bytes) pool)

-- no bytes change nothing, and need no room
unfoldable pub put : ℕ → Path → ℕ → List ℕ → Tally → PlainPool → Result (Reply × PlainPool) Refusal
put number path offset bytes tally pool = if length bytes == 0 then Ok (Count 0, pool) else put_some number path offset bytes tally pool

-- bytes stand at the offset
unfoldable pub write : ℕ → List ℕ → List ℕ → ℕ → List ℕ → Tally → PlainPool → Result (Reply × PlainPool) Refusal
write number dataset file offset bytes tally pool = do
  path ← path_of dataset file pool
  put number path offset bytes tally pool

-- so many times the byte stands at the offset
unfoldable pub fill : ℕ → List ℕ → List ℕ → ℕ → ℕ → ℕ → Tally → PlainPool → Result (Reply × PlainPool) Refusal
fill number dataset file offset len byte tally pool = write number dataset file offset (replicate len byte) tally pool

-- the block of the file at the path in which it is trimmed, made now, where there is one
abbrev pub blocks_trimmed : Tally → ℕ → Path → PlainPool → List MadeBlock
blocks_trimmed tally size path pool =
    if is_trimmed (file_at path pool).size size (file_at path pool).blocks (size / 4096) then blocks_made tally (dataset_at path.dataset pool).id (file_at path pool).id (size / 4096) 1 else []

-- the size of a file is set
unfoldable pub truncate : ℕ → List ℕ → List ℕ → ℕ → Tally → PlainPool → Result (Reply × PlainPool) Refusal
truncate number dataset file size tally pool = do
  path ← path_of dataset file pool
  _ ← refuse_end size pool
  _ ← refuse_charge (blocks_trimmed tally size path pool) tally pool
  Ok (Done, in_file path (truncated number size) pool)

-- the bytes from the offset on
unfoldable pub read : List ℕ → List ℕ → ℕ → ℕ → PlainPool → Result (Reply × PlainPool) Refusal
read dataset file offset len pool = do
  path ← path_of dataset file pool
  _ ← refuse_if (nat_lt most_read len) (Einval bad.Length)
  Ok (Data (bytes_from offset len (file_at path pool)), pool)

-- the size of a file, and how many of its blocks are no holes
unfoldable pub stat : List ℕ → List ℕ → PlainPool → Result (Reply × PlainPool) Refusal
stat dataset file pool = do
  path ← path_of dataset file pool
  Ok (Size (file_at path pool).size (made_count (file_at path pool).blocks), pool)

-- after the names each command has its own refusals
abbrev pub named_answer : ℕ → Tally → PlainPool → Command → Result (Reply × PlainPool) Refusal
named_answer number tally pool (Mkds dataset) = mkds dataset pool
named_answer number tally pool (Rmds dataset) = rmds dataset pool
named_answer number tally pool (Mount dataset) = mount dataset pool
named_answer number tally pool (Create dataset file) = create dataset file pool
named_answer number tally pool (Remove dataset file) = remove dataset file pool
named_answer number tally pool (Write dataset file offset bytes) = write number dataset file offset bytes tally pool
named_answer number tally pool (Fill dataset file offset len byte) = fill number dataset file offset len byte tally pool
named_answer number tally pool (Truncate dataset file size) = truncate number dataset file size tally pool
named_answer number tally pool (Read dataset file offset len) = read dataset file offset len pool
named_answer number tally pool (Stat dataset file) = stat dataset file pool
named_answer number tally pool Commit = Ok (Done, pool)

-- the answer to the command that is the entry with the number: names first
unfoldable pub answer : ℕ → Tally → PlainPool → Command → Result (Reply × PlainPool) Refusal
answer number tally pool command = do
  _ ← refuse_long command
  named_answer number tally pool command

-- the blocks that come of a path, none where it isn't there
abbrev pub blocks_on : Result Path Refusal → (Path → List MadeBlock) → List MadeBlock
blocks_on (Ok path) blocks = blocks path
blocks_on (Err refusal) blocks = []

-- the blocks whose bytes a command makes, where it isn't refused
abbrev pub blocks_put : Tally → ℕ → ℕ → List ℕ → List ℕ → PlainPool → List MadeBlock
blocks_put tally offset len dataset file pool =
    if len == 0 then [] else blocks_on (path_of dataset file pool) (λ path. blocks_touched tally offset len path pool)

unfoldable pub blocks_of_command : Tally → PlainPool → Command → List MadeBlock
blocks_of_command tally pool (Mkds dataset) = []
blocks_of_command tally pool (Rmds dataset) = []
blocks_of_command tally pool (Mount dataset) = []
blocks_of_command tally pool (Create dataset file) = []
blocks_of_command tally pool (Remove dataset file) = []
blocks_of_command tally pool (Write dataset file offset bytes) = blocks_put tally offset (length bytes) dataset file pool
blocks_of_command tally pool (Fill dataset file offset len byte) = blocks_put tally offset len dataset file pool
blocks_of_command tally pool (Truncate dataset file size) = blocks_on (path_of dataset file pool) (λ path. blocks_trimmed tally size path pool)
blocks_of_command tally pool (Read dataset file offset len) = []
blocks_of_command tally pool (Stat dataset file) = []
blocks_of_command tally pool Commit = []

-- what is counted after an answer: a refusal makes no block
abbrev pub counted : Tally → List MadeBlock → Result (Reply × PlainPool) Refusal → Tally
counted tally blocks (Ok done) = with_blocks blocks tally
counted tally blocks (Err refusal) = tally

-- the reply and the next pool: a refusal is a reply too, and changes nothing
abbrev pub settled : PlainPool → Result (Reply × PlainPool) Refusal → Reply × PlainPool
settled pool (Ok done) = done
settled pool (Err refusal) = (No refusal, pool)

-- What a call that changes a pool answered is the answer that is given, unless memory was wanting: then nothing has changed.
abbrev pub Answers : PlainPool → PlainPool → Result Reply AllocError → Result (Reply × PlainPool) Refusal → Type 0
Answers old new (Ok reply) given = settled old given ≡ (reply, new)
Answers old new (Err fault) given = new ≡ old

-- the same of what is counted
abbrev pub Counts : Tally → Tally → Result Reply AllocError → Tally → Type 0
Counts old new (Ok reply) behind = new ≡ behind
Counts old new (Err fault) behind = new ≡ old

-- the file of the name in the dataset of the name, where both are there
unfoldable pub file_of : List ℕ → List ℕ → PlainPool → Option PlainFile
file_of dataset file pool = option_map (λ path. file_at path pool) (result_ok (path_of dataset file pool))
