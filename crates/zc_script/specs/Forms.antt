-- What a line of a script says: the table of its forms.
--
-- A line is words with one space between. Its first word says the form, and the form says of what kinds the words after it are:
--
--     session                   N
--     mkds, rmds, mount         P/D
--     create, remove, stat      P/D/F
--     write                     P/D/F FROM HEX
--     fill                      P/D/F FROM LEN BYTE
--     truncate                  P/D/F SIZE
--     read                      P/D/F FROM LEN
--     commit                    P
--
-- Only then the pool that a line names is looked for among those of the run.
use Rattle.std.specs.Prelude.{ℕ, List, [], ◌∷◌, codes, Option, Some, None, if◌then◌else◌}
use Rattle.std.specs.Str.{bytes_eq}
use Rattle.zc_command.specs.declared.command.Command.{Command}
use Rattle.zc_command.specs.declared.command.Command.TheVariants as command
use Rattle.zc_script.specs.declared.act.Act.{Act}
use Rattle.zc_script.specs.declared.act.Act.TheVariants.{Pool, NoSuchPool}
use Rattle.zc_script.specs.declared.act.Said.{Said}
use Rattle.zc_script.specs.declared.act.Said.TheVariants.{Session, Does}
use Rattle.zc_script.specs.declared.forms.DatasetForm.{DatasetForm}
use Rattle.zc_script.specs.declared.forms.DatasetForm.TheVariants.{Mkds, Rmds, Mount}
use Rattle.zc_script.specs.declared.forms.FileForm.{FileForm}
use Rattle.zc_script.specs.declared.forms.FileForm.TheVariants.{Create, Remove, Stat}
use Rattle.zc_script.specs.declared.forms.Form.{Form}
use Rattle.zc_script.specs.declared.forms.Form.TheVariants as form
use Rattle.zc_script.specs.Pools.{only_if, is_pool_name, pool_at}
use Rattle.zc_script.specs.Words.{◌>>=◌, pieces_between, one_of, two_of, three_of, four_of, number_of, session_of, byte_of, bytes_of, dataset_path, file_path}

-- what the words of a line say, whatever pools there are: the session of the following lines, or a command of the pool of this name
pub data Spoken : Type 0 where
  InSession : (session : ℕ) → Spoken
  Asks : (pool : List ℕ) (command : Command) → Spoken

-- the form that the first word says
unfoldable pub form_of : List ℕ → Option Form
form_of word =
    if bytes_eq word (codes "session") then Some form.Session
    else if bytes_eq word (codes "mkds") then Some (form.OnDataset Mkds)
    else if bytes_eq word (codes "rmds") then Some (form.OnDataset Rmds)
    else if bytes_eq word (codes "mount") then Some (form.OnDataset Mount)
    else if bytes_eq word (codes "create") then Some (form.OnFile Create)
    else if bytes_eq word (codes "remove") then Some (form.OnFile Remove)
    else if bytes_eq word (codes "stat") then Some (form.OnFile Stat)
    else if bytes_eq word (codes "write") then Some form.Write
    else if bytes_eq word (codes "fill") then Some form.Fill
    else if bytes_eq word (codes "truncate") then Some form.Truncate
    else if bytes_eq word (codes "read") then Some form.Read
    else if bytes_eq word (codes "commit") then Some form.Commit
    else None

-- the command of a form on this dataset
abbrev pub dataset_command : DatasetForm → List ℕ → Command
dataset_command Mkds dataset = command.Mkds dataset
dataset_command Rmds dataset = command.Rmds dataset
dataset_command Mount dataset = command.Mount dataset

-- the command of a form on this file
abbrev pub file_command : FileForm → List ℕ → List ℕ → Command
file_command Create dataset file = command.Create dataset file
file_command Remove dataset file = command.Remove dataset file
file_command Stat dataset file = command.Stat dataset file

-- `N` after `session`
unfoldable pub session_spoken : List (List ℕ) → Option Spoken
session_spoken words = do
  word ← one_of words
  session ← session_of word
  Some (InSession session)

-- `P/D` after the word of a form on a dataset
unfoldable pub dataset_spoken : DatasetForm → List (List ℕ) → Option Spoken
dataset_spoken form words = do
  word ← one_of words
  path ← dataset_path word
  Some (Asks path.0 (dataset_command form path.1))

-- `P/D/F` after the word of a form on a file
unfoldable pub file_spoken : FileForm → List (List ℕ) → Option Spoken
file_spoken form words = do
  word ← one_of words
  path ← file_path word
  Some (Asks path.0 (file_command form path.1 path.2))

-- `P/D/F FROM HEX` after `write`
unfoldable pub write_spoken : List (List ℕ) → Option Spoken
write_spoken words = do
  three ← three_of words
  path ← file_path three.0
  from ← number_of three.1
  bytes ← bytes_of three.2
  Some (Asks path.0 (command.Write path.1 path.2 from bytes))

-- `P/D/F FROM LEN BYTE` after `fill`
unfoldable pub fill_spoken : List (List ℕ) → Option Spoken
fill_spoken words = do
  four ← four_of words
  path ← file_path four.0
  from ← number_of four.1
  count ← number_of four.2
  byte ← byte_of four.3
  Some (Asks path.0 (command.Fill path.1 path.2 from count byte))

-- `P/D/F SIZE` after `truncate`
unfoldable pub truncate_spoken : List (List ℕ) → Option Spoken
truncate_spoken words = do
  two ← two_of words
  path ← file_path two.0
  size ← number_of two.1
  Some (Asks path.0 (command.Truncate path.1 path.2 size))

-- `P/D/F FROM LEN` after `read`
unfoldable pub read_spoken : List (List ℕ) → Option Spoken
read_spoken words = do
  three ← three_of words
  path ← file_path three.0
  from ← number_of three.1
  count ← number_of three.2
  Some (Asks path.0 (command.Read path.1 path.2 from count))

-- `P` after `commit`
unfoldable pub commit_spoken : List (List ℕ) → Option Spoken
commit_spoken words = do
  word ← one_of words
  only_if (is_pool_name word) (Asks word command.Commit)

-- what the words after the first say in a line of the form
abbrev pub spoken_of_form : Form → List (List ℕ) → Option Spoken
spoken_of_form form.Session words = session_spoken words
spoken_of_form (form.OnDataset form) words = dataset_spoken form words
spoken_of_form (form.OnFile form) words = file_spoken form words
spoken_of_form form.Write words = write_spoken words
spoken_of_form form.Fill words = fill_spoken words
spoken_of_form form.Truncate words = truncate_spoken words
spoken_of_form form.Read words = read_spoken words
spoken_of_form form.Commit words = commit_spoken words

-- what the words of a line say
abbrev pub spoken_of_words : List (List ℕ) → Option Spoken
spoken_of_words [] = None
spoken_of_words (word ∷ words) = do
  form ← form_of word
  spoken_of_form form words

-- what a line says, whatever pools there are; None for a line outside the grammar
unfoldable pub spoken_of : List ℕ → Option Spoken
spoken_of line = spoken_of_words (pieces_between 32 line)

-- a command of the pool at an index, or of a pool that isn't there
abbrev pub act_at : Option ℕ → Command → Act
act_at (Some at) command = Pool at command
act_at None command = NoSuchPool

-- a command of the pool of this name, in a run with these pools
abbrev pub act_in : List (List ℕ) → List ℕ → Command → Act
act_in pools pool command = act_at (pool_at pools pool) command

-- what a line says in a run with these pools
abbrev pub said_in : List (List ℕ) → Option Spoken → Option Said
said_in pools None = None
said_in pools (Some (InSession session)) = Some (Session session)
said_in pools (Some (Asks pool command)) = Some (Does (act_in pools pool command))

-- what a line says in a run with these pools; None for a line outside the grammar
unfoldable pub said_of : List (List ℕ) → List ℕ → Option Said
said_of pools line = said_in pools (spoken_of line)
