-- How what a line says is spelled.
use Rattle.std.specs.Prelude.{◌≡◌, ℕ, ◌^◌, ◌≤◌, true, IsTrue, List, ◌++◌, length, codes, Some, Ok}
use Rattle.std.specs.Fmt.{decimal}
use Rattle.std.specs.Str.{all_ascii_digits}
use Rattle.std.specs.Str.Parse.{digits_value}
use Rattle.hex.specs.Hex.{decode_of, encode_lower, IsBytes}
use Rattle.zc_command.specs.Names.{AreConditions, HasNameBytes}
use Rattle.zc_command.specs.declared.command.Command.{Command}
use Rattle.zc_command.specs.declared.command.Command.TheVariants.{Mkds, Rmds, Mount, Create, Remove, Write, Fill, Truncate, Read, Stat, Commit}
use Rattle.zc_script.specs.declared.act.Act.{Act}
use Rattle.zc_script.specs.declared.act.Act.TheVariants.{Pool, NoSuchPool}
use Rattle.zc_script.specs.declared.act.Said.{Said}
use Rattle.zc_script.specs.declared.act.Said.TheVariants.{Session, Does}
use Rattle.zc_script.specs.Pools.{is_pool_name, pool_at}
use Rattle.zc_script.specs.Forms.{act_in}

-- 1 to 19 decimal digits of the number, with any leading zeros; the number is at most 2^62
pub record IsNumeral (text : List ℕ) (number : ℕ) : Type 0 where
  pub some_digit : 1 ≤ length text
  pub few_digits : length text ≤ 19
  pub digits : all_ascii_digits text ≡ true
  pub value : digits_value 10 text ≡ number
  pub small : number ≤ 2 ^ 62

-- two hexadecimal digits of either case for each of the bytes, of which there is at least one
pub record AreHexDigits (text bytes : List ℕ) : Type 0 where
  pub some_byte : 1 ≤ length bytes
  pub digits : decode_of text ≡ Ok bytes

-- `P/D`
pub record IsDatasetPath (text pool dataset : List ℕ) : Type 0 where
  pub pool_is : IsTrue (is_pool_name pool)
  pub dataset_is : HasNameBytes dataset
  pub spelled : text ≡ pool ++ (codes "/" ++ dataset)

-- `P/D/F`
pub record IsFilePath (text pool dataset file : List ℕ) : Type 0 where
  pub pool_is : IsTrue (is_pool_name pool)
  pub dataset_is : HasNameBytes dataset
  pub file_is : HasNameBytes file
  pub spelled : text ≡ pool ++ (codes "/" ++ (dataset ++ (codes "/" ++ file)))

-- `session N`
pub record SpellsSession (line : List ℕ) (session : ℕ) : Type 0 where
  pub number : List ℕ
  pub number_is : IsNumeral number session
  pub few : session ≤ 15
  pub spelled : line ≡ codes "session " ++ number

-- a word with the space after it, as `mkds `, and `P/D`
pub record SpellsDataset (word line pool dataset : List ℕ) : Type 0 where
  pub path : List ℕ
  pub path_is : IsDatasetPath path pool dataset
  pub spelled : line ≡ word ++ path

-- a word with the space after it, as `create `, and `P/D/F`
pub record SpellsFile (word line pool dataset file : List ℕ) : Type 0 where
  pub path : List ℕ
  pub path_is : IsFilePath path pool dataset file
  pub spelled : line ≡ word ++ path

-- `write P/D/F FROM HEX`
pub record SpellsWrite (line pool dataset file : List ℕ) (offset : ℕ) (bytes : List ℕ) : Type 0 where
  pub path : List ℕ
  pub path_is : IsFilePath path pool dataset file
  pub from : List ℕ
  pub from_is : IsNumeral from offset
  pub digits : List ℕ
  pub digits_are : AreHexDigits digits bytes
  pub spelled : line ≡ codes "write " ++ (path ++ (codes " " ++ (from ++ (codes " " ++ digits))))

-- `fill P/D/F FROM LEN BYTE`
pub record SpellsFill (line pool dataset file : List ℕ) (offset len byte : ℕ) : Type 0 where
  pub path : List ℕ
  pub path_is : IsFilePath path pool dataset file
  pub from : List ℕ
  pub from_is : IsNumeral from offset
  pub count : List ℕ
  pub count_is : IsNumeral count len
  pub value : List ℕ
  pub value_is : IsNumeral value byte
  pub is_byte : byte ≤ 255
  pub spelled : line ≡ codes "fill " ++ (path ++ (codes " " ++ (from ++ (codes " " ++ (count ++ (codes " " ++ value))))))

-- `truncate P/D/F SIZE`
pub record SpellsTruncate (line pool dataset file : List ℕ) (size : ℕ) : Type 0 where
  pub path : List ℕ
  pub path_is : IsFilePath path pool dataset file
  pub number : List ℕ
  pub number_is : IsNumeral number size
  pub spelled : line ≡ codes "truncate " ++ (path ++ (codes " " ++ number))

-- `read P/D/F FROM LEN`
pub record SpellsRead (line pool dataset file : List ℕ) (offset len : ℕ) : Type 0 where
  pub path : List ℕ
  pub path_is : IsFilePath path pool dataset file
  pub from : List ℕ
  pub from_is : IsNumeral from offset
  pub count : List ℕ
  pub count_is : IsNumeral count len
  pub spelled : line ≡ codes "read " ++ (path ++ (codes " " ++ (from ++ (codes " " ++ count))))

-- `commit P`
pub record SpellsCommit (line pool : List ℕ) : Type 0 where
  pub pool_is : IsTrue (is_pool_name pool)
  pub spelled : line ≡ codes "commit " ++ pool

-- the line spells the command of the pool of this name
abbrev pub SpellsCommand : List ℕ → List ℕ → Command → Type 0
SpellsCommand line pool (Mkds dataset) = SpellsDataset (codes "mkds ") line pool dataset
SpellsCommand line pool (Rmds dataset) = SpellsDataset (codes "rmds ") line pool dataset
SpellsCommand line pool (Mount dataset) = SpellsDataset (codes "mount ") line pool dataset
SpellsCommand line pool (Create dataset file) = SpellsFile (codes "create ") line pool dataset file
SpellsCommand line pool (Remove dataset file) = SpellsFile (codes "remove ") line pool dataset file
SpellsCommand line pool (Write dataset file offset bytes) = SpellsWrite line pool dataset file offset bytes
SpellsCommand line pool (Fill dataset file offset len byte) = SpellsFill line pool dataset file offset len byte
SpellsCommand line pool (Truncate dataset file size) = SpellsTruncate line pool dataset file size
SpellsCommand line pool (Read dataset file offset len) = SpellsRead line pool dataset file offset len
SpellsCommand line pool (Stat dataset file) = SpellsFile (codes "stat ") line pool dataset file
SpellsCommand line pool Commit = SpellsCommit line pool

-- the line spells a command of the pool of some name, and that is this act
pub record SpellsAct (pools : List (List ℕ)) (line : List ℕ) (act : Act) : Type 0 where
  pub pool : List ℕ
  pub command : Command
  pub spelled : SpellsCommand line pool command
  pub act_is : act_in pools pool command ≡ act

-- the line spells what it says
abbrev pub Spells : List (List ℕ) → List ℕ → Said → Type 0
Spells pools line (Session session) = SpellsSession line session
Spells pools line (Does act) = SpellsAct pools line act

-- there is a byte to be written, and what is written are bytes
abbrev pub FitsLine : Command → Type 0
FitsLine (Mkds dataset) = Unit {0}
FitsLine (Rmds dataset) = Unit {0}
FitsLine (Mount dataset) = Unit {0}
FitsLine (Create dataset file) = Unit {0}
FitsLine (Remove dataset file) = Unit {0}
FitsLine (Write dataset file offset bytes) = (1 ≤ length bytes) × IsBytes bytes
FitsLine (Fill dataset file offset len byte) = byte ≤ 255
FitsLine (Truncate dataset file size) = Unit {0}
FitsLine (Read dataset file offset len) = Unit {0}
FitsLine (Stat dataset file) = Unit {0}
FitsLine Commit = Unit {0}

-- a command that a line can spell
pub record HasLine (command : Command) : Type 0 where
  pub conditions : AreConditions command
  pub fits : FitsLine command

-- a command that a line can spell, of one of the pools, where the act is a command of a pool
abbrev pub IsActOf : List (List ℕ) → Act → Type 0
IsActOf pools (Pool at command) = ((name : List ℕ) × (pool_at pools name ≡ Some at)) × HasLine command
IsActOf pools NoSuchPool = Unit {0}

-- a dataset's path
abbrev pub dataset_text : List ℕ → List ℕ → List ℕ
dataset_text pool dataset = pool ++ (codes "/" ++ dataset)

-- a file's path
abbrev pub file_text : List ℕ → List ℕ → List ℕ → List ℕ
file_text pool dataset file = pool ++ (codes "/" ++ (dataset ++ (codes "/" ++ file)))

-- the line of a pool's command, with no leading zeros and lower-case digits
abbrev pub command_line : List ℕ → Command → List ℕ
command_line pool (Mkds dataset) = codes "mkds " ++ dataset_text pool dataset
command_line pool (Rmds dataset) = codes "rmds " ++ dataset_text pool dataset
command_line pool (Mount dataset) = codes "mount " ++ dataset_text pool dataset
command_line pool (Create dataset file) = codes "create " ++ file_text pool dataset file
command_line pool (Remove dataset file) = codes "remove " ++ file_text pool dataset file
command_line pool (Write dataset file offset bytes) =
    codes "write " ++ (file_text pool dataset file ++ (codes " " ++ (decimal offset ++ (codes " " ++ encode_lower bytes))))
command_line pool (Fill dataset file offset len byte) =
    codes "fill " ++ (file_text pool dataset file ++ (codes " " ++ (decimal offset ++ (codes " " ++ (decimal len ++ (codes " " ++ decimal byte))))))
command_line pool (Truncate dataset file size) =
    codes "truncate " ++ (file_text pool dataset file ++ (codes " " ++ decimal size))
command_line pool (Read dataset file offset len) =
    codes "read " ++ (file_text pool dataset file ++ (codes " " ++ (decimal offset ++ (codes " " ++ decimal len))))
command_line pool (Stat dataset file) = codes "stat " ++ file_text pool dataset file
command_line pool Commit = codes "commit " ++ pool

-- the line that puts the following ones into a session
abbrev pub session_line : ℕ → List ℕ
session_line session = codes "session " ++ decimal session

-- what answers a line whose pool isn't there
abbrev pub no_pool_text : List ℕ
no_pool_text = codes "ENXIO pool"
