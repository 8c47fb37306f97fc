-- What the words of the program ask.
use Rattle.std.specs.Prelude.{ℕ, ◌*◌, ◌%◌, ◌==◌, ◌&&◌, Bool, nat_le, List, [], ◌∷◌, Option, Some, None, codes, if◌then◌else◌}
use Rattle.std.specs.Str.{bytes_eq}
use Rattle.zc_num.specs.Limits.{AreLimits}
use Rattle.zc_script.specs.Pools.{only_if, is_pool_name}
use Rattle.zc_script.specs.Words.{◌>>=◌, number_of}
use Rattle.zc_prog.specs.declared.words.Task.{Task}
use Rattle.zc_prog.specs.declared.words.Task.TheVariants.{Play, Create}

-- a pool may have so many devices of so many places
abbrev pub are_limits : ℕ → ℕ → Bool
are_limits devices places =
    nat_le 1 devices && (nat_le devices 4 && (places % 128 == 0 && (nat_le 1024 (devices * places) && nat_le (devices * places) 131072)))

-- `play POOL`
unfoldable pub play_of : List ℕ → Option Task
play_of name = only_if (is_pool_name name) (Play name)

-- `create POOL DEVICES PLACES`
unfoldable pub create_of : List ℕ → List ℕ → List ℕ → Option Task
create_of name devices places = do
  d ← number_of devices
  p ← number_of places
  only_if (is_pool_name name && are_limits d p) (Create name d p)

-- what the words ask; None for any other words
unfoldable pub task_of : List (List ℕ) → Option Task
task_of [] = None
task_of (word ∷ []) = None
task_of (word ∷ name ∷ []) = if bytes_eq word (codes "play") then play_of name else None
task_of (word ∷ name ∷ devices ∷ []) = None
task_of (word ∷ name ∷ devices ∷ places ∷ []) = if bytes_eq word (codes "create") then create_of name devices places else None
task_of (word ∷ name ∷ devices ∷ places ∷ other ∷ words) = None

-- the pool that a task names
abbrev pub pool_of : Task → List ℕ
pool_of (Play name) = name
pool_of (Create name devices places) = name

-- the same of words that may ask nothing
abbrev pub name_in : Option Task → List ℕ
name_in None = []
name_in (Some task) = pool_of task

-- what a task makes has a size that a pool may have
abbrev pub HasLimits : Task → Type 0
HasLimits (Play name) = Unit {0}
HasLimits (Create name devices places) = AreLimits devices places
