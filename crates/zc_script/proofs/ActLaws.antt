-- What the acts of a script are.
use Rattle.std.proofs.Common.{◌≡◌, ℕ, ◌+◌, Bool, true, false, List, [], ◌∷◌, Option, Some, None, refl, ap, subst, cond}
use Rattle.std.specs.List.{All, AllByRecursion}
use Rattle.std.proofs.lemmas.List.Elements.{All-from_recursion}
use Rattle.hex.proofs.HexLemmas.{decode_of-ok}
use Rattle.zc_command.specs.declared.command.Command.{Command}
use Rattle.zc_command.specs.declared.command.Command.TheVariants.{Mkds, Rmds, Mount, Create, Remove, Write, Fill, Truncate, Read, Stat, Commit}
use Rattle.zc_script.specs.declared.act.Act.{Act}
use Rattle.zc_script.specs.declared.act.Said.{Said}
use Rattle.zc_script.specs.declared.act.Said.TheVariants.{Session, Does}
use Rattle.zc_script.specs.declared.act.Line.{Line}
use Rattle.zc_script.specs.Pools.{pool_at}
use Rattle.zc_script.specs.Forms.{act_at, said_of}
use Rattle.zc_script.specs.Spelling.{SpellsCommand, SpellsAct, HasLine, IsActOf}
use Rattle.zc_script.specs.Lines.{is_ignored, said, next_session, with_line, lines_from, lines_of}
use Rattle.zc_script.proofs.ReadLaws.{read_is_spelled}

-- a command that a line spells is one that a line can spell
pub spelled_has_line : (line pool : List ℕ) (command : Command) → SpellsCommand line pool command → HasLine command
spelled_has_line line pool (Mkds dataset) s = record { conditions = record { numbers = tt; names = (s.path_is.dataset_is, tt) }; fits = tt }
spelled_has_line line pool (Rmds dataset) s = record { conditions = record { numbers = tt; names = (s.path_is.dataset_is, tt) }; fits = tt }
spelled_has_line line pool (Mount dataset) s = record { conditions = record { numbers = tt; names = (s.path_is.dataset_is, tt) }; fits = tt }
spelled_has_line line pool (Create dataset file) s =
    record { conditions = record { numbers = tt; names = (s.path_is.dataset_is, (s.path_is.file_is, tt)) }; fits = tt }
spelled_has_line line pool (Remove dataset file) s =
    record { conditions = record { numbers = tt; names = (s.path_is.dataset_is, (s.path_is.file_is, tt)) }; fits = tt }
spelled_has_line line pool (Write dataset file offset bytes) s = record {
  conditions = record { numbers = (s.from_is.small, tt); names = (s.path_is.dataset_is, (s.path_is.file_is, tt)) };
  fits = (s.digits_are.some_byte, (decode_of-ok s.digits bytes s.digits_are.digits).3);
}
spelled_has_line line pool (Fill dataset file offset len byte) s = record {
  conditions = record { numbers = (s.from_is.small, (s.count_is.small, tt)); names = (s.path_is.dataset_is, (s.path_is.file_is, tt)) };
  fits = s.is_byte;
}
spelled_has_line line pool (Truncate dataset file size) s = record {
  conditions = record { numbers = (s.number_is.small, tt); names = (s.path_is.dataset_is, (s.path_is.file_is, tt)) };
  fits = tt;
}
spelled_has_line line pool (Read dataset file offset len) s = record {
  conditions = record { numbers = (s.from_is.small, (s.count_is.small, tt)); names = (s.path_is.dataset_is, (s.path_is.file_is, tt)) };
  fits = tt;
}
spelled_has_line line pool (Stat dataset file) s =
    record { conditions = record { numbers = tt; names = (s.path_is.dataset_is, (s.path_is.file_is, tt)) }; fits = tt }
spelled_has_line line pool Commit s = record { conditions = record { numbers = tt; names = tt }; fits = tt }

-- a command of the pool that was looked for, by what was found
found_of : (pools : List (List ℕ)) (pool : List ℕ) (command : Command) (found : Option ℕ) → pool_at pools pool ≡ found → HasLine command → IsActOf pools (act_at found command)
found_of pools pool command (Some at) is has = ((pool, is), has)
found_of pools pool command None is has = tt

-- an act that a line spells is of the pools
spelled_is_of : (pools : List (List ℕ)) (line : List ℕ) (act : Act) → SpellsAct pools line act → IsActOf pools act
spelled_is_of pools line act s =
    subst (λ (a : Act). IsActOf pools a) s.act_is
    (found_of pools s.pool s.command (pool_at pools s.pool) refl (spelled_has_line line s.pool s.command s.spelled))

-- what came where a test failed
after_no : {A : Type 0} (test : Bool) (o : Option A) (y : A) → cond test None o ≡ Some y → o ≡ Some y
after_no true o y h = cc h
after_no false o y h = h

-- An act that a line asks for is of the pools.
pub said_act : (pools : List (List ℕ)) (text : List ℕ) (act : Act) → said pools text ≡ Some (Does act) → IsActOf pools act
said_act pools text act h = spelled_is_of pools text act (read_is_spelled pools text (Does act) (after_no (is_ignored text) (said_of pools text) (Does act) h))

-- one line more
with_of : (pools : List (List ℕ)) (session n : ℕ) (o : Option Said) (lines : List Line) → ((act : Act) → o ≡ Some (Does act) → IsActOf pools act)
    → AllByRecursion (λ (line : Line). IsActOf pools line.act) lines → AllByRecursion (λ (line : Line). IsActOf pools line.act) (with_line session n o lines)
with_of pools session n None lines are all = all
with_of pools session n (Some (Session next)) lines are all = all
with_of pools session n (Some (Does act)) lines are all = (are act refl, all)

acts_from : (pools : List (List ℕ)) (session n : ℕ) (texts : List (List ℕ)) → AllByRecursion (λ (line : Line). IsActOf pools line.act) (lines_from pools session n texts)
acts_from pools session n [] = tt
acts_from pools session n (text ∷ texts) =
    with_of pools session n (said pools text) (lines_from pools (next_session session (said pools text)) (n + 1) texts)
    (said_act pools text) (acts_from pools (next_session session (said pools text)) (n + 1) texts)

-- The acts of a script's lines are of the pools.
pub acts_are_of : (pools texts : List (List ℕ)) → All (λ (line : Line). IsActOf pools line.act) (lines_of pools texts)
acts_are_of pools texts = All-from_recursion (λ (line : Line). IsActOf pools line.act) (lines_of pools texts) (acts_from pools 0 1 texts)
