-- The lines of a script, and the first bad one.
use Rattle.std.specs.Prelude.{◌≡◌, ℕ, ◌+◌, ◌==◌, ◌&&◌, Bool, true, not, List, [], ◌∷◌, Option, Some, None, is_none, if◌then◌else◌}
use Rattle.zc_num.specs.Words.{pieces_ended_by}
use Rattle.zc_script.specs.declared.act.Act.{Act}
use Rattle.zc_script.specs.declared.act.Said.{Said}
use Rattle.zc_script.specs.declared.act.Said.TheVariants.{Session, Does}
use Rattle.zc_script.specs.declared.act.Line.{Line}
use Rattle.zc_script.specs.declared.script.LineFault.{LineFault}
use Rattle.zc_script.specs.declared.script.LineFault.TheVariants as line
use Rattle.zc_script.specs.declared.script.ScriptFault.{ScriptFault}
use Rattle.zc_script.specs.declared.script.ScriptFault.TheVariants as script
use Rattle.zc_script.specs.Forms.{said_of}

-- the texts of a script's lines, each ended by byte 10; the last may lack it
abbrev pub texts_of : List ℕ → List (List ℕ)
texts_of bytes = pieces_ended_by 10 bytes

-- the line is empty or begins with `#`
abbrev pub is_ignored : List ℕ → Bool
is_ignored [] = true
is_ignored (byte ∷ bytes) = byte == 35

-- what the line says, if it isn't ignored
abbrev pub said : List (List ℕ) → List ℕ → Option Said
said pools text = if is_ignored text then None else said_of pools text

-- the line is neither ignored nor in the grammar
abbrev pub is_bad : List (List ℕ) → List ℕ → Bool
is_bad pools text = not (is_ignored text) && is_none (said_of pools text)

-- the session of the lines after one that says this and stands in the session
abbrev pub next_session : ℕ → Option Said → ℕ
next_session session None = session
next_session session (Some (Session next)) = next
next_session session (Some (Does act)) = session

-- the session in which the first bad line stands, and its number; the first line of all stands in `session` and has number n
abbrev pub bad_from : List (List ℕ) → ℕ → ℕ → List (List ℕ) → Option (ℕ × ℕ)
bad_from pools session n [] = None
bad_from pools session n (text ∷ texts) =
    if is_bad pools text then Some (session, n)
    else bad_from pools (next_session session (said pools text)) (n + 1) texts

-- the session in which the first bad line stands, and its number; lines are counted from 1, ignored ones included
abbrev pub first_bad : List (List ℕ) → List (List ℕ) → Option (ℕ × ℕ)
first_bad pools texts = bad_from pools 0 1 texts

-- the line of this number and session in front of others, where it says an act
abbrev pub with_line : ℕ → ℕ → Option Said → List Line → List Line
with_line session n None lines = lines
with_line session n (Some (Session next)) lines = lines
with_line session n (Some (Does act)) lines = record { number = n; session = session; act = act } ∷ lines

-- the lines that say an act, in order; the first of all stands in `session` and has number n
abbrev pub lines_from : List (List ℕ) → ℕ → ℕ → List (List ℕ) → List Line
lines_from pools session n [] = []
lines_from pools session n (text ∷ texts) =
    with_line session n (said pools text) (lines_from pools (next_session session (said pools text)) (n + 1) texts)

-- the lines that say an act, in order; lines are counted from 1, ignored ones included, and before any line says otherwise the session is 0
abbrev pub lines_of : List (List ℕ) → List (List ℕ) → List Line
lines_of pools texts = lines_from pools 0 1 texts

-- an act in front of others, where there is one
abbrev pub with_act : Option Said → List Act → List Act
with_act None acts = acts
with_act (Some (Session next)) acts = acts
with_act (Some (Does act)) acts = act ∷ acts

-- what the lines do, in order
abbrev pub acts_of : List (List ℕ) → List (List ℕ) → List Act
acts_of pools [] = []
acts_of pools (text ∷ texts) = with_act (said pools text) (acts_of pools texts)

-- a line is called bad only where it is; want of memory says nothing
abbrev pub IsLineFault : LineFault → Bool → Type 0
IsLineFault line.NoMemory bad = Unit {0}
IsLineFault line.Bad bad = bad ≡ true

-- a session and a line are named only where they are those of the first bad line; want of memory says nothing
abbrev pub IsScriptFault : ScriptFault → Option (ℕ × ℕ) → Type 0
IsScriptFault script.NoMemory first = Unit {0}
IsScriptFault (script.BadLine session n) first = first ≡ Some (session, n)
