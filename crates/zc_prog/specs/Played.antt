-- What the lines of a script add to the history of a pool, what they acknowledge by which calls, and the text of a run.
use Rattle.std.specs.Prelude.{◌≡◌, ℕ, ◌+◌, ◌≤◌, Bool, true, false, List, [], ◌∷◌, ◌++◌, length, None, codes}
use Rattle.std.specs.Fmt.{decimal}
use Rattle.zc_command.specs.declared.command.Command.{Command}
use Rattle.zc_command.specs.declared.command.Command.TheVariants.{Commit}
use Rattle.zc_command.specs.declared.reply.Reply.{Reply}
use Rattle.zc_command.specs.declared.reply.Reply.TheVariants.{Done, Count, Data, Size, No}
use Rattle.zc_command.specs.Texts.{reply_text}
use Rattle.zc_script.specs.declared.act.Act.{Act}
use Rattle.zc_script.specs.declared.act.Act.TheVariants.{Pool, NoSuchPool}
use Rattle.zc_script.specs.declared.act.Line.{Line}
use Rattle.zc_plain.specs.declared.entry.Entry.{Entry}
use Rattle.zc_plain.specs.declared.entry.Entry.TheVariants.{Ask, Answer, Seal, Finish}
use Rattle.zc_plain.specs.History.{is_waiting}
use Rattle.zc_open.specs.declared.ack.Ack.{Ack}

-- the session of the commit that ends a run
abbrev pub last_session : ℕ
last_session = 16

-- ---- what is asked

-- a session and its command
pub record Asking : Type 0 where
  pub session : ℕ
  pub command : Command

abbrev pub with_asking : (session : ℕ) → Act → List Asking → List Asking
with_asking session (Pool at command) askings = record { session = session; command = command } ∷ askings
with_asking session NoSuchPool askings = askings

-- what the lines ask of their pool, in order; then
abbrev pub askings_before : List Line → List Asking → List Asking
askings_before [] last = last
askings_before (line ∷ lines) last = with_asking line.session line.act (askings_before lines last)

-- what a run asks: what its lines ask, and the commit that ends it
abbrev pub run_of : List Line → List Asking
run_of lines = askings_before lines (record { session = last_session; command = Commit } ∷ [])

-- what the entries of a history ask, in order
abbrev pub askings_in : List Entry → List Asking
askings_in [] = []
askings_in (Ask session command ∷ history) = record { session = session; command = command } ∷ askings_in history
askings_in (Answer session reply ∷ history) = askings_in history
askings_in (Seal group ∷ history) = askings_in history
askings_in (Finish group held ∷ history) = askings_in history

-- ---- what is added

-- nothing, or the finish of the group
abbrev pub IsFinish : (group : ℕ) → List Entry → Type 0
IsFinish group [] = Unit {0}
IsFinish group (entry ∷ entries) = (held : ℕ) × (entry ≡ Finish group held) × (entries ≡ [])

-- how many entries a history has, and how many writes and syncs were made by then since import began
pub record Mark : Type 0 where
  pub entries : ℕ
  pub calls : ℕ

-- the mark after so many more entries, by which so many calls were made
abbrev pub mark_after : Mark → List Entry → (calls : ℕ) → Mark
mark_after from entries calls = record { entries = from.entries + length entries; calls = calls }

-- what the reply to a commit acknowledges: where it is done, the commit, of every dataset, with the calls that were made by then
abbrev pub acknowledged_by : (session ask : ℕ) → Reply → (calls : ℕ) → List Ack
acknowledged_by session ask Done calls = record { session = session; ask = ask; dataset = None; calls = calls } ∷ []
acknowledged_by session ask (Count bytes) calls = []
acknowledged_by session ask (Data bytes) calls = []
acknowledged_by session ask (Size size blocks) calls = []
acknowledged_by session ask (No refusal) calls = []

-- The entries of a command from a mark on, what it acknowledges, and how many calls were made after it. It is answered at once, and
-- makes no call; or it waits for its group.
abbrev pub AddsAnswer : (waits : Bool) → (session : ℕ) → Command → Reply → (from : Mark) → List Entry → List Ack → (calls : ℕ) → Type 0
AddsAnswer false session command reply from entries acks calls =
    (entries ≡ Ask session command ∷ Answer session reply ∷ []) × (acks ≡ []) × (calls ≡ from.calls)
AddsAnswer true session command reply from entries acks calls =
    (group : ℕ) × (finish : List Entry) × IsFinish group finish × (entries ≡ Ask session command ∷ Seal group ∷ (finish ++ Answer session reply ∷ []))
    × (acks ≡ acknowledged_by session (from.entries + 1) reply calls) × (from.calls ≤ calls)

abbrev pub AddsCommand : (session : ℕ) → Command → Reply → (from : Mark) → List Entry → List Ack → (calls : ℕ) → Type 0
AddsCommand session command = AddsAnswer (is_waiting command) session command

-- the reply to a line whose pool isn't of the run
abbrev pub no_pool_text : List ℕ
no_pool_text = codes "ENXIO pool"

-- the same of a line, with the text of its reply
abbrev pub AddsAct : (session : ℕ) → Act → (from : Mark) → List Entry → List ℕ → List Ack → (calls : ℕ) → Type 0
AddsAct session (Pool at command) from entries text acks calls =
    (reply : Reply) × AddsCommand session command reply from entries acks calls × (text ≡ reply_text reply)
AddsAct session NoSuchPool from entries text acks calls = (entries ≡ []) × (text ≡ no_pool_text) × (acks ≡ []) × (calls ≡ from.calls)

-- The same of lines, in order, each from where the one before it ended, and each reply in a line of its own. So the calls of a line are
-- those numbered from the mark before it to the mark after it, and its acknowledgement comes with the last of them.
abbrev pub AddsLines : List Line → (from : Mark) → List Entry → List ℕ → List Ack → (calls : ℕ) → Type 0
AddsLines [] from entries text acks calls = (entries ≡ []) × (text ≡ []) × (acks ≡ []) × (calls ≡ from.calls)
AddsLines (line ∷ lines) from entries text acks calls =
    (first rest : List Entry) × (said more : List ℕ) × (now later : List Ack) × (between : ℕ)
    × AddsAct line.session line.act from first said now between × AddsLines lines (mark_after from first between) rest more later calls
    × (entries ≡ first ++ rest) × (text ≡ said ++ (codes "\n" ++ more)) × (acks ≡ now ++ later)

-- ---- the end

-- the last commit was done
abbrev pub is_done : Reply → Bool
is_done Done = true
is_done (Count bytes) = false
is_done (Data bytes) = false
is_done (Size size blocks) = false
is_done (No refusal) = false

-- how a pool's last commit came out: the group of its root, or its refusal
abbrev pub end_of : Reply → (group : ℕ) → List ℕ
end_of Done group = codes "group " ++ decimal group
end_of (Count bytes) group = reply_text (Count bytes)
end_of (Data bytes) group = reply_text (Data bytes)
end_of (Size size blocks) group = reply_text (Size size blocks)
end_of (No refusal) group = reply_text (No refusal)

-- the line that ends the text of a pool
abbrev pub end_line : (name : List ℕ) → Reply → (group : ℕ) → List ℕ
end_line name reply group = codes "end " ++ (name ++ (codes " " ++ (end_of reply group ++ codes "\n")))
