-- Whether files were changed since the last seal of a history.
use Rattle.std.specs.Prelude.{Bool, true, false, ◌||◌, List, fold, Option, Some, None, if◌then◌else◌}
use Rattle.zc_command.specs.declared.command.Command.{Command}
use Rattle.zc_command.specs.declared.command.Command.TheVariants.{Mkds, Rmds, Mount, Create, Remove, Write, Fill, Truncate, Read, Stat, Commit}
use Rattle.zc_command.specs.declared.reply.Reply.{Reply}
use Rattle.zc_command.specs.declared.reply.Reply.TheVariants.{Done, Count, Data, Size, No}
use Rattle.zc_plain.specs.declared.entry.Entry.{Entry}
use Rattle.zc_plain.specs.declared.entry.Entry.TheVariants.{Ask, Answer, Seal, Finish}

-- the command is of a kind that changes datasets or files; a fill of no byte is one too
abbrev pub is_change : Command → Bool
is_change (Mkds dataset) = true
is_change (Rmds dataset) = true
is_change (Mount dataset) = true
is_change (Create dataset file) = true
is_change (Remove dataset file) = true
is_change (Write dataset file offset bytes) = true
is_change (Fill dataset file offset len byte) = true
is_change (Truncate dataset file size) = true
is_change (Read dataset file offset len) = false
is_change (Stat dataset file) = false
is_change Commit = false

-- the reply is no refusal
abbrev pub is_done : Reply → Bool
is_done Done = true
is_done (Count bytes) = true
is_done (Data bytes) = true
is_done (Size size blocks) = true
is_done (No refusal) = false

-- a change was asked, and this reply isn't a refusal
abbrev pub is_changed_by : Option Command → Reply → Bool
is_changed_by None reply = false
is_changed_by (Some command) reply = if is_change command then is_done reply else false

-- the command that was asked last and isn't answered nor sealed, and whether a change was answered without refusal since the last seal
pub record Since : Type 0 where
  pub asked : Option Command
  pub changed : Bool

abbrev pub since_entry : Since → Entry → Since
since_entry since (Ask session command) = record since { asked = Some command }
since_entry since (Answer session reply) = record { asked = None; changed = since.changed || is_changed_by since.asked reply }
since_entry since (Seal group) = record { asked = None; changed = false }
since_entry since (Finish group held) = since

-- after all entries of the history
abbrev pub since_after : List Entry → Since
since_after history = fold since_entry (record { asked = None; changed = false }) history
