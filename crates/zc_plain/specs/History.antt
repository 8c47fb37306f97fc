-- The history of a plain pool, and the pool and the replies after its entries.
use Rattle.std.specs.Prelude.{◌≡◌, ℕ, ◌+◌, ◌^◌, ◌≤◌, max, Bool, true, false, List, [], ◌∷◌, ◌++◌, fold, filter, take, Option, Some, None, Result, Ok, Err, if◌then◌else◌}
use Rattle.std.specs.declared.alloc.AllocError.{AllocError}
use Rattle.zc_command.specs.declared.command.Command.{Command}
use Rattle.zc_command.specs.declared.command.Command.TheVariants.{Mkds, Rmds, Mount, Create, Remove, Write, Fill, Truncate, Read, Stat, Commit}
use Rattle.zc_command.specs.declared.reply.Reply.{Reply}
use Rattle.zc_command.specs.Names.{AreConditions}
use Rattle.zc_plain.specs.declared.plain_pool.PlainPool.{PlainPool}
use Rattle.zc_plain.specs.declared.entry.Entry.{Entry}
use Rattle.zc_plain.specs.declared.entry.Entry.TheVariants.{Ask, Answer, Seal, Finish}
use Rattle.zc_command.specs.declared.refusal.Refusal.{Refusal}
use Rattle.zc_plain.specs.declared.tally.MadeBlock.{MadeBlock}
use Rattle.zc_plain.specs.declared.tally.Tally.{Tally}
use Rattle.zc_plain.specs.Charge.{is_block, with_each, tally_of, with_seal, seals_up_to, is_after, with_finish, charge_of}
use Rattle.zc_plain.specs.Answer.{answer, settled, blocks_of_command, counted}

-- a pool after so many entries of its history, and what its charge is counted from
pub record PlainState : Type 0 where
  pub pool : PlainPool
  pub tally : Tally
  pub entries : ℕ

-- the command is answered once the disks are, and so in an entry of its own
abbrev pub is_waiting : Command → Bool
is_waiting (Mkds dataset) = false
is_waiting (Rmds dataset) = false
is_waiting (Mount dataset) = false
is_waiting (Create dataset file) = false
is_waiting (Remove dataset file) = false
is_waiting (Write dataset file offset bytes) = false
is_waiting (Fill dataset file offset len byte) = false
is_waiting (Truncate dataset file size) = false
is_waiting (Read dataset file offset len) = false
is_waiting (Stat dataset file) = false
is_waiting Commit = true

-- the reply that plain files give to the command with the number, where they give one at once
abbrev pub reply_to : ℕ → Tally → PlainPool → Command → Option Reply
reply_to number tally pool command = if is_waiting command then None else Some (settled pool (answer number tally pool command)).0

-- the pool after the command
abbrev pub pool_after_command : ℕ → Tally → PlainPool → Command → PlainPool
pool_after_command number tally pool command = (settled pool (answer number tally pool command)).1

-- what is counted after the command
abbrev pub tally_after : ℕ → Tally → PlainPool → Command → Tally
tally_after number tally pool command = counted tally (blocks_of_command tally pool command) (answer number tally pool command)

-- the reply to the entry with the number
abbrev pub reply_at : ℕ → Tally → PlainPool → Entry → Option Reply
reply_at number tally pool (Ask session command) = reply_to number tally pool command
reply_at number tally pool (Answer session reply) = None
reply_at number tally pool (Seal group) = None
reply_at number tally pool (Finish group held) = None

-- the pool after the entry with the number
abbrev pub next_pool : ℕ → Tally → PlainPool → Entry → PlainPool
next_pool number tally pool (Ask session command) = pool_after_command number tally pool command
next_pool number tally pool (Answer session reply) = pool
next_pool number tally pool (Seal group) = pool
next_pool number tally pool (Finish group held) = pool

-- what is counted after the entry with the number
abbrev pub next_tally : ℕ → Tally → PlainPool → Entry → Tally
next_tally number tally pool (Ask session command) = tally_after number tally pool command
next_tally number tally pool (Answer session reply) = tally
next_tally number tally pool (Seal group) = with_seal group tally
next_tally number tally pool (Finish group held) = with_finish group held tally

-- entries are counted from 1, and so the next one has this number
abbrev pub next_number : PlainState → ℕ
next_number state = state.entries + 1

-- the reply to one more entry
unfoldable pub reply_of : PlainState → Entry → Option Reply
reply_of state entry = reply_at (next_number state) state.tally state.pool entry

-- the state after one more entry
unfoldable pub step : PlainState → Entry → PlainState
step state entry =
    record { pool = next_pool (next_number state) state.tally state.pool entry; tally = next_tally (next_number state) state.tally state.pool entry; entries = next_number state }

-- the pool before any entry
abbrev pub begun : PlainPool → PlainState
begun pool = record { pool = pool; tally = tally_of pool; entries = 0 }

-- the state after the entries of a history, from the first on
abbrev pub state_after : PlainPool → List Entry → PlainState
state_after start history = fold step (begun start) history

-- the pool after the first m entries of a history
abbrev pub pool_after : PlainPool → List Entry → ℕ → PlainPool
pool_after start history m = (state_after start (take m history)).pool

-- the charge after the first m entries of a history
abbrev pub charge_after : PlainPool → List Entry → ℕ → ℕ
charge_after start history m = charge_of (state_after start (take m history)).tally

-- what whoever makes an entry meets
abbrev pub MeetsConditions : Entry → Type 0
MeetsConditions (Ask session command) = AreConditions command
MeetsConditions (Answer session reply) = Unit {0}
MeetsConditions (Seal group) = Unit {0}
MeetsConditions (Finish group held) = held ≤ 2 ^ 62

-- What a call answered to one more entry is its reply, and the state is the one after it, unless memory was wanting: then nothing
-- has changed.
abbrev pub Steps : PlainState → PlainState → Result (Option Reply) AllocError → Entry → Type 0
Steps old new (Ok reply) entry = (reply ≡ reply_of old entry) × (new ≡ step old entry)
Steps old new (Err fault) entry = new ≡ old

-- the blocks that a command makes where it isn't refused
abbrev pub unless_refused : List MadeBlock → Result (Reply × PlainPool) Refusal → List MadeBlock
unless_refused blocks (Ok done) = blocks
unless_refused blocks (Err refusal) = []

-- the blocks that an entry makes after a state
abbrev pub blocks_of_entry : PlainState → Entry → List MadeBlock
blocks_of_entry state (Ask session command) = unless_refused (blocks_of_command state.tally state.pool command) (answer (next_number state) state.tally state.pool command)
blocks_of_entry state (Answer session reply) = []
blocks_of_entry state (Seal group) = []
blocks_of_entry state (Finish group held) = []

-- the blocks that the entries of a history make after a state, in their order and with repeats
abbrev pub blocks_after : PlainState → List Entry → List MadeBlock
blocks_after state [] = []
blocks_after state (entry ∷ history) = blocks_of_entry state entry ++ blocks_after (step state entry) history

-- how many seals there were up to that of the group, of those that the history finishes, that was sealed last; none where it finishes
-- none. The groups in the list were sealed before the history
abbrev pub seals_finished : List ℕ → List Entry → ℕ
seals_finished sealed [] = 0
seals_finished sealed (Ask session command ∷ history) = seals_finished sealed history
seals_finished sealed (Answer session reply ∷ history) = seals_finished sealed history
seals_finished sealed (Seal group ∷ history) = seals_finished (sealed ++ group ∷ []) history
seals_finished sealed (Finish group held ∷ history) = max (seals_up_to group sealed) (seals_finished sealed history)

-- how many blocks the group holds that the history finishes last, and else so many
abbrev pub held_finished : ℕ → List Entry → ℕ
held_finished held [] = held
held_finished held (Ask session command ∷ history) = held_finished held history
held_finished held (Answer session reply ∷ history) = held_finished held history
held_finished held (Seal group ∷ history) = held_finished held history
held_finished held (Finish group more ∷ history) = held_finished more history

-- the blocks that the history of a pool made after the seal of the latest finished group, each once
abbrev pub made_since : PlainPool → List Entry → List MadeBlock
made_since start history = with_each is_block [] (filter (is_after (seals_finished [] history)) (blocks_after (begun start) history))
