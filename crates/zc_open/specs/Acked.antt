-- Which commits were acknowledged, by the history alone.
use Rattle.std.specs.Prelude.{◌≡◌, ℕ, ◌+◌, ◌==◌, Bool, true, false, not, List, [], ◌∷◌, ◌++◌, length, map, filter, fold, Option, None, if◌then◌else◌}
use Rattle.zc_command.specs.declared.reply.Reply.{Reply}
use Rattle.zc_command.specs.declared.reply.Reply.TheVariants.{Done, Count, Data, Size, No}
use Rattle.zc_plain.specs.declared.entry.Entry.{Entry}
use Rattle.zc_plain.specs.declared.entry.Entry.TheVariants.{Ask, Answer, Seal, Finish}
use Rattle.zc_plain.specs.History.{is_waiting}
use Rattle.zc_heart.specs.Core.{AreApart}
use Rattle.zc_open.specs.declared.ack.Ack.{Ack}
use Rattle.zc_open.specs.declared.ack.Waiting.{Waiting}
use Rattle.zc_open.specs.declared.open_pool.OpenPool.{OpenPool}

-- a session, the number of its ask, and the number of the dataset that it is of; None where it is of every dataset
pub record AskAt : Type 0 where
  pub session : ℕ
  pub ask : ℕ
  pub dataset : Option ℕ

-- after some entries: how many there are, which asks wait, and which of those that waited were answered Done, in order
pub record Acked : Type 0 where
  pub entries : ℕ
  pub waits : List AskAt
  pub done : List AskAt

-- the reply is Done
abbrev pub is_ok : Reply → Bool
is_ok Done = true
is_ok (Count bytes) = false
is_ok (Data bytes) = false
is_ok (Size size blocks) = false
is_ok (No refusal) = false

abbrev pub asks_of : (session : ℕ) → List AskAt → List AskAt
asks_of session waits = filter (λ (wait : AskAt). wait.session == session) waits

abbrev pub asks_without : (session : ℕ) → List AskAt → List AskAt
asks_without session waits = filter (λ (wait : AskAt). not (wait.session == session)) waits

-- after one more entry; a command that is waited for is a commit, which is of every dataset
abbrev pub acked_entry : Acked → Entry → Acked
acked_entry acked (Ask session command) = record acked {
  entries = acked.entries + 1;
  waits = if is_waiting command then acked.waits ++ record { session = session; ask = acked.entries + 1; dataset = None } ∷ [] else acked.waits;
}
acked_entry acked (Answer session reply) = record {
  entries = acked.entries + 1;
  waits = asks_without session acked.waits;
  done = if is_ok reply then acked.done ++ asks_of session acked.waits else acked.done;
}
acked_entry acked (Seal group) = record acked { entries = acked.entries + 1 }
acked_entry acked (Finish group held) = record acked { entries = acked.entries + 1 }

-- after all entries of the history
abbrev pub acked_after : List Entry → Acked
acked_after history = fold acked_entry (record { entries = 0; waits = []; done = [] }) history

abbrev pub wait_at : Waiting → AskAt
wait_at waiting = record { session = waiting.session; ask = waiting.ask; dataset = None }

abbrev pub ack_at : Ack → AskAt
ack_at ack = record { session = ack.session; ask = ack.ask; dataset = ack.dataset }

-- who waits and what was acknowledged is what the history says, and no session waits twice
pub record AreAcks (pool : OpenPool) : Type 0 where
  pub acked : acked_after pool.history ≡ record { entries = length pool.history; waits = map wait_at pool.waits; done = map ack_at pool.acks }
  pub apart : AreApart (map (λ (waiting : Waiting). waiting.session) pool.waits)
