-- Which histories of a pool are legal: which entry may come next, by what is due.
--
-- A command that plain files answer at once has its answer directly after it. A commit has the seal of its group directly after it,
-- and its answer later: once every group that was sealed up to then is finished, or once a device call has failed. Seals are numbered
-- upwards, and groups are finished in their order.
use Rattle.std.specs.Prelude.{◌≡◌, ℕ, ◌+◌, ◌==◌, Bool, true, false, not, ◌||◌, nat_lt, List, [], ◌∷◌, ◌++◌, drop, filter, Option, Some, None}
use Rattle.std.specs.List.{find, list_all}
use Rattle.zc_command.specs.declared.reply.Reply.{Reply}
use Rattle.zc_command.specs.declared.reply.Reply.TheVariants.{Done, Count, Data, Size, No}
use Rattle.zc_command.specs.declared.refusal.Refusal.TheVariants.{Enoent, Eio, Enxio, Ebusy, Eexist, Einval, Efbig, Enospc, Enametoolong}
use Rattle.zc_plain.specs.declared.plain_pool.PlainPool.{PlainPool}
use Rattle.zc_plain.specs.declared.entry.Entry.{Entry}
use Rattle.zc_plain.specs.declared.entry.Entry.TheVariants.{Ask, Answer, Seal, Finish}
use Rattle.zc_plain.specs.Charge.{held_by}
use Rattle.zc_plain.specs.History.{PlainState, begun, step, reply_of}

-- what the next entry has to be
pub data Due : Type 0 where
  Nothing : Due
  AnswerDue : (session : ℕ) (reply : Reply) → Due
  SealDue : (session : ℕ) → Due

-- a session waits for its answer, which is Done once the groups up to this one are finished
pub record Wait : Type 0 where
  pub session : ℕ
  pub group : ℕ

-- a group is sealed and isn't finished; so many blocks, each once, stood in the pool as it was sealed
pub record Unfinished : Type 0 where
  pub group : ℕ
  pub held : ℕ

-- a pool after some entries: what is due, who waits, which groups are to be finished, which was sealed last, and whether an answer
-- said that a device call failed
pub record Progress : Type 0 where
  pub state : PlainState
  pub due : Due
  pub waits : List Wait
  pub unfinished : List Unfinished
  pub last : ℕ
  pub failed : Bool

-- before any entry the claim group counts as the last that was sealed, and it is finished
abbrev pub at_start : PlainPool → (claim : ℕ) → Progress
at_start start claim = record { state = begun start; due = Nothing; waits = []; unfinished = []; last = claim; failed = false }

-- what the session waits for
abbrev pub wait_of : ℕ → List Wait → Option Wait
wait_of session waits = find (λ (wait : Wait). wait.session == session) waits

-- the others, which still wait
abbrev pub without_wait : ℕ → List Wait → List Wait
without_wait session waits = filter (λ (wait : Wait). not (wait.session == session)) waits

-- the first of the groups that aren't finished
abbrev pub first_of_unfinished : List Unfinished → Option Unfinished
first_of_unfinished [] = None
first_of_unfinished (one ∷ more) = Some one

-- the answer is that a device call failed
abbrev pub is_eio : Reply → Bool
is_eio Done = false
is_eio (Count bytes) = false
is_eio (Data bytes) = false
is_eio (Size size blocks) = false
is_eio (No (Enoent part)) = false
is_eio (No (Eio call)) = true
is_eio (No Enxio) = false
is_eio (No (Ebusy why)) = false
is_eio (No Eexist) = false
is_eio (No (Einval bad)) = false
is_eio (No (Efbig end most)) = false
is_eio (No (Enospc what need most)) = false
is_eio (No (Enametoolong len)) = false

-- every group that the wait is for is finished
abbrev pub is_over : Wait → List Unfinished → Bool
is_over wait unfinished = list_all (λ (one : Unfinished). nat_lt wait.group one.group) unfinished

-- what a command that has this reply at once leaves due; None for one that is waited for
abbrev pub due_after : (session : ℕ) → Option Reply → Due
due_after session None = SealDue session
due_after session (Some reply) = AnswerDue session reply

-- who waits once the group is sealed after what was due
abbrev pub waiting_after : Due → ℕ → List Wait → List Wait
waiting_after Nothing group waits = waits
waiting_after (AnswerDue session reply) group waits = waits
waiting_after (SealDue session) group waits = waits ++ record { session = session; group = group } ∷ []

-- an answer that was due is given; any other ends a wait
abbrev pub answered : Due → (session : ℕ) → Reply → Progress → Progress
answered Nothing session reply p = record p { waits = without_wait session p.waits; failed = p.failed || is_eio reply }
answered (AnswerDue to due) session reply p = record p { due = Nothing }
answered (SealDue to) session reply p = p

-- what is due after one more entry
abbrev pub moved : Progress → Entry → Progress
moved p (Ask session command) = record p { due = due_after session (reply_of p.state (Ask session command)) }
moved p (Answer session reply) = answered p.due session reply p
moved p (Seal group) = record p {
  due = Nothing;
  waits = waiting_after p.due group p.waits;
  unfinished = p.unfinished ++ record { group = group; held = held_by p.state.pool } ∷ [];
  last = group;
}
moved p (Finish group held) = record p { unfinished = drop 1 p.unfinished }

-- the pool after one more entry
unfoldable pub progress : Progress → Entry → Progress
progress p entry = record (moved p entry) { state = step p.state entry }

-- how a wait may end: in Done, where all that it is for is finished and no answer said that a device call failed; or in the number of
-- the first call that failed
abbrev pub MayEnd : (first_failed : Option ℕ) → Progress → Wait → Reply → Type 0
MayEnd first_failed p wait Done = (p.failed ≡ false) × (is_over wait p.unfinished ≡ true)
MayEnd first_failed p wait (Count bytes) = ⊥
MayEnd first_failed p wait (Data bytes) = ⊥
MayEnd first_failed p wait (Size size blocks) = ⊥
MayEnd first_failed p wait (No (Enoent part)) = ⊥
MayEnd first_failed p wait (No (Eio call)) = first_failed ≡ Some call
MayEnd first_failed p wait (No Enxio) = ⊥
MayEnd first_failed p wait (No (Ebusy why)) = ⊥
MayEnd first_failed p wait (No Eexist) = ⊥
MayEnd first_failed p wait (No (Einval bad)) = ⊥
MayEnd first_failed p wait (No (Efbig end most)) = ⊥
MayEnd first_failed p wait (No (Enospc what need most)) = ⊥
MayEnd first_failed p wait (No (Enametoolong len)) = ⊥

-- which answer may come next, by what is due
abbrev pub MayAnswer : (first_failed : Option ℕ) → Progress → Due → (session : ℕ) → Reply → Type 0
MayAnswer first_failed p Nothing session reply = (wait : Wait) × (wait_of session p.waits ≡ Some wait) × MayEnd first_failed p wait reply
MayAnswer first_failed p (AnswerDue to due) session reply = (session ≡ to) × (reply ≡ due)
MayAnswer first_failed p (SealDue to) session reply = ⊥

-- which seal may come next: only the one that is due, with the next number
abbrev pub MaySeal : Progress → Due → (group : ℕ) → Type 0
MaySeal p Nothing group = ⊥
MaySeal p (AnswerDue to due) group = ⊥
MaySeal p (SealDue to) group = group ≡ p.last + 1

-- which entry may come next. A session that waits asks nothing; a group is finished only as the first of those that aren't, and none
-- is once an answer said that a device call failed
abbrev pub MayFollow : (first_failed : Option ℕ) → Progress → Entry → Type 0
MayFollow first_failed p (Ask session command) = (p.due ≡ Nothing) × (wait_of session p.waits ≡ None)
MayFollow first_failed p (Answer session reply) = MayAnswer first_failed p p.due session reply
MayFollow first_failed p (Seal group) = MaySeal p p.due group
MayFollow first_failed p (Finish group held) = (p.due ≡ Nothing) × (p.failed ≡ false) × (first_of_unfinished p.unfinished ≡ Some (record { group = group; held = held }))

-- each entry may follow those before it
abbrev pub AreLegal : (first_failed : Option ℕ) → Progress → List Entry → Type 0
AreLegal first_failed p [] = Unit {0}
AreLegal first_failed p (entry ∷ entries) = MayFollow first_failed p entry × AreLegal first_failed (progress p entry) entries

-- the history is one of a pool that began so, after this claim group; where device calls failed, this was the first
abbrev pub IsLegal : (start : PlainPool) (claim : ℕ) (first_failed : Option ℕ) → List Entry → Type 0
IsLegal start claim first_failed history = AreLegal first_failed (at_start start claim) history
