-- What one entry or two more leave of the progress of a history, and when they may follow.
use Rattle.std.proofs.Common.{◌≡◌, ℕ, ◌+◌, false, ◌||◌, List, [], ◌∷◌, ◌++◌, drop, length, fold, Option, Some, None, refl, sym, ap, subst, ◌∙◌}
use Rattle.std.proofs.lemmas.List.Sums.{fold-append}
use Rattle.std.proofs.lemmas.Option.{none-some}
use Rattle.zc_command.specs.declared.command.Command.{Command}
use Rattle.zc_command.specs.declared.command.Command.TheVariants.{Commit}
use Rattle.zc_command.specs.declared.reply.Reply.{Reply}
use Rattle.zc_command.specs.declared.reply.Reply.TheVariants.{Done, No}
use Rattle.zc_command.specs.declared.refusal.Refusal.TheVariants.{Eio}
use Rattle.zc_plain.specs.declared.plain_pool.PlainPool.{PlainPool}
use Rattle.zc_plain.specs.declared.entry.Entry.{Entry}
use Rattle.zc_plain.specs.declared.entry.Entry.TheVariants.{Ask, Answer, Seal, Finish}
use Rattle.zc_plain.specs.Charge.{held_by, with_seal, with_finish}
use Rattle.zc_plain.specs.Answer.{answer, settled}
use Rattle.zc_plain.specs.History.{PlainState, is_waiting, reply_of, tally_after, next_number, step, state_after}
use Rattle.zc_plain.specs.Legal.{Due, Nothing, AnswerDue, SealDue, Wait, Unfinished, Progress, progress, at_start, wait_of, without_wait, first_of_unfinished, is_eio, MayEnd, MayAnswer, MayFollow, AreLegal}
use Rattle.zc_plain.proofs.HistoryLaws.{waiting_changes_nothing, waiting_counts_nothing, entries_are_counted}
use Rattle.zc_open.specs.Heard.{progress_after}

-- ---- a history in two parts

pub progress_append : (start : PlainPool) (claim : ℕ) (front back : List Entry) → progress_after start claim (front ++ back) ≡ fold progress (progress_after start claim front) back
progress_append start claim front back = fold-append progress (at_start start claim) front back

pub legal_append : (failed : Option ℕ) (p : Progress) (front back : List Entry) → AreLegal failed p front → AreLegal failed (fold progress p front) back → AreLegal failed p (front ++ back)
legal_append failed p [] back legal more = more
legal_append failed p (entry ∷ front) back legal more = (legal.0, legal_append failed (progress p entry) front back legal.1 more)

-- ---- the pool

-- the states are those of the plain pool
state_follows : (p : Progress) (history : List Entry) → (fold progress p history).state ≡ fold step p.state history
unfolding progress
state_follows p [] = refl
state_follows p (entry ∷ history) = state_follows (progress p entry) history

pub state_of_progress : (start : PlainPool) (claim : ℕ) (history : List Entry) → (progress_after start claim history).state ≡ state_after start history
state_of_progress start claim history = state_follows (at_start start claim) history

-- so the next entry has the next number
pub number_of_progress : (start : PlainPool) (claim : ℕ) (history : List Entry) → next_number (progress_after start claim history).state ≡ length history + 1
number_of_progress start claim history = ap next_number (state_of_progress start claim history) ∙ ap (λ (n : ℕ). n + 1) (entries_are_counted start history)

-- the reply to a command that is answered at once
pub reply_at_once : (state : PlainState) (session : ℕ) (command : Command) (reply : Reply) (after : PlainPool) → is_waiting command ≡ false
    → settled state.pool (answer (next_number state) state.tally state.pool command) ≡ (reply, after) → reply_of state (Ask session command) ≡ Some reply
unfolding reply_of
reply_at_once state session command reply after at_once given = rw (at_once, given) refl

-- the pool and what is counted once it is answered
pub pool_asked : (state : PlainState) (session : ℕ) (command : Command) (reply : Reply) (after : PlainPool)
    → settled state.pool (answer (next_number state) state.tally state.pool command) ≡ (reply, after) → (fold step state (Ask session command ∷ Answer session reply ∷ [])).pool ≡ after
unfolding step
pool_asked state session command reply after given = rw given refl

pub tally_asked : (state : PlainState) (session : ℕ) (command : Command) (reply : Reply)
    → (fold step state (Ask session command ∷ Answer session reply ∷ [])).tally ≡ tally_after (next_number state) state.tally state.pool command
unfolding step
tally_asked state session command reply = refl

-- a commit changes no files
commit_pool : (state : PlainState) (session : ℕ) → (step state (Ask session Commit)).pool ≡ state.pool
unfolding step
commit_pool state session = waiting_changes_nothing (next_number state) state.tally state.pool Commit refl

commit_tally : (state : PlainState) (session : ℕ) → (step state (Ask session Commit)).tally ≡ state.tally
unfolding step
commit_tally state session = waiting_counts_nothing (next_number state) state.tally state.pool Commit refl

seal_pool : (state : PlainState) (group : ℕ) → (step state (Seal group)).pool ≡ state.pool
unfolding step
seal_pool state group = refl

seal_tally : (state : PlainState) (group : ℕ) → (step state (Seal group)).tally ≡ with_seal group state.tally
unfolding step
seal_tally state group = refl

-- the pool and what is counted once a group is sealed for it
pub pool_sealed : (state : PlainState) (session group : ℕ) → (fold step state (Ask session Commit ∷ Seal group ∷ [])).pool ≡ state.pool
pool_sealed state session group = seal_pool (step state (Ask session Commit)) group ∙ commit_pool state session

pub tally_sealed : (state : PlainState) (session group : ℕ) → (fold step state (Ask session Commit ∷ Seal group ∷ [])).tally ≡ with_seal group state.tally
tally_sealed state session group = seal_tally (step state (Ask session Commit)) group ∙ ap (with_seal group) (commit_tally state session)

-- once a wait has ended
pub pool_answered : (state : PlainState) (session : ℕ) (reply : Reply) → (step state (Answer session reply)).pool ≡ state.pool
unfolding step
pool_answered state session reply = refl

pub tally_answered : (state : PlainState) (session : ℕ) (reply : Reply) → (step state (Answer session reply)).tally ≡ state.tally
unfolding step
tally_answered state session reply = refl

-- once a group is finished
pub pool_finished : (state : PlainState) (group held : ℕ) → (step state (Finish group held)).pool ≡ state.pool
unfolding step
pool_finished state group held = refl

pub tally_finished : (state : PlainState) (group held : ℕ) → (step state (Finish group held)).tally ≡ with_finish group held state.tally
unfolding step
tally_finished state group held = refl

-- ---- a command that is answered at once

after_ask : (p : Progress) (session : ℕ) (command : Command) (reply : Reply) → reply_of p.state (Ask session command) ≡ Some reply
    → progress p (Ask session command) ≡ record p { due = AnswerDue session reply; state = step p.state (Ask session command) }
unfolding progress
after_ask p session command reply told = rw told refl

after_due : (p : Progress) (session : ℕ) (reply : Reply) → p.due ≡ AnswerDue session reply
    → progress p (Answer session reply) ≡ record p { due = Nothing; state = step p.state (Answer session reply) }
unfolding progress
after_due p session reply due = rw due refl

pub progress_asked : (p : Progress) (session : ℕ) (command : Command) (reply : Reply) → reply_of p.state (Ask session command) ≡ Some reply
    → fold progress p (Ask session command ∷ Answer session reply ∷ []) ≡ record p { due = Nothing; state = fold step p.state (Ask session command ∷ Answer session reply ∷ []) }
progress_asked p session command reply told =
    ap (λ (q : Progress). progress q (Answer session reply)) (after_ask p session command reply told)
    ∙ after_due (record p { due = AnswerDue session reply; state = step p.state (Ask session command) }) session reply refl

pub legal_asked : (failed : Option ℕ) (p : Progress) (session : ℕ) (command : Command) (reply : Reply) → p.due ≡ Nothing → wait_of session p.waits ≡ None
    → reply_of p.state (Ask session command) ≡ Some reply → AreLegal failed p (Ask session command ∷ Answer session reply ∷ [])
legal_asked failed p session command reply due free told =
    let q = progress p (Ask session command) in
    let is : q.due ≡ AnswerDue session reply = ap (λ (q : Progress). q.due) (after_ask p session command reply told) in
    let may : MayAnswer failed q (AnswerDue session reply) session reply = (refl, refl) in
    ((due, free), (subst (λ (due : Due). MayAnswer failed q due session reply) (sym is) may, tt))

-- ---- a commit

after_commit : (p : Progress) (session : ℕ) → progress p (Ask session Commit) ≡ record p { due = SealDue session; state = step p.state (Ask session Commit) }
unfolding progress reply_of
after_commit p session = refl

after_seal : (p : Progress) (session group : ℕ) → p.due ≡ SealDue session
    → progress p (Seal group) ≡ record p {
      due = Nothing;
      waits = p.waits ++ record { session = session; group = group } ∷ [];
      unfinished = p.unfinished ++ record { group = group; held = held_by p.state.pool } ∷ [];
      last = group;
      state = step p.state (Seal group);
    }
unfolding progress
after_seal p session group due = rw due refl

-- the session waits, and the group is to be finished
abbrev pub sealed_after : Progress → (session group held : ℕ) → PlainState → Progress
sealed_after p session group held state = record p {
  due = Nothing;
  waits = p.waits ++ record { session = session; group = group } ∷ [];
  unfinished = p.unfinished ++ record { group = group; held = held } ∷ [];
  last = group;
  state = state;
}

pub progress_sealed : (p : Progress) (session group : ℕ)
    → fold progress p (Ask session Commit ∷ Seal group ∷ []) ≡ sealed_after p session group (held_by p.state.pool) (fold step p.state (Ask session Commit ∷ Seal group ∷ []))
progress_sealed p session group =
    ap (λ (q : Progress). progress q (Seal group)) (after_commit p session)
    ∙ after_seal (record p { due = SealDue session; state = step p.state (Ask session Commit) }) session group refl
    ∙ ap (λ (pool : PlainPool). sealed_after p session group (held_by pool) (fold step p.state (Ask session Commit ∷ Seal group ∷ []))) (commit_pool p.state session)

pub legal_sealed : (failed : Option ℕ) (p : Progress) (session group : ℕ) → p.due ≡ Nothing → wait_of session p.waits ≡ None → group ≡ p.last + 1
    → AreLegal failed p (Ask session Commit ∷ Seal group ∷ [])
legal_sealed failed p session group due free next =
    let may : MayFollow failed (record p { due = SealDue session; state = step p.state (Ask session Commit) }) (Seal group) = next in
    ((due, free), (subst (λ (q : Progress). MayFollow failed q (Seal group)) (sym (after_commit p session)) may, tt))

-- ---- the end of a wait

pub progress_answered : (p : Progress) (session : ℕ) (reply : Reply) → p.due ≡ Nothing
    → fold progress p (Answer session reply ∷ []) ≡ record p { waits = without_wait session p.waits; failed = p.failed || is_eio reply; state = step p.state (Answer session reply) }
unfolding progress
progress_answered p session reply due = rw due refl

pub legal_answered : (failed : Option ℕ) (p : Progress) (session : ℕ) (reply : Reply) (wait : Wait) → p.due ≡ Nothing → wait_of session p.waits ≡ Some wait → MayEnd failed p wait reply
    → AreLegal failed p (Answer session reply ∷ [])
legal_answered failed p session reply wait due found may =
    let here : MayAnswer failed p Nothing session reply = (wait, found, may) in
    (subst (λ (due : Due). MayAnswer failed p due session reply) (sym due) here, tt)

-- ---- a group that is finished

pub progress_finished : (p : Progress) (group held : ℕ) → fold progress p (Finish group held ∷ []) ≡ record p { unfinished = drop 1 p.unfinished; state = step p.state (Finish group held) }
unfolding progress
progress_finished p group held = refl

pub legal_finished : (failed : Option ℕ) (p : Progress) (group held : ℕ) (others : List Unfinished) → p.due ≡ Nothing → p.failed ≡ false
    → p.unfinished ≡ record { group = group; held = held } ∷ others → AreLegal failed p (Finish group held ∷ [])
legal_finished failed p group held others due whole first = ((due, whole, ap first_of_unfinished first), tt)

-- ---- a device call that failed

-- what may follow where no call failed may follow where one did
ends_failed : (failed : Option ℕ) (p : Progress) (wait : Wait) (reply : Reply) → MayEnd None p wait reply → MayEnd failed p wait reply
ends_failed failed p wait Done may = may
ends_failed failed p wait (No (Eio call)) may = absurd (none-some call may)
ends_failed failed p wait other may = may

answers_failed : (failed : Option ℕ) (p : Progress) (due : Due) (session : ℕ) (reply : Reply) → MayAnswer None p due session reply → MayAnswer failed p due session reply
answers_failed failed p Nothing session reply may = (may.0, may.1, ends_failed failed p may.0 reply may.2)
answers_failed failed p (AnswerDue to told) session reply may = may
answers_failed failed p (SealDue to) session reply may = may

follows_failed : (failed : Option ℕ) (p : Progress) (entry : Entry) → MayFollow None p entry → MayFollow failed p entry
follows_failed failed p (Ask session command) may = may
follows_failed failed p (Answer session reply) may = answers_failed failed p p.due session reply may
follows_failed failed p (Seal group) may = may
follows_failed failed p (Finish group held) may = may

pub legal_failed : (failed : Option ℕ) (p : Progress) (history : List Entry) → AreLegal None p history → AreLegal failed p history
legal_failed failed p [] legal = tt
legal_failed failed p (entry ∷ history) legal = (follows_failed failed p entry legal.0, legal_failed failed (progress p entry) history legal.1)
