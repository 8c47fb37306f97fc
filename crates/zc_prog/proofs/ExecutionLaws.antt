-- A run is one execution: what its pool keeps of it, what its disks say of it, and where it ends.
use Rattle.std.proofs.Common.{◌≡◌, ◌∙◌, ℕ, suc, ◌+◌, ◌≤◌, Bool, List, [], ◌∷◌, ◌++◌, length, take, drop, slice_get, fold, Some, None, refl, sym, ap, subst, arith, IsTrue}
use Rattle.std.proofs.Math.Seq.{take-length}
use Rattle.std.proofs.lemmas.List.Sums.{fold-append}
use Rattle.std.proofs.lemmas.Option.{same_Some}
use Rattle.std.specs.List.{AllByRecursion}
use Rattle.zc_num.specs.declared.limits.Limits.{Limits}
use Rattle.zc_tape.specs.Tape.{Image, Shape, Tape}
use Rattle.zc_tape.specs.Crash.{May, AtRest, reads}
use Rattle.zc_tape.proofs.Extends.{Extends}
use Rattle.zc_tape.proofs.HeldLaws.{at_rest_first, reads_first}
use Rattle.zc_command.specs.declared.command.Command.TheVariants.{Commit}
use Rattle.zc_command.specs.declared.reply.Reply.{Reply}
use Rattle.zc_command.specs.declared.reply.Reply.TheVariants.{Done, Count, Data, Size, No}
use Rattle.zc_script.specs.declared.act.Line.{Line}
use Rattle.zc_state.specs.State.{State, StandsFor}
use Rattle.zc_plain.specs.declared.plain_pool.PlainPool.{PlainPool}
use Rattle.zc_plain.specs.declared.entry.Entry.{Entry}
use Rattle.zc_plain.specs.declared.entry.Entry.TheVariants.{Ask, Answer, Seal, Finish}
use Rattle.zc_plain.specs.History.{PlainState, begun, step, state_after, pool_after}
use Rattle.zc_plain.specs.Legal.{Progress, progress}
use Rattle.zc_group.specs.declared.root.Root.{Root}
use Rattle.zc_lane.specs.Found.{found_in, HoldSame}
use Rattle.zc_open.specs.declared.ack.Ack.{Ack}
use Rattle.zc_open.specs.declared.open_pool.OpenPool.{OpenPool}
use Rattle.zc_open.specs.Acked.{Acked, AreAcks}
use Rattle.zc_open.specs.Heard.{progress_after}
use Rattle.zc_open.specs.Points.{Point}
use Rattle.zc_open.proofs.ProgressLaws.{progress_append}
use Rattle.zc_pool.specs.declared.pool.Pool.{Pool}
use Rattle.zc_pool.specs.Opened.{run_from}
use Rattle.zc_pool.specs.Running.{Run, IsKept, IsRunning, Survives, first_failed_from}
use Rattle.zc_prog.specs.Played.{askings_in, run_of, IsFinish, acknowledged_by, last_session, is_done}
use Rattle.zc_prog.specs.Execution.{IsExecution, IsSizeOf, IsAcknowledged, IsOnTape, IsAtEnd, last_group, front}
use Rattle.zc_prog.specs.Session.{IsFront, IsCutShort, IsUnasked, WasUnasked}
use Rattle.zc_prog.specs.Midway.{IsUnderWay, AddsWhole, execution_of}
use Rattle.zc_prog.proofs.AckedLaws.{all_last, front_whole}

-- ---- what is kept of it

pub is_execution : (shape : Shape) (run : Run) (root : Root) (kept : OpenPool) (point : Point) → IsKept shape run root kept point → AreAcks kept → IsExecution (execution_of run kept)
is_execution shape run root kept point is acks = record { legal = is.heard.legal; nothing_due = is.heard.due; acks_are = ap (λ (acked : Acked). acked.done) acks.acked }

size_of_kept : (shape : Shape) (run : Run) (root : Root) (kept : OpenPool) (point : Point) → IsKept shape run root kept point → IsSizeOf shape run.start.limits
size_of_kept shape run root kept point is =
    subst (IsSizeOf shape) (sym is.start_is.limits_are) (record { devices = is.size.devices; places = is.size.places })

-- a pool that is under way is on its tape
pub way_on_tape : {D : Type 0} (shape : D → Shape) (tape : D → Tape) (limits : Limits) (s : State) (begun : ℕ) (pool : Pool D) → IsUnderWay shape tape (run_from limits s begun) pool
    → IsOnTape (shape pool.disks) (tape pool.disks) s (execution_of (run_from limits s begun) pool.kept)
way_on_tape shape tape limits s begun pool way = at way.running where
  at : IsRunning (shape pool.disks) (tape pool.disks) (run_from limits s begun) pool.root pool.kept
      → IsOnTape (shape pool.disks) (tape pool.disks) s (execution_of (run_from limits s begun) pool.kept)
  at (point, is, disks) = record {
    size = size_of_kept (shape pool.disks) (run_from limits s begun) pool.root pool.kept point is;
    start_is = refl;
    claim_is = refl;
    failed_is = (disks way.told).first_failed ∙ ap (λ (from : ℕ). first_failed_from 0 (drop from (tape pool.disks).calls)) way.from_first;
    acknowledged = way.acknowledged;
    survives =
        subst (λ (from : ℕ). Survives May (shape pool.disks) (tape pool.disks) from limits (found_in limits s) pool.kept.history pool.kept.acks) way.from_first
        (subst (λ (of : Limits). Survives May (shape pool.disks) (tape pool.disks) begun of (found_in limits s) pool.kept.history pool.kept.acks) (sym is.start_is.limits_are)
        (disks way.told).survives);
  }

-- so is one that was cut short
pub way_cut_short : {D : Type 0} (shape : D → Shape) (tape : D → Tape) (limits : Limits) (s : State) (begun : ℕ) (pool : Pool D) (lines : List Line)
    → IsUnderWay shape tape (run_from limits s begun) pool → AreAcks pool.kept → IsFront (askings_in pool.kept.history) (run_of lines) → IsCutShort (shape pool.disks) (tape pool.disks) s lines
way_cut_short shape tape limits s begun pool lines way acks asked =
    let run : Run = run_from limits s begun in
    record {
      run = execution_of run pool.kept;
      is_run = is_execution (shape pool.disks) run pool.root pool.kept way.running.0 way.running.1 acks;
      front_of = asked;
      on_tape = way_on_tape shape tape limits s begun pool way;
    }

-- an import that was cut short is the execution of nothing
unopened_unasked : (shape : Shape) (t u : Tape) → t.calls ≡ []
    → ((s : State) (limits : Limits) → IsTrue t.told → AtRest t → StandsFor shape (reads t) s → Survives May shape u (length t.calls) limits (found_in limits s) [] [])
    → (s : State) → IsTrue t.told → StandsFor shape (reads t) s → IsUnasked shape u s
unopened_unasked shape t u empty survives s told stands =
    let limits : Limits = record { devices = shape.devices; places = shape.places; are_limits = stands.state.size } in
    record {
      run = record { start = found_in limits s; claim = s.body.group + 1; failed = first_failed_from 0 u.calls; history = []; acks = [] };
      is_run = record { legal = tt; nothing_due = refl; acks_are = refl };
      none = refl;
      on_tape = record {
        size = record { devices = refl; places = refl };
        start_is = refl;
        claim_is = refl;
        failed_is = refl;
        acknowledged = tt;
        survives =
            subst (λ (from : ℕ). Survives May shape u from limits (found_in limits s) [] []) (ap length empty)
            (survives s limits told (at_rest_first t empty) stands);
      };
    }

pub unopened_was_unasked : (shape : Shape) (t u : Tape) → t.calls ≡ [] → u.told ≡ t.told → (IsTrue t.told → Extends t u)
    → ((s : State) (limits : Limits) → IsTrue t.told → AtRest t → StandsFor shape (reads t) s → Survives May shape u (length t.calls) limits (found_in limits s) [] [])
    → WasUnasked shape u
unopened_was_unasked shape t u empty same longer survives = λ told s stands.
    let before : IsTrue t.told = subst (λ (told : Bool). IsTrue told) same told in
    let start : u.start ≡ reads t = (longer before).start ∙ sym (reads_first t empty) in
    unopened_unasked shape t u empty survives s before (subst (λ (image : Image). StandsFor shape image s) start stands)

-- ---- its end

-- the entries of a commit after its ask
abbrev rest_of : (session group : ℕ) → Reply → (finish : List Entry) → List Entry
rest_of session group reply finish = Seal group ∷ (finish ++ Answer session reply ∷ [])

finish_or_none : (P : List Entry → Type 0) (group : ℕ) (finish : List Entry) → IsFinish group finish → P [] → ((held : ℕ) → P (Finish group held ∷ [])) → P finish
finish_or_none P group [] is none one = none
finish_or_none P group (entry ∷ entries) (held, is, no_more) none one =
    subst (λ (first : Entry). P (first ∷ entries)) (sym is) (subst (λ (others : List Entry). P (Finish group held ∷ others)) (sym no_more) (one held))

-- its group is the last that was sealed
last_of_commit : (p : Progress) (session group : ℕ) (reply : Reply) (finish : List Entry) → IsFinish group finish → (fold progress p (Ask session Commit ∷ rest_of session group reply finish)).last ≡ group
unfolding progress
last_of_commit p session group reply finish is =
    finish_or_none (λ (some : List Entry). (fold progress p (Ask session Commit ∷ rest_of session group reply some)).last ≡ group) group finish is refl (λ held. refl)

-- and after its seal the files stay
pool_of_commit : (state : PlainState) (session group : ℕ) (reply : Reply) (finish : List Entry) → IsFinish group finish
    → (fold step state (Ask session Commit ∷ rest_of session group reply finish)).pool ≡ (fold step state (Ask session Commit ∷ Seal group ∷ [])).pool
unfolding step
pool_of_commit state session group reply finish is =
    finish_or_none (λ (some : List Entry). (fold step state (Ask session Commit ∷ rest_of session group reply some)).pool ≡ (fold step state (Ask session Commit ∷ Seal group ∷ [])).pool)
    group finish is refl (λ held. refl)

-- the entries up to the second after some first ones
two_more : (old rest : List Entry) (a b : Entry) → take (suc (suc (length old))) (old ++ a ∷ b ∷ rest) ≡ old ++ a ∷ b ∷ []
two_more [] rest a b = refl
two_more (x ∷ old) rest a b = ap (λ (xs : List Entry). x ∷ xs) (two_more old rest a b)

take_two : (old rest : List Entry) (a b : Entry) → take ((length old + 1) + 1) (old ++ a ∷ b ∷ rest) ≡ old ++ a ∷ b ∷ []
take_two old rest a b =
    let sum : (length old + 1) + 1 ≡ suc (suc (length old)) = omega arith in
    ap (λ (n : ℕ). take n (old ++ a ∷ b ∷ rest)) sum ∙ two_more old rest a b

second_more : (old rest : List Entry) (a b : Entry) → slice_get (old ++ a ∷ b ∷ rest) (suc (length old)) ≡ Some b
second_more [] rest a b = refl
second_more (x ∷ old) rest a b = second_more old rest a b

second_after : (old rest : List Entry) (a b : Entry) → slice_get (old ++ a ∷ b ∷ rest) (length old + 1) ≡ Some b
second_after old rest a b =
    let sum : length old + 1 ≡ suc (length old) = omega arith in
    ap (λ (n : ℕ). slice_get (old ++ a ∷ b ∷ rest) n) sum ∙ second_more old rest a b

-- the files at the seal of the last commit are those at the end
pool_at_end : (start : PlainPool) (old : List Entry) (session group : ℕ) (reply : Reply) (finish : List Entry) → IsFinish group finish
    → pool_after start (old ++ Ask session Commit ∷ rest_of session group reply finish) ((length old + 1) + 1)
    ≡ pool_after start (old ++ Ask session Commit ∷ rest_of session group reply finish) (length (old ++ Ask session Commit ∷ rest_of session group reply finish))
pool_at_end start old session group reply finish is =
    let all : List Entry = old ++ Ask session Commit ∷ rest_of session group reply finish in
    ap (λ (past : List Entry). (state_after start past).pool) (take_two old (finish ++ Answer session reply ∷ []) (Ask session Commit) (Seal group))
    ∙ ap (λ (state : PlainState). state.pool) (fold-append step (begun start) old (Ask session Commit ∷ Seal group ∷ []))
    ∙ sym (pool_of_commit (state_after start old) session group reply finish is)
    ∙ sym (ap (λ (state : PlainState). state.pool) (fold-append step (begun start) old (Ask session Commit ∷ rest_of session group reply finish)))
    ∙ sym (ap (λ (past : List Entry). (state_after start past).pool) (take-length all))

-- a commit that was done, as it is acknowledged
abbrev last_ack : (mid kept : OpenPool) → Ack
last_ack mid kept = record { session = last_session; ask = length mid.history + 1; dataset = None; calls = kept.calls }

-- once the last commit is done, its acknowledgement tells what the disks hold
pub done_at_end : (shape : Shape) (u : Tape) (run : Run) (mid kept : OpenPool) (reply : Reply) → AddsWhole mid kept last_session Commit reply → reply ≡ Done → kept.calls ≡ length u.calls
    → AllByRecursion (IsAcknowledged shape u (execution_of run kept)) kept.acks → IsAtEnd shape u (execution_of run kept)
done_at_end shape u run mid kept reply last done count all = from last.are where
  from : (group : ℕ) × (finish : List Entry) × IsFinish group finish × (last.entries ≡ Ask last_session Commit ∷ Seal group ∷ (finish ++ Answer last_session reply ∷ []))
      × (last.acks ≡ acknowledged_by last_session (length mid.history + 1) reply kept.calls) × (mid.calls ≤ kept.calls) → IsAtEnd shape u (execution_of run kept)
  from (group, finish, is_finish, entries_are, acks_are, later) = at (all_last (IsAcknowledged shape u (execution_of run kept)) mid.acks (last_ack mid kept) (subst (λ (acks : List Ack). AllByRecursion (IsAcknowledged shape u (execution_of run kept)) acks) acks_end all)) where
    acks_end : kept.acks ≡ mid.acks ++ last_ack mid kept ∷ []
    acks_end =
        last.acks_are
        ∙ ap (λ (acks : List Ack). mid.acks ++ acks) (acks_are ∙ ap (λ (of : Reply). acknowledged_by last_session (length mid.history + 1) of kept.calls) done)

    history : kept.history ≡ mid.history ++ Ask last_session Commit ∷ rest_of last_session group reply finish
    history = last.history ∙ ap (λ (entries : List Entry). mid.history ++ entries) entries_are

    whole : front kept.calls u ≡ u
    whole = ap (λ (calls : ℕ). front calls u) count ∙ front_whole u

    last_is : last_group (execution_of run kept) ≡ group
    last_is =
        ap (λ (entries : List Entry). (progress_after run.start run.claim entries).last) history
        ∙ ap (λ (p : Progress). p.last) (progress_append run.start run.claim mid.history (Ask last_session Commit ∷ rest_of last_session group reply finish))
        ∙ last_of_commit (progress_after run.start run.claim mid.history) last_session group reply finish is_finish

    files : pool_after run.start kept.history ((length mid.history + 1) + 1) ≡ pool_after run.start kept.history (length kept.history)
    files =
        ap (λ (entries : List Entry). pool_after run.start entries ((length mid.history + 1) + 1)) history
        ∙ pool_at_end run.start mid.history last_session group reply finish is_finish
        ∙ sym (ap (λ (entries : List Entry). pool_after run.start entries (length entries)) history)

    at : IsAcknowledged shape u (execution_of run kept) (last_ack mid kept) → IsAtEnd shape u (execution_of run kept)
    at is = record {
      at_rest = subst AtRest whole is.at_rest;
      state = is.state;
      stands = subst (λ (v : Tape). StandsFor shape (reads v) is.state) whole is.stands;
      group_is =
          let one : Seal is.group ≡ Seal group =
          same_Some (Seal is.group) (Seal group)
          (sym is.sealed
          ∙ ap (λ (entries : List Entry). slice_get entries (length mid.history + 1)) history
          ∙ second_after mid.history (finish ++ Answer last_session reply ∷ []) (Ask last_session Commit) (Seal group)) in
          let same : is.group ≡ group = cc in
          is.group_is ∙ same ∙ sym last_is;
      holds = subst (λ (pool : PlainPool). HoldSame (found_in run.start.limits is.state) pool) files is.holds;
    }

pub reply_is_done : (reply : Reply) (good : Bool) → good ≡ is_done reply → IsTrue good → reply ≡ Done
reply_is_done Done good is good_is = refl
reply_is_done (Count bytes) good is good_is = absurd cc
reply_is_done (Data bytes) good is good_is = absurd cc
reply_is_done (Size size blocks) good is good_is = absurd cc
reply_is_done (No refusal) good is good_is = absurd cc
