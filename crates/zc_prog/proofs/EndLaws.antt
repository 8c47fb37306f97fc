-- What a run came to, as it is told of its disk set.
use Rattle.std.proofs.Common.{◌≡◌, ◌∙◌, ℕ, ◌+◌, ◌≤◌, ◌⊎◌, Bool, true, false, List, [], ◌++◌, length, Option, Some, None, Result, Ok, Err, refl, sym, ap, subst, inl, inr, arith, le_refl, le_of_eq, IsTrue, IfOk, IfErr, OnOk, IsErrOf}
use Rattle.std.proofs.lemmas.Bool.{false≢true}
use Rattle.zc_num.specs.Limits.{AreLimits}
use Rattle.zc_num.specs.declared.limits.Limits.{Limits}
use Rattle.zc_tape.specs.Tape.{Image, Made, Shape, Tape}
use Rattle.zc_tape.specs.Cause.{Rose}
use Rattle.zc_tape.specs.Crash.{May, AtRest, reads}
use Rattle.zc_tape.proofs.Extends.{Extends, extends_trans}
use Rattle.zc_tape.proofs.HeldLaws.{at_rest_first, reads_first}
use Rattle.zc_root.specs.declared.body.Body.{Body}
use Rattle.zc_root.specs.Root.{IsRoot}
use Rattle.zc_damage.specs.declared.damage.Damage.{Damage}
use Rattle.zc_layout.specs.Standing.{HasNoRoot}
use Rattle.zc_command.specs.declared.command.Command.TheVariants.{Commit}
use Rattle.zc_command.specs.declared.reply.Reply.{Reply}
use Rattle.zc_script.specs.declared.act.Line.{Line}
use Rattle.zc_state.specs.State.{State, StandsFor, IsFresh}
use Rattle.zc_state.specs.Reading.{read_state}
use Rattle.zc_state.proofs.StateLaws.{one_state}
use Rattle.zc_plain.specs.declared.plain_pool.PlainPool.{PlainPool}
use Rattle.zc_heart.specs.declared.changes.Sealed.{Sealed}
use Rattle.zc_group.specs.declared.root.Root.{Root}
use Rattle.zc_group.specs.declared.import.ImportFault.{ImportFault}
use Rattle.zc_group.specs.declared.import.ImportFault.TheVariants as import
use Rattle.zc_group.specs.Imported as imported
use Rattle.zc_group.specs.Imported.{WritesClaim, StopsAtFailure, IsDamage}
use Rattle.zc_image.specs.ReadAnswers.{IsWhole}
use Rattle.zc_lane.specs.Found.{found_in}
use Rattle.zc_open.specs.declared.open_pool.OpenPool.{OpenPool}
use Rattle.zc_open.specs.Acked.{AreAcks}
use Rattle.zc_open.specs.Heard.{IsHeard, progress_after, AreNumbered}
use Rattle.zc_open.specs.Points.{Point}
use Rattle.zc_pool.specs.declared.pool.Pool.{Pool}
use Rattle.zc_pool.specs.Opened.{run_from, IsNew, IsOpenedFrom}
use Rattle.zc_pool.specs.Opened as opened
use Rattle.zc_pool.specs.Running.{Run, IsKept, IsPool, IsRunning, Survives}
use Rattle.zc_prog.specs.declared.fault.SessionFault.{SessionFault}
use Rattle.zc_prog.specs.declared.fault.SessionFault.TheVariants.{NoMemory, Failed}
use Rattle.zc_prog.specs.declared.session.Played.{Played}
use Rattle.zc_prog.specs.Played.{Mark, AddsCommand, AddsLines, last_session, is_done, end_line}
use Rattle.zc_prog.specs.Execution.{IsOnTape, last_group, front}
use Rattle.zc_prog.specs.Session.{IsPlayed, IsCutShort, WasCutShort, CameTo, IsNoAnswer, fault_of, before_calls}
use Rattle.zc_prog.specs.Midway.{IsUnderWay, Goes, IsQuiet, EndsBy, AddsWhole, AddsEndLine, HasEnded, first_mark, execution_of}
use Rattle.zc_prog.specs.Ending.{RunsTo}
use Rattle.zc_prog.proofs.AckedLaws.{front_extends, front_whole}
use Rattle.zc_prog.proofs.EntryLaws.{mark_from_first}
use Rattle.zc_prog.proofs.StoppedLaws.{unasked_stopped, claim_over_pool}
use Rattle.zc_prog.proofs.ExecutionLaws.{is_execution, way_on_tape, way_cut_short, unopened_was_unasked, done_at_end, reply_is_done}
use Rattle.zc_prog.proofs.GoesLaws.{rose_within, begins_under_way}

-- ---- the last commit

-- nobody waits after an import
pub new_is_quiet : (kept : OpenPool) → IsNew kept → IsQuiet kept
new_is_quiet kept begins = record { no_waits = begins.waits; no_jobs = λ _. begins.jobs }

pub still_quiet : {X E : Type 0} (kept : OpenPool) (result : Result X E) → IsQuiet kept → OnOk result (IsQuiet kept)
still_quiet kept (Ok x) quiet = quiet
still_quiet kept (Err fault) quiet = tt

-- the group of the line that ends the text is that of the root
pub adds_end_line : {E : Type 0} (name : List ℕ) (told group : ℕ) (old new : OpenPool) (out : List ℕ) (reply : Reply) (result : Result Played E)
    → told ≡ group → AddsWhole old new last_session Commit reply → EndsBy new.failed reply
    → IfOk result (λ played. played.text.items ≡ out ++ end_line name reply told) → IfOk result (λ played. played.good ≡ is_done reply)
    → IfOk result (λ played. AddsEndLine name group old new out played.text.items played.good)
adds_end_line name told group old new out reply (Ok played) same last ends text good =
    record { reply = reply; last = last; ends = ends; text_is = text ∙ ap (λ (n : ℕ). out ++ end_line name reply n) same; good_is = good }
adds_end_line name told group old new out reply (Err fault) same last ends text good = tt

-- the lines, and then the last commit
pub has_ended : {E : Type 0} (name : List ℕ) (lines : List Line) (group claimed : ℕ) (mid kept : OpenPool) (said : List ℕ) (result : Result Played E)
    → AddsLines lines (first_mark claimed) mid.history said mid.acks mid.calls
    → IfOk result (λ played. AddsEndLine name group mid kept said played.text.items played.good) → OnOk result (IsQuiet kept)
    → IfOk result (λ played. HasEnded name lines group claimed kept played.text.items played.good)
has_ended name lines group claimed mid kept said (Ok played) lines_are end quiet = record { mid = mid; said = said; lines_are = lines_are; end = end; quiet = quiet }
has_ended name lines group claimed mid kept said (Err fault) lines_are end quiet = tt

-- ---- from the import on

-- what an import gave, whose pool stood there
record HasBegun {D : Type 0} (shape : D → Shape) (tape : D → Tape) (disks : D) (pool : Pool D) : Type 0 where
  state : State
  stood : StandsFor (shape disks) (reads (tape disks)) state
  fresh : IsFresh state
  way : IsUnderWay shape tape (run_from pool.root.limits state (length (tape disks).calls)) pool

begin : {D : Type 0} (shape : D → Shape) (tape : D → Tape) (disks : D) (pool : Pool D) → (tape disks).calls ≡ [] → shape pool.disks ≡ shape disks → (tape pool.disks).told ≡ (tape disks).told
    → IsNew pool.kept → (IsTrue (tape disks).told → AtRest (tape disks) → IsOpenedFrom (shape disks) (tape disks) (tape pool.disks) pool.root pool.kept)
    → IsTrue (tape disks).told → HasBegun shape tape disks pool
begin shape tape disks pool empty same_shape same_told begins opened told = at (opened told (at_rest_first (tape disks) empty)) where
  at : IsOpenedFrom (shape disks) (tape disks) (tape pool.disks) pool.root pool.kept → HasBegun shape tape disks pool
  at from = record {
    state = from.state;
    stood = from.stood;
    fresh = from.fresh;
    way =
        begins_under_way shape tape (run_from pool.root.limits from.state (length (tape disks).calls)) pool (subst (λ (told : Bool). IsTrue told) (sym same_told) told) (ap length empty)
        (subst (λ (of : Shape). IsRunning of (tape pool.disks) (run_from pool.root.limits from.state (length (tape disks).calls)) pool.root pool.kept) (sym same_shape) from.running)
        begins;
  }

-- of which shape the disk set is that is given back
shape_given : {D : Type 0} (shape : D → Shape) (tape : D → Tape) (faults : D → ℕ) (disks : D) (pool new : Pool D) (given : D) → shape pool.disks ≡ shape disks → Goes shape tape faults pool new → new.disks ≡ given
    → shape given ≡ shape disks
shape_given shape tape faults disks pool new given same goes is = ap shape (sym is) ∙ goes.same_shape ∙ same

pub run_shape : {D : Type 0} (shape : D → Shape) (tape : D → Tape) (faults : D → ℕ) (disks : D) (pool : Pool D) (name : List ℕ) (lines : List Line) (given : D) (result : Result Played SessionFault)
    → shape pool.disks ≡ shape disks → RunsTo shape tape faults pool name lines given result → shape given ≡ shape disks
run_shape shape tape faults disks pool name lines given result same runs = shape_given shape tape faults disks pool runs.new given same runs.goes runs.given

pub run_told : {D : Type 0} (shape : D → Shape) (tape : D → Tape) (faults : D → ℕ) (disks : D) (pool : Pool D) (name : List ℕ) (lines : List Line) (given : D) (result : Result Played SessionFault)
    → (tape pool.disks).told ≡ (tape disks).told → RunsTo shape tape faults pool name lines given result → (tape given).told ≡ (tape disks).told
run_told {D} shape tape faults disks pool name lines given result same runs = ap (λ (d : D). (tape d).told) (sym runs.given) ∙ runs.goes.same_told ∙ same

pub run_start : {D : Type 0} (shape : D → Shape) (tape : D → Tape) (faults : D → ℕ) (disks : D) (pool : Pool D) (name : List ℕ) (lines : List Line) (given : D) (result : Result Played SessionFault)
    → (tape pool.disks).told ≡ (tape disks).told → (IsTrue (tape disks).told → Extends (tape disks) (tape pool.disks)) → RunsTo shape tape faults pool name lines given result
    → IsTrue (tape disks).told → (tape given).start ≡ (tape disks).start
run_start {D} shape tape faults disks pool name lines given result same longer runs told =
    ap (λ (d : D). (tape d).start) (sym runs.given)
    ∙ (runs.goes.extends (subst (λ (told : Bool). IsTrue told) (sym same) told)).start
    ∙ (longer told).start

pub run_later : {D : Type 0} (shape : D → Shape) (tape : D → Tape) (faults : D → ℕ) (disks : D) (pool : Pool D) (name : List ℕ) (lines : List Line) (given : D) (result : Result Played SessionFault)
    → faults disks ≤ faults pool.disks → RunsTo shape tape faults pool name lines given result → faults disks ≤ faults given
run_later shape tape faults disks pool name lines given result later runs =
    let same : faults runs.new.disks ≡ faults given = ap faults runs.given in
    let more = runs.goes.later in
    omega arith

-- ---- the text

-- where no call failed and no group is to be written, the root's group is the one that was sealed last
root_is_last : (start : PlainPool) (claim group : ℕ) (kept : OpenPool) → IsHeard start claim kept → kept.group ≡ group → kept.jobs ≡ [] → group ≡ (progress_after start claim kept.history).last
root_is_last start claim group kept heard same none =
    let numbered : kept.group + 1 ≡ kept.heart.group = subst (λ (jobs : List Sealed). AreNumbered (kept.group + 1) jobs kept.heart.group) none heard.numbered in
    let next = heard.next_group in
    omega arith

-- the group stands in the text only where no call failed
same_end : (name : List ℕ) (group last : ℕ) (reply : Reply) (failed : Option ℕ) → EndsBy failed reply → (failed ≡ None → group ≡ last) → end_line name reply group ≡ end_line name reply last
same_end name group last reply None done same = ap (end_line name reply) (same refl)
same_end name group last reply (Some call) eio same =
    ap (λ (of : Reply). end_line name of group) eio ∙ ap (λ (of : Reply). end_line name of last) (sym eio)

-- what a pool keeps at its end is a run that was played, which its tape is told of
played_from : (shape of : Shape) (u : Tape) (name : List ℕ) (lines : List Line) (text : List ℕ) (good : Bool) (run : Run) (root : Root) (kept : OpenPool) (point : Point) (claimed : ℕ)
    → HasEnded name lines root.tree.group claimed kept text good → IsKept of run root kept point → AreAcks kept
    → (IsTrue u.told → WritesClaim shape (before_calls u) (front claimed u)) → (IsTrue u.told → kept.calls ≡ length u.calls)
    → (IsTrue u.told → (s : State) × StandsFor shape u.start s × IsFresh s × IsOnTape shape u s (execution_of run kept))
    → IsPlayed shape u name lines text good
played_from shape of u name lines text good run root kept point claimed ended is acks claims count on = record {
  run = execution_of run kept;
  is_run = is_execution of run root kept point is acks;
  said = ended.said;
  reply = ended.end.reply;
  claimed = claimed;
  calls = kept.calls;
  of_lines = record {
    entries = ended.mid.history;
    last = ended.end.last.entries;
    acks = ended.mid.acks;
    last_acks = ended.end.last.acks;
    between = ended.mid.calls;
    lines_are = ended.lines_are;
    last_is =
        subst (λ (at : Mark). AddsCommand last_session Commit ended.end.reply at ended.end.last.entries ended.end.last.acks kept.calls) (mark_from_first claimed ended.mid)
        ended.end.last.are;
    history_is = ended.end.last.history;
    acks_are = ended.end.last.acks_are;
  };
  text_is =
      ended.end.text_is
      ∙ ap (λ (line : List ℕ). ended.said ++ line)
      (same_end name root.tree.group (last_group (execution_of run kept)) ended.end.reply kept.failed ended.end.ends
      (λ none. root_is_last run.start run.claim root.tree.group kept is.heard is.group (ended.quiet.no_jobs none)));
  good_is = ended.end.good_is;
  claim_calls = claims;
  calls_are = count;
  on_tape = on;
  at_end = λ good_is told.
      done_at_end shape u run ended.mid kept ended.end.reply ended.end.last (reply_is_done ended.end.reply good ended.end.good_is good_is) (count told) ((on told).3.acknowledged);
}

-- the tape before its calls is the one that was handed out
before_is : (t u : Tape) → t.calls ≡ [] → Extends t u → before_calls u ≡ t
before_is t u empty longer =
    ap (λ (told : Bool). tape_of told u.start []) longer.told
    ∙ ap (λ (start : Image). tape_of t.told start []) longer.start
    ∙ ap (λ (made : List Made). tape_of t.told t.start made) (sym empty) where
      tape_of : Bool → Image → List Made → Tape
      tape_of told start made = record { told = told; start = start; calls = made }

-- how many calls a pool has made that is under way
calls_of_way : {D : Type 0} (shape : D → Shape) (tape : D → Tape) (run : Run) (pool : Pool D) → IsUnderWay shape tape run pool → pool.kept.calls ≡ length (tape pool.disks).calls
calls_of_way shape tape run pool way =
    let first = way.from_first in
    let all = (way.running.2 way.told).calls in
    omega arith

-- the calls of the claim group are the first ones of the tape
claim_is_first : (shape : Shape) (t mid u : Tape) (claimed : ℕ) → t.calls ≡ [] → Extends t u → Extends mid u → claimed ≡ length mid.calls → WritesClaim shape t mid
    → WritesClaim shape (before_calls u) (front claimed u)
claim_is_first shape t mid u claimed empty all longer count writes =
    subst (λ (from : Tape). WritesClaim shape from (front claimed u)) (sym (before_is t u empty all))
    (subst (λ (to : Tape). WritesClaim shape t to)
    (sym (front_extends mid u claimed longer (le_of_eq count) ∙ ap (λ (calls : ℕ). front calls mid) count ∙ front_whole mid)) writes)

-- what is known of an import that was Ok
record WasImported {D : Type 0} (shape : D → Shape) (tape : D → Tape) (disks : D) (pool : Pool D) : Type 0 where
  empty : (tape disks).calls ≡ []
  same_shape : shape pool.disks ≡ shape disks
  same_told : (tape pool.disks).told ≡ (tape disks).told
  longer : IsTrue (tape disks).told → Extends (tape disks) (tape pool.disks)
  begins : IsNew pool.kept
  acks : AreAcks pool.kept
  opened : IsTrue (tape disks).told → AtRest (tape disks) → IsOpenedFrom (shape disks) (tape disks) (tape pool.disks) pool.root pool.kept
  writes : IsTrue (tape disks).told → AtRest (tape disks) → WritesClaim (shape disks) (tape disks) (tape pool.disks)

begun_of : {D : Type 0} (shape : D → Shape) (tape : D → Tape) (disks : D) (pool : Pool D) → WasImported shape tape disks pool → IsTrue (tape disks).told → HasBegun shape tape disks pool
begun_of shape tape disks pool was told = begin shape tape disks pool was.empty was.same_shape was.same_told was.begins was.opened told

-- where the tape is told, the files were those that stood there
played_told : {D : Type 0} (shape : D → Shape) (tape : D → Tape) (faults : D → ℕ) (disks : D) (pool new : Pool D) (name : List ℕ) (lines : List Line) (text : List ℕ) (good : Bool)
    → WasImported shape tape disks pool → Goes shape tape faults pool new → IsTrue (tape disks).told → (has : HasBegun shape tape disks pool)
    → IsUnderWay shape tape (run_from pool.root.limits has.state (length (tape disks).calls)) new → HasEnded name lines new.root.tree.group pool.kept.calls new.kept text good
    → IsPlayed (shape disks) (tape new.disks) name lines text good
played_told shape tape faults disks pool new name lines text good was goes told has way ended = at way.running where
  at : IsRunning (shape new.disks) (tape new.disks) (run_from pool.root.limits has.state (length (tape disks).calls)) new.root new.kept → IsPlayed (shape disks) (tape new.disks) name lines text good
  at (point, is, on) =
      let run : Run = run_from pool.root.limits has.state (length (tape disks).calls) in
      let same_shape : shape new.disks ≡ shape disks = goes.same_shape ∙ was.same_shape in
      let first : Extends (tape disks) (tape pool.disks) = was.longer told in
      let more : Extends (tape pool.disks) (tape new.disks) = goes.extends (subst (λ (told : Bool). IsTrue told) (sym was.same_told) told) in
      let all : Extends (tape disks) (tape new.disks) = extends_trans (tape disks) (tape pool.disks) (tape new.disks) first more in
      played_from (shape disks) (shape new.disks) (tape new.disks) name lines text good run new.root new.kept point pool.kept.calls ended is (goes.acks was.acks)
      (λ _. claim_is_first (shape disks) (tape disks) (tape pool.disks) (tape new.disks) pool.kept.calls was.empty all more (calls_of_way shape tape run pool has.way)
      (was.writes told (at_rest_first (tape disks) was.empty)))
      (λ _. calls_of_way shape tape run new way)
      (λ _. (
        has.state,
        subst (λ (image : Image). StandsFor (shape disks) image has.state) (reads_first (tape disks) was.empty ∙ sym all.start) has.stood,
        has.fresh,
        subst (λ (of : Shape). IsOnTape of (tape new.disks) has.state (execution_of run new.kept)) same_shape
            (way_on_tape shape tape pool.root.limits has.state (length (tape disks).calls) new way),
      ))

-- where it isn't, it is told of some pool
played_untold : {D : Type 0} (shape : D → Shape) (tape : D → Tape) (disks : D) (new : Pool D) (name : List ℕ) (lines : List Line) (text : List ℕ) (good : Bool) (claimed : ℕ)
    → (tape new.disks).told ≡ false → IsPool (shape new.disks) new.root new.kept → AreAcks new.kept → HasEnded name lines new.root.tree.group claimed new.kept text good
    → IsPlayed (shape disks) (tape new.disks) name lines text good
played_untold shape tape disks new name lines text good claimed untold (run, point, is) acks ended =
    played_from (shape disks) (shape new.disks) (tape new.disks) name lines text good run new.root new.kept point claimed ended is acks
    (λ told. absurd (false≢true (sym untold ∙ told))) (λ told. absurd (false≢true (sym untold ∙ told))) (λ told. absurd (false≢true (sym untold ∙ told)))

-- the text is that of an execution
run_is_played : {D : Type 0} (shape : D → Shape) (tape : D → Tape) (faults : D → ℕ) (disks : D) (pool : Pool D) (name : List ℕ) (lines : List Line) (given : D) (played : Played)
    → WasImported shape tape disks pool → RunsTo shape tape faults pool name lines given (Ok played)
    → IsPlayed (shape disks) (tape given) name lines played.text.items played.good
run_is_played {D} shape tape faults disks pool name lines given played was runs =
    subst (λ (d : D). IsPlayed (shape disks) (tape d) name lines played.text.items played.good) runs.given (by_told (tape disks).told refl) where
      by_told : (told : Bool) → (tape disks).told ≡ told → IsPlayed (shape disks) (tape runs.new.disks) name lines played.text.items played.good
      by_told true told =
          let has : HasBegun shape tape disks pool = begun_of shape tape disks pool was told in
          played_told shape tape faults disks pool runs.new name lines played.text.items played.good was runs.goes told has
          (runs.goes.under_way (run_from pool.root.limits has.state (length (tape disks).calls)) has.way) runs.ended
      by_told false untold =
          played_untold shape tape disks runs.new name lines played.text.items played.good pool.kept.calls (runs.goes.same_told ∙ was.same_told ∙ untold) runs.is_pool
          (runs.goes.acks was.acks) runs.ended

-- a run that was cut short is an execution too
run_was_cut_short : {D : Type 0} (shape : D → Shape) (tape : D → Tape) (faults : D → ℕ) (disks : D) (pool : Pool D) (name : List ℕ) (lines : List Line) (given : D) (result : Result Played SessionFault)
    → WasImported shape tape disks pool → RunsTo shape tape faults pool name lines given result → WasCutShort (shape disks) (tape given) lines
run_was_cut_short {D} shape tape faults disks pool name lines given result was runs =
    subst (λ (d : D). WasCutShort (shape disks) (tape d) lines) runs.given (record { writes = λ told. inr (over told); came = at }) where
      over : IsTrue (tape runs.new.disks).told → (s : State) × StandsFor (shape disks) (tape runs.new.disks).start s
      over told =
          let before : IsTrue (tape disks).told = subst (λ (told : Bool). IsTrue told) (runs.goes.same_told ∙ was.same_told) told in
          let middle : IsTrue (tape pool.disks).told = subst (λ (told : Bool). IsTrue told) runs.goes.same_told told in
          let has : HasBegun shape tape disks pool = begun_of shape tape disks pool was before in
          let start : (tape runs.new.disks).start ≡ reads (tape disks) = (runs.goes.extends middle).start ∙ (was.longer before).start ∙ sym (reads_first (tape disks) was.empty) in
          (has.state, subst (λ (image : Image). StandsFor (shape disks) image has.state) (sym start) has.stood)

      at : IsTrue (tape runs.new.disks).told → (s : State) → StandsFor (shape disks) (tape runs.new.disks).start s → IsCutShort (shape disks) (tape runs.new.disks) s lines
      at told s stands =
          let before : IsTrue (tape disks).told = subst (λ (told : Bool). IsTrue told) (runs.goes.same_told ∙ was.same_told) told in
          let middle : IsTrue (tape pool.disks).told = subst (λ (told : Bool). IsTrue told) runs.goes.same_told told in
          let has : HasBegun shape tape disks pool = begun_of shape tape disks pool was before in
          let start : (tape runs.new.disks).start ≡ reads (tape disks) = (runs.goes.extends middle).start ∙ (was.longer before).start ∙ sym (reads_first (tape disks) was.empty) in
          let one : has.state ≡ s =
          one_state (shape disks) (reads (tape disks)) has.state s has.stood (subst (λ (image : Image). StandsFor (shape disks) image s) start stands) in
          subst (λ (of : State). IsCutShort (shape disks) (tape runs.new.disks) of lines) one
          (subst (λ (of : Shape). IsCutShort of (tape runs.new.disks) has.state lines) (runs.goes.same_shape ∙ was.same_shape)
          (way_cut_short shape tape pool.root.limits has.state (length (tape disks).calls) runs.new lines
          (runs.goes.under_way (run_from pool.root.limits has.state (length (tape disks).calls)) has.way) (runs.goes.acks was.acks) runs.asked))

run_came_by : {D : Type 0} (shape : D → Shape) (tape : D → Tape) (faults : D → ℕ) (disks : D) (pool : Pool D) (name : List ℕ) (lines : List Line) (given : D) (result : Result Played SessionFault)
    → WasImported shape tape disks pool → RunsTo shape tape faults pool name lines given result → CameTo (shape disks) (tape given) name lines result
run_came_by shape tape faults disks pool name lines given (Ok played) was runs = run_is_played shape tape faults disks pool name lines given played was runs
run_came_by shape tape faults disks pool name lines given (Err fault) was runs =
    subst (λ (of : SessionFault). CameTo (shape disks) (tape given) name lines (Err of)) (sym runs.memory)
    (run_was_cut_short shape tape faults disks pool name lines given (Err fault) was runs)

-- what a run came to, whose pool was taken up
pub run_came : {D : Type 0} (shape : D → Shape) (tape : D → Tape) (faults : D → ℕ) (disks : D) (pool : Pool D) (name : List ℕ) (lines : List Line) (given : D) (result : Result Played SessionFault)
    → (tape disks).calls ≡ [] → shape pool.disks ≡ shape disks → (tape pool.disks).told ≡ (tape disks).told → (IsTrue (tape disks).told → Extends (tape disks) (tape pool.disks))
    → IsNew pool.kept → AreAcks pool.kept
    → (IsTrue (tape disks).told → AtRest (tape disks) → IsOpenedFrom (shape disks) (tape disks) (tape pool.disks) pool.root pool.kept)
    → (IsTrue (tape disks).told → AtRest (tape disks) → WritesClaim (shape disks) (tape disks) (tape pool.disks))
    → RunsTo shape tape faults pool name lines given result → CameTo (shape disks) (tape given) name lines result
run_came shape tape faults disks pool name lines given result empty same_shape same_told longer begins acks opened writes runs =
    run_came_by shape tape faults disks pool name lines given result
    (record { empty = empty; same_shape = same_shape; same_told = same_told; longer = longer; begins = begins; acks = acks; opened = opened; writes = writes }) runs

-- a last commit that wasn't done has its cause
no_good : (failed : Option ℕ) (reply : Reply) (good : Bool) → failed ≡ None → EndsBy failed reply → good ≡ is_done reply → good ≡ false → ⊥
no_good None reply good none done is not_good = false≢true (sym not_good ∙ is ∙ ap is_done done)
no_good (Some call) reply good none eio is not_good = absurd cc

pub run_failed : {D : Type 0} (shape : D → Shape) (tape : D → Tape) (faults : D → ℕ) (disks : D) (pool : Pool D) (name : List ℕ) (lines : List Line) (given : D) (result : Result Played SessionFault)
    → faults disks ≤ faults pool.disks → IsNew pool.kept → RunsTo shape tape faults pool name lines given result
    → IfOk result (λ played. played.good ≡ false → Rose (faults disks) (faults given))
run_failed {D} shape tape faults disks pool name lines given (Err fault) later begins runs = tt
run_failed {D} shape tape faults disks pool name lines given (Ok played) later begins runs = λ not_good. at not_good (runs.goes.cause begins.failed) where
  at : played.good ≡ false → (runs.new.kept.failed ≡ None) ⊎ Rose (faults pool.disks) (faults runs.new.disks) → Rose (faults disks) (faults given)
  at not_good (inl none) = absurd (no_good runs.new.kept.failed runs.ended.end.reply played.good none runs.ended.end.ends runs.ended.end.good_is not_good)
  at not_good (inr rose) =
      subst (λ (d : D). Rose (faults disks) (faults d)) runs.given
      (rose_within (faults disks) (faults pool.disks) (faults runs.new.disks) (faults runs.new.disks) later rose (le_refl (faults runs.new.disks)))

-- ---- the faults

-- memory alone may be wanting after an import
pub run_only : (result : Result Played SessionFault) → IfErr result (λ fault. fault ≡ NoMemory) → IfErr result IsNoAnswer
run_only (Ok played) memory = tt
run_only (Err fault) memory = subst IsNoAnswer (sym memory) tt

pub run_no_failure : (result : Result Played SessionFault) → IfErr result (λ fault. fault ≡ NoMemory) → IsErrOf result Failed → ⊥
run_no_failure (Ok played) memory is = cc
run_no_failure (Err fault) memory is = cc

-- a fault of an import, as it is told
pub only_told : (fault : ImportFault) → imported.IsNoAnswer fault → IsNoAnswer (fault_of fault)
only_told import.NoMemory is = tt
only_told import.NoPool is = absurd is
only_told import.DiskFault is = tt
only_told (import.Damaged damage) is = absurd is

pub failure_told : (fault : ImportFault) → fault_of fault ≡ Failed → fault ≡ import.DiskFault
failure_told import.NoMemory is = absurd cc
failure_told import.NoPool is = absurd cc
failure_told import.DiskFault is = refl
failure_told (import.Damaged damage) is = absurd cc

-- a tape with no call is whole
pub whole_first : (t : Tape) → IsTrue t.told → t.calls ≡ [] → IsWhole t
whole_first t told empty = let rest : AtRest t = at_rest_first t empty in record { told = told; unspoilt = rest.whole }

-- a damage is the one that is read after the root
damage_read : (shape : Shape) (image : Image) (damage : Damage) → imported.IsDamageOf shape image (import.Damaged damage) → (body : Body) × IsRoot image body × (read_state shape image body ≡ Err damage)
damage_read shape image damage is = (is.0, is.1.0, is.1.1)

-- what a run came to, whose pool wasn't taken up
pub fault_came : (shape : Shape) (t u : Tape) (name : List ℕ) (lines : List Line) (fault : ImportFault) → t.calls ≡ [] → u.told ≡ t.told → (IsTrue t.told → Extends t u)
    → ((s : State) (limits : Limits) → IsTrue t.told → AtRest t → StandsFor shape (reads t) s → Survives May shape u (length t.calls) limits (found_in limits s) [] [])
    → (opened.IsBeforeClaim fault → u ≡ t) → (fault ≡ import.NoPool → IsWhole t → AreLimits shape.devices shape.places → HasNoRoot (reads t))
    → (IsWhole t → imported.IsDamageOf shape (reads t) fault) → (IsDamage fault → AreLimits shape.devices shape.places)
    → (IsTrue t.told → AtRest t → WritesClaim shape t u) → (fault ≡ import.DiskFault → IsTrue t.told → StopsAtFailure t u)
    → CameTo shape u name lines (Err (fault_of fault))
fault_came shape t u name lines import.NoMemory empty same longer survives kept none damaged sized writes stops =
    unasked_stopped shape u lines
    (λ told.
    let before : IsTrue t.told = subst (λ (told : Bool). IsTrue told) same told in
    claim_over_pool shape u (subst (λ (from : Tape). WritesClaim shape from u) (sym (before_is t u empty (longer before))) (writes before (at_rest_first t empty))))
    (unopened_was_unasked shape t u empty same longer survives)
fault_came shape t u name lines import.NoPool empty same longer survives kept none damaged sized writes stops =
    let as_it_was : u ≡ t = kept tt in (
      ap (λ (v : Tape). v.calls) as_it_was ∙ empty,
      λ told limits.
          subst HasNoRoot (reads_first t empty ∙ sym (ap (λ (v : Tape). v.start) as_it_was))
          (none refl (whole_first t (subst (λ (told : Bool). IsTrue told) same told) empty) limits),
    )
fault_came shape t u name lines import.DiskFault empty same longer survives kept none damaged sized writes stops = (
  record {
    writes = λ told.
        let before : IsTrue t.told = subst (λ (told : Bool). IsTrue told) same told in
        subst (λ (from : Tape). WritesClaim shape from u) (sym (before_is t u empty (longer before))) (writes before (at_rest_first t empty));
    stops = λ told.
        let before : IsTrue t.told = subst (λ (told : Bool). IsTrue told) same told in
        subst (λ (from : Tape). StopsAtFailure from u) (sym (before_is t u empty (longer before))) (stops refl before);
  },
  unopened_was_unasked shape t u empty same longer survives,
)
fault_came shape t u name lines (import.Damaged damage) empty same longer survives kept none damaged sized writes stops =
    let as_it_was : u ≡ t = kept tt in (
      ap (λ (v : Tape). v.calls) as_it_was ∙ empty,
      record {
        size = sized tt;
        read = λ told.
            damage_read shape u.start damage
            (subst (λ (image : Image). imported.IsDamageOf shape image (import.Damaged damage)) (reads_first t empty ∙ sym (ap (λ (v : Tape). v.start) as_it_was))
            (damaged (whole_first t (subst (λ (told : Bool). IsTrue told) same told) empty)));
      },
    )
