-- Whatever a run on a disk set came to, it was some first part of what the lines ask.
use Rattle.std.proofs.Common.{◌≡◌, ◌⊎◌, IsTrue, inl, inr, ⊎_elim, ◌∙◌, ℕ, zero, suc, ◌≤◌, Bool, true, false, List, [], ◌∷◌, ◌++◌, length, Result, Ok, Err, refl, sym, ap, subst, arith, append-nil, append_assoc, None, ◌+◌, ◌-◌}
use Rattle.zc_num.specs.declared.limits.Limits.{Limits}
use Rattle.zc_tape.specs.Tape.{Image, Shape, Tape}
use Rattle.zc_tape.specs.Crash.{May, reads, synced_at, unsynced_at}
use Rattle.zc_tape.proofs.HeldLaws.{reads_first}
use Rattle.zc_command.specs.declared.command.Command.{Command}
use Rattle.zc_command.specs.declared.command.Command.TheVariants.{Commit}
use Rattle.zc_command.specs.declared.reply.Reply.{Reply}
use Rattle.zc_script.specs.declared.act.Act.{Act}
use Rattle.zc_script.specs.declared.act.Act.TheVariants.{Pool, NoSuchPool}
use Rattle.zc_script.specs.declared.act.Line.{Line}
use Rattle.zc_state.specs.State.{State, StandsFor}
use Rattle.zc_state.proofs.StateLaws.{one_state}
use Rattle.zc_plain.specs.declared.entry.Entry.{Entry}
use Rattle.zc_plain.specs.declared.entry.Entry.TheVariants.{Ask, Answer, Seal, Finish}
use Rattle.zc_plain.specs.History.{is_waiting}
use Rattle.zc_next.specs.Next.{later_tree}
use Rattle.zc_group.specs.Committed.{IsGroupBegun}
use Rattle.zc_group.specs.Imported.{WritesClaim}
use Rattle.zc_lane.specs.Found.{found_in}
use Rattle.zc_open.specs.declared.ack.Ack.{Ack}
use Rattle.zc_pool.specs.Running.{first_failed_from, IsSurvivor}
use Rattle.zc_prog.specs.declared.fault.SessionFault.{SessionFault}
use Rattle.zc_prog.specs.declared.fault.SessionFault.TheVariants.{NoMemory, NoPool, Failed, Damaged}
use Rattle.zc_prog.specs.declared.session.Played.{Played}
use Rattle.zc_prog.specs.Played.{Asking, with_asking, askings_before, run_of, askings_in, Mark, mark_after, IsFinish, AddsAnswer, AddsAct, AddsLines, last_session}
use Rattle.zc_prog.specs.Execution.{Execution, IsOnTape}
use Rattle.zc_prog.specs.Session.{IsOfLines, IsPlayed, IsCutShort, WritesOverPool, WasCutShort, WasUnasked, HasNoPool, CameTo, before_calls}

-- ---- what the entries of the lines ask

abbrev asking : ℕ → Command → Asking
asking session command = record { session = session; command = command }

both_ask : (xs ys : List Entry) → askings_in (xs ++ ys) ≡ askings_in xs ++ askings_in ys
both_ask [] ys = refl
both_ask (Ask session command ∷ xs) ys = ap (λ (more : List Asking). asking session command ∷ more) (both_ask xs ys)
both_ask (Answer session reply ∷ xs) ys = both_ask xs ys
both_ask (Seal group ∷ xs) ys = both_ask xs ys
both_ask (Finish group held ∷ xs) ys = both_ask xs ys

-- a finish asks nothing, so the reply after it is asked for before
finish_then_reply : (group session : ℕ) (reply : Reply) (finish : List Entry) → IsFinish group finish → askings_in (finish ++ Answer session reply ∷ []) ≡ []
finish_then_reply group session reply [] is = refl
finish_then_reply group session reply (entry ∷ entries) (held, is, none) =
    ap (λ (finish : List Entry). askings_in (finish ++ Answer session reply ∷ [])) (λ i. is i ∷ none i)

answer_asks : (waits : Bool) (session : ℕ) (command : Command) (reply : Reply) (from : Mark) (entries : List Entry) (acks : List Ack) (calls : ℕ) → AddsAnswer waits session command reply from entries acks calls
    → askings_in entries ≡ asking session command ∷ []
answer_asks false session command reply from entries acks calls adds = ap askings_in adds.0
answer_asks true session command reply from entries acks calls (group, finish, is_finish, entries_are, acks_are, later) =
    ap askings_in entries_are ∙ ap (λ (more : List Asking). asking session command ∷ more) (finish_then_reply group session reply finish is_finish)

-- an act's entries ask what it asks
act_asks : (session : ℕ) (act : Act) (from : Mark) (entries : List Entry) (said : List ℕ) (acks : List Ack) (calls : ℕ) (more : List Asking) → AddsAct session act from entries said acks calls
    → askings_in entries ++ more ≡ with_asking session act more
act_asks session (Pool at command) from entries said acks calls more (reply, adds, text) =
    ap (λ (front : List Asking). front ++ more) (answer_asks (is_waiting command) session command reply from entries acks calls adds)
act_asks session NoSuchPool from entries said acks calls more adds = ap (λ (of : List Entry). askings_in of ++ more) adds.0

-- and the entries of lines what they ask, in order
lines_ask : (lines : List Line) (from : Mark) (entries : List Entry) (said : List ℕ) (acks : List Ack) (calls : ℕ) (last : List Asking) → AddsLines lines from entries said acks calls
    → askings_in entries ++ last ≡ askings_before lines last
lines_ask [] from entries said acks calls last adds = ap (λ (of : List Entry). askings_in of ++ last) adds.0
lines_ask (line ∷ lines) from entries said acks calls last (first, rest, word, words, now, later, between, act, others, entries_are, said_is, acks_are) =
    ap (λ (of : List Entry). askings_in of ++ last) entries_are
    ∙ ap (λ (of : List Asking). of ++ last) (both_ask first rest)
    ∙ append_assoc (askings_in first) (askings_in rest) last
    ∙ act_asks line.session line.act from first word now between (askings_in rest ++ last) act
    ∙ ap (with_asking line.session line.act) (lines_ask lines (mark_after from first between) rest words later calls last others)

-- an execution of all lines and the last commit asks what the run asks
whole_asks : (run : Execution) (lines : List Line) (said : List ℕ) (reply : Reply) (claimed calls : ℕ) → IsOfLines run lines said reply claimed calls → askings_in run.history ≡ run_of lines
whole_asks run lines said reply claimed calls of =
    ap askings_in of.history_is
    ∙ both_ask of.entries of.last
    ∙ ap (λ (last : List Asking). askings_in of.entries ++ last) (answer_asks true last_session Commit reply _ of.last of.last_acks calls of.last_is)
    ∙ lines_ask lines (record { entries = 0; calls = claimed }) of.entries said of.acks of.between (asking last_session Commit ∷ []) of.lines_are

-- ---- each case

played_stopped : (shape : Shape) (u : Tape) (name : List ℕ) (lines : List Line) (text : List ℕ) (good : Bool) → IsPlayed shape u name lines text good → WasCutShort shape u lines
played_stopped shape u name lines text good played = record { writes = λ told. inr ((played.on_tape told).0, (played.on_tape told).1); came = came } where
  came : IsTrue u.told → (s : State) → StandsFor shape u.start s → IsCutShort shape u s lines
  came told s stands =
      let found : State = (played.on_tape told).0 in
      let same : found ≡ s = one_state shape u.start found s (played.on_tape told).1 stands in
      record {
        run = played.run;
        is_run = played.is_run;
        front_of = ([], append-nil (askings_in played.run.history) ∙ whole_asks played.run lines played.said played.reply played.claimed played.calls played.of_lines);
        on_tape = subst (λ (state : State). IsOnTape shape u state played.run) same (played.on_tape told).3;
      }

-- where nothing was asked, that is a first part of anything
pub unasked_stopped : (shape : Shape) (u : Tape) (lines : List Line) → (IsTrue u.told → WritesOverPool shape u) → WasUnasked shape u → WasCutShort shape u lines
unasked_stopped shape u lines writes unasked = record { writes = writes; came = came } where
  came : IsTrue u.told → (s : State) → StandsFor shape u.start s → IsCutShort shape u s lines
  came told s stands =
      let is = unasked told s stands in
      record { run = is.run; is_run = is.is_run; front_of = (run_of lines, ap (λ (of : List Entry). askings_in of ++ run_of lines) is.none); on_tape = is.on_tape }

-- the calls of a claim group are written over the pool whose group it is
pub claim_over_pool : (shape : Shape) (u : Tape) → WritesClaim shape (before_calls u) u → WritesOverPool shape u
claim_over_pool shape u writes = ⊎_elim
    (λ (none : u ≡ before_calls u). inl (ap (λ (v : Tape). v.calls) none))
    (λ (claim : (s : State) × StandsFor shape (reads (before_calls u)) s × IsGroupBegun shape (before_calls u) u s (later_tree s) []).
    inr (claim.0, subst (λ (image : Image). StandsFor shape image claim.0) (reads_first (before_calls u) refl) claim.1))
    writes

-- an image that a crash may leave before any call is what the disk set began with
pub left_first : (u : Tape) (image : Image) → u.calls ≡ [] → May (synced_at u 0) (unsynced_at u 0) image → image ≡ u.start
left_first u image none left = λ i d p. same d p i where
  same : (d p : ℕ) → image d p ≡ u.start d p
  same d p = left d p (rw none refl)

-- a disk set without a call was asked nothing
pub untouched_unasked : (shape : Shape) (u : Tape) → u.calls ≡ [] → WasUnasked shape u
untouched_unasked shape u none told s stands = record {
  run = record { start = found_in limits s; claim = s.body.group + 1; failed = None; history = []; acks = [] };
  is_run = record { legal = tt; nothing_due = refl; acks_are = refl };
  none = refl;
  on_tape = record {
    size = record { devices = refl; places = refl };
    start_is = refl;
    claim_is = refl;
    failed_is = sym (ap (first_failed_from 0) none);
    acknowledged = tt;
    survives = survives;
  };
} where
  limits : Limits
  limits = record { devices = shape.devices; places = shape.places; are_limits = stands.state.size }

  survives : (i : ℕ) (image : Image) → 0 ≤ i → i ≤ length u.calls → May (synced_at u i) (unsynced_at u i) image → IsSurvivor shape limits (found_in limits s) [] [] (i - 0) image
  survives zero image from within left = record {
    state = s;
    stands = subst (λ (of : Image). StandsFor shape of s) (sym (left_first u image none left)) stands;
    each_name = λ name. record { entries = 0; within = omega arith; files = refl; acknowledged = tt };
  }
  survives (suc i) image from within left = absurd (omega (arith, within, ap length none))

-- a sound disk set holds a pool
pool_stopped : (shape : Shape) (u : Tape) (lines : List Line) → u.calls ≡ [] → HasNoPool shape u → WasCutShort shape u lines
pool_stopped shape u lines empty none = record { writes = λ told. inl empty; came = λ told s stands. absurd (none told stands.state.size s.body stands.stands.root.here) }

-- whatever the run came to
pub came_stopped : (shape : Shape) (u : Tape) (name : List ℕ) (lines : List Line) (played : Result Played SessionFault) → CameTo shape u name lines played → WasCutShort shape u lines
came_stopped shape u name lines (Ok played) came = played_stopped shape u name lines played.text.items played.good came
came_stopped shape u name lines (Err NoMemory) came = came
came_stopped shape u name lines (Err NoPool) came = pool_stopped shape u lines came.0 came.1
came_stopped shape u name lines (Err (Damaged damage)) came = unasked_stopped shape u lines (λ told. inl came.0) (untouched_unasked shape u came.0)
came_stopped shape u name lines (Err Failed) came = unasked_stopped shape u lines (λ told. claim_over_pool shape u (came.0.writes told)) came.1
