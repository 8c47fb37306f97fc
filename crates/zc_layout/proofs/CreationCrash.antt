-- The law of a creation: there is no root until the write of its open gate is begun, from then on none or the first one, and once
-- its last sync was Ok the first one alone.
use Rattle.std.proofs.Common.{◌≡◌, ℕ, ◌+◌, ◌<◌, ◌≤◌, ◌⊎◌, Bool, true, false, IsTrue, ◌↔◌, List, [], ◌∷◌, ◌++◌, length, refl, sym, ap, ◌∙◌, subst, inl, inr, ⊎_elim, arith, append_assoc, length-append}
use Rattle.std.proofs.lemmas.Bool.{cases_lt}
use Rattle.zc_tape.specs.Tape.{Image, Call, Sync, Tape}
use Rattle.zc_tape.specs.Crash.{reads, Crash, May, EachCrash, AtRest}
use Rattle.zc_tape.specs.Plays.{Plays, Begun}
use Rattle.zc_tape.specs.After.{after}
use Rattle.zc_tape.proofs.Places.{same_image}
use Rattle.zc_tape.proofs.CrashKinds.{IsKind}
use Rattle.zc_tape.proofs.EachCrash.{each_crash_before, each_crash_join}
use Rattle.zc_tape.proofs.Plans.{plays_whole, extends_begun, length_played}
use Rattle.zc_tape.proofs.PlayWrites.{IsStopped, IsReached, stopped_within_more, play_writes, play_writes_on, reads_after_writes, fronts_from_all}
use Rattle.zc_tape.proofs.ReadsAfter.{reads_after_played, spoilt_after_played, rest_after_played}
use Rattle.zc_tape.proofs.GroupLaw.{GroupMoments, group_each}
use Rattle.zc_root.specs.Root.{IsOpenGate}
use Rattle.zc_layout.specs.Layout.{Put, owns}
use Rattle.zc_layout.specs.Standing.{Standing, Stands, HasNoRoot, Begins, group_calls}
use Rattle.zc_layout.specs.Creation.{clearing_calls, zeroing_calls, creation_calls}
use Rattle.zc_layout.specs.Outcomes.{before_gate, before_first_gate, HasZeroLogs, CreationLeaves, CreationIsMade}
use Rattle.zc_layout.proofs.StandingLaws.{HasNoOpenGate, no_root_without_gate}
use Rattle.zc_layout.proofs.GroupCrash.{each_crash_as_read}
use Rattle.zc_layout.proofs.CreationImages.{clearing_writes, clearing_is_writes, after_clearing, while_clearing, cleared, zeroing_writes, zeroing_is_writes, while_zeroing, zeroed_gates, zeroed_logs}
use Rattle.zc_layout.proofs.FirstGroup.{first_group_moments, first_group_is_made}

-- the gates are closed: stopped within, or the rest is next
play_clearing : (crash : Crash) (t u : Tape) (first_open second_open : Bool) (rest : List Call)
    → IsKind crash → AtRest t → HasNoRoot (reads t)
    → ((left : Image) → May (reads t) (clearing_writes first_open second_open) left → HasNoRoot left)
    → Begun t (clearing_calls first_open second_open ++ rest) u
    → IsStopped crash t u (clearing_calls first_open second_open) HasNoRoot
    ⊎ ((v : Tape) × IsReached crash t u v (clearing_calls first_open second_open) rest (after (reads t) (clearing_writes first_open second_open)) HasNoRoot)
play_clearing crash t u false false rest kind rests none while begun = inr (
  t,
  record {
    played = (refl, refl);
    each = each_crash_as_read crash t HasNoRoot kind rests (λ image same. subst HasNoRoot (sym (same_image image (reads t) same)) none);
    at_rest = rests;
    reads_as = refl;
    rest_begun = begun;
  },
)
play_clearing crash t u false true rest kind rests none while begun =
    play_writes crash t u (clearing_writes false true) rest HasNoRoot kind rests (clearing_is_writes false true) begun (fronts_from_all crash (reads t) (clearing_writes false true) HasNoRoot kind while)
play_clearing crash t u true false rest kind rests none while begun =
    play_writes crash t u (clearing_writes true false) rest HasNoRoot kind rests (clearing_is_writes true false) begun (fronts_from_all crash (reads t) (clearing_writes true false) HasNoRoot kind while)
play_clearing crash t u true true rest kind rests none while begun =
    play_writes crash t u (clearing_writes true true) rest HasNoRoot kind rests (clearing_is_writes true true) begun (fronts_from_all crash (reads t) (clearing_writes true true) HasNoRoot kind while)

module _ (crash : Crash) (t u : Tape) (first_open second_open : Bool) (logs : ℕ) (new : Standing) (puts : List Put)
    (kind : IsKind crash) (rests : AtRest t) (none : HasNoRoot (reads t))
    (first : IsTrue first_open ↔ IsOpenGate (reads t) 0) (second : IsTrue second_open ↔ IsOpenGate (reads t) 1)
    (begins : Begins new puts) (beside_logs : (place : ℕ) → place < 4 + logs → owns puts 0 place ≡ false) where
  -- the image once the gates are closed, and once bodies and logs are zeroed
  cleared_image : Image
  cleared_image = after (reads t) (clearing_writes first_open second_open)

  zeroed_image : Image
  zeroed_image = after cleared_image (zeroing_writes logs)

  cleared_gates : HasNoOpenGate cleared_image
  unfolding cleared_image
  cleared_gates = cleared (reads t) first_open second_open first second

  -- the calls before the group's
  front : List Call
  front = clearing_calls first_open second_open ++ (zeroing_writes logs ++ Sync ∷ [])

  -- the gates are closed, and bodies and logs are zeroed: stopped within, or the group is next
  play_front : Begun t (creation_calls first_open second_open logs puts new.body) u
      → IsStopped crash t u front HasNoRoot ⊎ ((w : Tape) × IsReached crash t u w front (group_calls puts new.body false) zeroed_image HasNoRoot)
  unfolding cleared_image zeroed_image front
  play_front begun =
      let in_parts : Begun t (clearing_calls first_open second_open ++ (zeroing_writes logs ++ (Sync ∷ group_calls puts new.body false))) u =
      subst (λ plan. Begun t (clearing_calls first_open second_open ++ plan) u) (append_assoc (zeroing_writes logs) (Sync ∷ []) (group_calls puts new.body false)) begun
      in ⊎_elim
      (λ stopped. inl (stopped_within_more crash t u (clearing_calls first_open second_open) (zeroing_writes logs ++ Sync ∷ []) HasNoRoot stopped))
      (λ made. play_writes_on crash t u made.0 (clearing_calls first_open second_open) (zeroing_writes logs) (group_calls puts new.body false) cleared_image HasNoRoot kind (zeroing_is_writes logs) made.1
      (fronts_from_all crash cleared_image (zeroing_writes logs) HasNoRoot kind (λ left may. no_root_without_gate left (while_zeroing cleared_image logs cleared_gates left may))))
      (play_clearing crash t u first_open second_open (zeroing_writes logs ++ (Sync ∷ group_calls puts new.body false)) kind rests none
      (while_clearing (reads t) first_open second_open first second none) in_parts)

  -- what the group begins on
  gates_before_group : (w : Tape) → reads w ≡ zeroed_image → HasNoOpenGate (reads w)
  unfolding zeroed_image
  gates_before_group w e = subst HasNoOpenGate (sym e) (zeroed_gates cleared_image logs cleared_gates)

  logs_before_group : (w : Tape) → reads w ≡ zeroed_image → HasZeroLogs logs (reads w)
  unfolding zeroed_image
  logs_before_group w e = subst (HasZeroLogs logs) (sym e) (zeroed_logs cleared_image logs)

  -- the number of the gate's moment, from the group's first call
  gate_from : (w : Tape) → Plays t front w true → length w.calls + before_gate puts new.body false ≡ length t.calls + before_first_gate first_open second_open logs puts new.body
  unfolding front
  gate_from w played =
      let here : length w.calls ≡ length t.calls + length (clearing_calls first_open second_open ++ zeroing_calls logs) = length_played t w front played in
      let parts : length (clearing_calls first_open second_open ++ zeroing_calls logs) ≡ length (clearing_calls first_open second_open) + length (zeroing_calls logs) = length-append (clearing_calls first_open second_open) (zeroing_calls logs)
      in omega arith

  -- the group is begun
  moments_of_group : (w : Tape) → IsReached crash t u w front (group_calls puts new.body false) zeroed_image HasNoRoot
      → CreationLeaves crash t u logs new (length t.calls + before_first_gate first_open second_open logs puts new.body)
  moments_of_group w reached = subst (CreationLeaves crash t u logs new) (gate_from w reached.played) (record { before = early; each = both }) where
    moments : GroupMoments crash w u (length w.calls + before_gate puts new.body false) HasNoRoot (λ image. HasNoRoot image ⊎ (Stands image new × HasZeroLogs logs image))
    moments = first_group_moments crash w u logs new puts kind reached.at_rest (gates_before_group w reached.reads_as) (logs_before_group w reached.reads_as) begins beside_logs reached.rest_begun

    early : EachCrash crash u (length t.calls) (λ i image. (i < length w.calls + before_gate puts new.body false) ⊎ (length u.calls ≤ length w.calls + before_gate puts new.body false) → HasNoRoot image)
    early i image from upto left unopened = at (cases_lt i (length w.calls)) where
      at : (i < length w.calls) ⊎ (length w.calls ≤ i) → HasNoRoot image
      at (inl lt) = each_crash_before crash w u (length t.calls) (λ _ image. HasNoRoot image) (extends_begun w u (group_calls puts new.body false) reached.rest_begun) reached.each i image from lt left
      at (inr le) = moments.before i image le upto left unopened

    both : EachCrash crash u (length t.calls) (λ _ image. HasNoRoot image ⊎ (Stands image new × HasZeroLogs logs image))
    both = each_crash_join crash w u (length t.calls) (λ _ image. HasNoRoot image) (λ _ image. HasNoRoot image ⊎ (Stands image new × HasZeroLogs logs image)) (λ _ image. HasNoRoot image ⊎ (Stands image new × HasZeroLogs logs image))
        (extends_begun w u (group_calls puts new.body false) reached.rest_begun) reached.each
        (group_each crash w u (length w.calls + before_gate puts new.body false) HasNoRoot (λ image. HasNoRoot image ⊎ (Stands image new × HasZeroLogs logs image)) moments (λ image none_there. inl none_there))
        (λ i image _ _ none_there. inl none_there) (λ i image _ _ here. here)

  -- at each moment since the calls began
  pub creation_moments : Begun t (creation_calls first_open second_open logs puts new.body) u
      → CreationLeaves crash t u logs new (length t.calls + before_first_gate first_open second_open logs puts new.body)
  creation_moments begun =
      ⊎_elim
      (λ stopped. record {
        before = λ i image from upto left _. stopped.each i image from upto left;
        each = λ i image from upto left. inl (stopped.each i image from upto left);
      })
      (λ reached. moments_of_group reached.0 reached.1)
      (play_front begun)

  -- once all calls were Ok the first root alone stands
  pub creation_is_made : Plays t (creation_calls first_open second_open logs puts new.body) u true → CreationIsMade crash u logs new
  unfolding cleared_image zeroed_image
  creation_is_made played =
      let first_part : (v : Tape) × (Plays t (clearing_calls first_open second_open) v true) × (Plays v (zeroing_calls logs ++ group_calls puts new.body false) u true) =
      plays_whole t u (clearing_calls first_open second_open) (zeroing_calls logs ++ group_calls puts new.body false) played in
      let v : Tape = first_part.0 in
      let second_part : (w : Tape) × (Plays v (zeroing_calls logs) w true) × (Plays w (group_calls puts new.body false) u true) =
      plays_whole v u (zeroing_calls logs) (group_calls puts new.body false) first_part.2 in
      let w : Tape = second_part.0 in
      let reads_v : reads v ≡ cleared_image = reads_after_played t v (clearing_calls first_open second_open) first_part.1 ∙ after_clearing (reads t) first_open second_open in
      let reads_w : reads w ≡ zeroed_image = reads_after_writes v w (zeroing_writes logs) second_part.1 ∙ ap (λ image. after image (zeroing_writes logs)) reads_v in
      let rests_w : AtRest w = rest_after_played v w (zeroing_writes logs)
      (λ d p. ap (λ (spoilt : ℕ → ℕ → Bool). spoilt d p) (spoilt_after_played t v (clearing_calls first_open second_open) first_part.1) ∙ rests.whole d p) second_part.1
      in first_group_is_made crash w u logs new puts kind rests_w (gates_before_group w reads_w) (logs_before_group w reads_w) begins beside_logs second_part.2
