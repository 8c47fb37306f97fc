-- The acknowledgements are those of the history, whatever a call adds to it.
use Rattle.std.proofs.Common.{◌≡◌, ℕ, ◌+◌, ◌==◌, Bool, true, false, cond, not, ◌||◌, List, [], ◌∷◌, ◌++◌, length, map, fold, Option, Some, None, refl, sym, ap, subst, ◌∙◌, arith, append-nil}
use Rattle.std.specs.List.{list_any}
use Rattle.std.proofs.lemmas.List.{length-append, map-append}
use Rattle.std.proofs.lemmas.List.Sums.{fold-append}
use Rattle.std.proofs.lemmas.Option.{none-some, same_Some}
use Rattle.std.proofs.lemmas.Bool.{false≢true, eq-eqb, eqb-true, false_from_ne_true}
use Rattle.zc_command.specs.declared.command.Command.{Command}
use Rattle.zc_command.specs.declared.command.Command.TheVariants.{Commit}
use Rattle.zc_command.specs.declared.reply.Reply.{Reply}
use Rattle.zc_command.specs.declared.reply.Reply.TheVariants.{Done, No}
use Rattle.zc_command.specs.declared.refusal.Refusal.TheVariants.{Eio}
use Rattle.zc_plain.specs.declared.entry.Entry.{Entry}
use Rattle.zc_plain.specs.declared.entry.Entry.TheVariants.{Ask, Answer, Seal, Finish}
use Rattle.zc_plain.specs.History.{is_waiting}
use Rattle.zc_heart.specs.declared.changes.GroupDone.{GroupDone}
use Rattle.zc_heart.specs.declared.pool_core.Core.{Core}
use Rattle.zc_heart.specs.Core.{AreApart}
use Rattle.zc_open.specs.declared.ack.Ack.{Ack}
use Rattle.zc_open.specs.declared.ack.Waiting.{Waiting}
use Rattle.zc_open.specs.declared.open_pool.OpenPool.{OpenPool}
use Rattle.zc_open.specs.Events.{begun_pool, waiting_of, without_waiting, IsAsBefore, Asks, AsksCommit, ack_of, ended, EndsWait, Finishes, failed_after}
use Rattle.zc_open.specs.Acked.{AskAt, Acked, is_ok, asks_of, asks_without, acked_entry, acked_after, wait_at, ack_at, AreAcks}

-- ---- the history

-- after more entries
abbrev acked_with_more : Acked → List Entry → Acked
acked_with_more acked more = fold acked_entry acked more

-- a history in two parts
acked_append : (front back : List Entry) (acked : Acked) → acked_after front ≡ acked → acked_after (front ++ back) ≡ acked_with_more acked back
acked_append front back acked is = fold-append acked_entry (record { entries = 0; waits = []; done = [] }) front back ∙ ap (λ (behind : Acked). acked_with_more behind back) is

-- so many entries, these waits, and these that were answered Done
abbrev stands_so : ℕ → List AskAt → List AskAt → Acked
stands_so entries waits done = record { entries = entries; waits = waits; done = done }

-- ---- who waits

-- a session that doesn't wait has no ask among those that do
no_asks : (session : ℕ) (waits : List Waiting) → waiting_of session waits ≡ None → (asks_without session (map wait_at waits) ≡ map wait_at waits) × (asks_of session (map wait_at waits) ≡ [])
no_asks session [] none = (refl, refl)
no_asks session (waiting ∷ waits) none = by_test (waiting.session == session) none (no_asks session waits) where
  by_test : (found : Bool) → cond found (Some waiting) (waiting_of session waits) ≡ None
      → (waiting_of session waits ≡ None → (asks_without session (map wait_at waits) ≡ map wait_at waits) × (asks_of session (map wait_at waits) ≡ []))
      → (cond (not found) (wait_at waiting ∷ asks_without session (map wait_at waits)) (asks_without session (map wait_at waits)) ≡ wait_at waiting ∷ map wait_at waits)
      × (cond found (wait_at waiting ∷ asks_of session (map wait_at waits)) (asks_of session (map wait_at waits)) ≡ [])
  by_test true is rest = absurd (none-some waiting (sym is))
  by_test false is rest = (ap (λ (others : List AskAt). wait_at waiting ∷ others) (rest is).0, (rest is).1)

abbrev session_of : Waiting → ℕ
session_of waiting = waiting.session

-- of two tests that both fail, the second one fails, and another that fails where it does
second_fails : (one two : Bool) → (one || two) ≡ false → two ≡ false
second_fails true two is = absurd (false≢true (sym is))
second_fails false two is = is

fails_with : (one two other : Bool) → (one || two) ≡ false → (two ≡ false → other ≡ false) → (one || other) ≡ false
fails_with true two other is then = absurd (false≢true (sym is))
fails_with false two other is then = then is

-- whether the session is among those that wait
abbrev is_among : ℕ → List Waiting → Bool
is_among session waits = list_any (λ other. other == session) (map session_of waits)

-- a session that isn't among those that wait waits for nothing
none_waits : (session : ℕ) (waits : List Waiting) → is_among session waits ≡ false → waiting_of session waits ≡ None
none_waits session [] none = refl
none_waits session (waiting ∷ waits) none = by_test (waiting.session == session) none (none_waits session waits) where
  by_test : (found : Bool) → (found || is_among session waits) ≡ false → (is_among session waits ≡ false → waiting_of session waits ≡ None)
      → cond found (Some waiting) (waiting_of session waits) ≡ None
  by_test true is rest = absurd (false≢true (sym is))
  by_test false is rest = rest is

-- the other way round
not_among : (session : ℕ) (waits : List Waiting) → waiting_of session waits ≡ None → is_among session waits ≡ false
not_among session [] none = refl
not_among session (waiting ∷ waits) none = by_test (waiting.session == session) none (not_among session waits) where
  by_test : (found : Bool) → cond found (Some waiting) (waiting_of session waits) ≡ None → (waiting_of session waits ≡ None → is_among session waits ≡ false)
      → (found || is_among session waits) ≡ false
  by_test true is rest = absurd (none-some waiting (sym is))
  by_test false is rest = rest is

-- what holds of the asks of a session that waits once
record WaitsOnce (session : ℕ) (waits : List Waiting) (waiting : Waiting) : Type 0 where
  its : waiting.session ≡ session
  asks : asks_of session (map wait_at waits) ≡ wait_at waiting ∷ []
  others : asks_without session (map wait_at waits) ≡ map wait_at (without_waiting session waits)

waits_once : (session : ℕ) (waits : List Waiting) (waiting : Waiting) → AreApart (map session_of waits) → waiting_of session waits ≡ Some waiting → WaitsOnce session waits waiting
waits_once session [] waiting apart found = absurd (none-some waiting found)
waits_once session (first ∷ waits) waiting apart found = by_test (first.session == session) refl found (waits_once session waits waiting apart.1) where
  by_test : (test : Bool) → (first.session == session) ≡ test → cond test (Some first) (waiting_of session waits) ≡ Some waiting
      → (waiting_of session waits ≡ Some waiting → WaitsOnce session waits waiting) → WaitsOnce session (first ∷ waits) waiting
  by_test true is found rest =
      let its : first.session ≡ session = eqb-true first.session session is in
      let same : first ≡ waiting = same_Some first waiting found in
      let none : waiting_of session waits ≡ None = none_waits session waits (subst (λ (s : ℕ). list_any (λ other. other == s) (map session_of waits) ≡ false) its apart.0) in
      let left = no_asks session waits none in
      record {
        its = subst (λ (w : Waiting). w.session ≡ session) same its;
        asks = rw is (ap (λ (others : List AskAt). wait_at first ∷ others) left.1 ∙ ap (λ (w : Waiting). wait_at w ∷ []) same);
        others = rw is (left.0 ∙ ap (map wait_at) (sym (others_stay session waits none)));
      }
    where
      others_stay : (session : ℕ) (waits : List Waiting) → waiting_of session waits ≡ None → without_waiting session waits ≡ waits
      others_stay session [] none = refl
      others_stay session (waiting ∷ waits) none = by_next (waiting.session == session) none (others_stay session waits) where
        by_next : (test : Bool) → cond test (Some waiting) (waiting_of session waits) ≡ None → (waiting_of session waits ≡ None → without_waiting session waits ≡ waits)
            → cond (not test) (waiting ∷ without_waiting session waits) (without_waiting session waits) ≡ waiting ∷ waits
        by_next true is rest = absurd (none-some waiting (sym is))
        by_next false is rest = ap (λ (others : List Waiting). waiting ∷ others) (rest is)
  by_test false is found rest =
      let once = rest found in
      record {
        its = once.its;
        asks = rw is once.asks;
        others = rw is (ap (λ (others : List AskAt). wait_at first ∷ others) once.others);
      }

-- who isn't among those that wait isn't among fewer of them
fewer_among : (one session : ℕ) (waits : List Waiting) → is_among one waits ≡ false → is_among one (without_waiting session waits) ≡ false
fewer_among one session [] none = refl
fewer_among one session (waiting ∷ waits) none = by_test (waiting.session == session) (fewer_among one session waits) where
  by_test : (test : Bool) → (is_among one waits ≡ false → is_among one (without_waiting session waits) ≡ false)
      → is_among one (cond (not test) (waiting ∷ without_waiting session waits) (without_waiting session waits)) ≡ false
  by_test true rest = rest (second_fails (waiting.session == one) (is_among one waits) none)
  by_test false rest = fails_with (waiting.session == one) (is_among one waits) (is_among one (without_waiting session waits)) none rest

-- no session waits twice among fewer
apart_fewer : (session : ℕ) (waits : List Waiting) → AreApart (map session_of waits) → AreApart (map session_of (without_waiting session waits))
apart_fewer session [] apart = tt
apart_fewer session (waiting ∷ waits) apart = by_test (waiting.session == session) (apart_fewer session waits apart.1) (fewer_among waiting.session session waits apart.0) where
  by_test : (test : Bool) → AreApart (map session_of (without_waiting session waits)) → is_among waiting.session (without_waiting session waits) ≡ false
      → AreApart (map session_of (cond (not test) (waiting ∷ without_waiting session waits) (without_waiting session waits)))
  by_test true rest none = rest
  by_test false rest none = (none, rest)

-- nor is anybody else among those that wait with one more
not_after : (one : ℕ) (waits : List Waiting) (waiting : Waiting) → (waiting.session == one) ≡ false → is_among one waits ≡ false → is_among one (waits ++ waiting ∷ []) ≡ false
not_after one [] waiting differ none = ap (λ (test : Bool). test || false) differ
not_after one (next ∷ waits) waiting differ none =
    fails_with (next.session == one) (is_among one waits) (is_among one (waits ++ waiting ∷ [])) none (not_after one waits waiting differ)

other_way : (a b : ℕ) → (a == b) ≡ false → (b == a) ≡ false
other_way a b differ = false_from_ne_true (b == a) (λ same. false≢true (sym differ ∙ eq-eqb a b (sym (eqb-true b a same))))

-- one more, of a session that isn't among them
apart_more : (waits : List Waiting) (waiting : Waiting) → AreApart (map session_of waits) → is_among waiting.session waits ≡ false → AreApart (map session_of (waits ++ waiting ∷ []))
apart_more [] waiting apart none = (refl, tt)
apart_more (first ∷ waits) waiting apart none = by_test (first.session == waiting.session) refl none (apart_more waits waiting apart.1) where
  by_test : (test : Bool) → (first.session == waiting.session) ≡ test → (test || is_among waiting.session waits) ≡ false
      → (is_among waiting.session waits ≡ false → AreApart (map session_of (waits ++ waiting ∷ []))) → AreApart (map session_of (first ∷ waits ++ waiting ∷ []))
  by_test true is none rest = absurd (false≢true (sym none))
  by_test false is none rest = (not_after first.session waits waiting (other_way first.session waiting.session is) apart.0, rest none)

-- ---- what a call adds

pub acks_begun : (heart : Core) (group calls : ℕ) → AreAcks (begun_pool heart group calls)
acks_begun heart group calls = record { acked = refl; apart = tt }

pub acks_before : (old new : OpenPool) → AreAcks old → IsAsBefore old new → AreAcks new
acks_before old new acks (stays, rest) = subst AreAcks (sym rest) (record { acked = acks.acked; apart = acks.apart })

pub acks_fails : (old : OpenPool) (made : ℕ) → AreAcks old → AreAcks (failed_after old made)
acks_fails old made acks = record { acked = acks.acked; apart = acks.apart }

-- a command was asked and answered: nobody waits for it
asked_now : (session : ℕ) (command : Command) (reply : Reply) (entries : ℕ) (waits : List Waiting) (done : List AskAt) → is_waiting command ≡ false → waiting_of session waits ≡ None
    → acked_with_more (stands_so entries (map wait_at waits) done) (Ask session command ∷ Answer session reply ∷ []) ≡ stands_so (entries + 1 + 1) (map wait_at waits) done
asked_now session command reply entries waits done at_once none = rw (at_once, (no_asks session waits none).0, (no_asks session waits none).1) (by_reply (is_ok reply)) where
  by_reply : (ok : Bool) → stands_so (entries + 1 + 1) (map wait_at waits) (cond ok (done ++ []) done) ≡ stands_so (entries + 1 + 1) (map wait_at waits) done
  by_reply true = ap (stands_so (entries + 1 + 1) (map wait_at waits)) (append-nil done)
  by_reply false = refl

-- one entry more, and two
counted_one : (history : List Entry) (entry : Entry) → length history + 1 ≡ length (history ++ entry ∷ [])
counted_one history entry = sym (length-append history (entry ∷ []))

counted_two : (history : List Entry) (one two : Entry) → length history + 1 + 1 ≡ length (history ++ one ∷ two ∷ [])
counted_two history one two = let count : length (history ++ one ∷ two ∷ []) ≡ length history + 2 = length-append history (one ∷ two ∷ []) in omega arith

pub acks_asks : (old new : OpenPool) (session : ℕ) (command : Command) (reply : Reply) → waiting_of session old.waits ≡ None → AreAcks old → Asks old new session command reply → AreAcks new
acks_asks old new session command reply none acks asks = subst AreAcks (sym asks.rest) (record {
  acked = acked_append old.history (Ask session command ∷ Answer session reply ∷ []) _ acks.acked
      ∙ asked_now session command reply (length old.history) old.waits (map ack_at old.acks) asks.at_once none
      ∙ ap (λ (n : ℕ). stands_so n (map wait_at old.waits) (map ack_at old.acks)) (counted_two old.history (Ask session command) (Answer session reply));
  apart = acks.apart;
})

pub acks_commit : (old new : OpenPool) (session : ℕ) → waiting_of session old.waits ≡ None → AreAcks old → AsksCommit old new session → AreAcks new
acks_commit old new session none acks asks = subst AreAcks (sym asks.rest) (record {
  acked = acked_append old.history (Ask session Commit ∷ Seal old.heart.group ∷ []) _ acks.acked
      ∙ ap (λ (n : ℕ). stands_so n (map wait_at old.waits ++ record { session = session; ask = length old.history + 1; dataset = None } ∷ []) (map ack_at old.acks)) (counted_two old.history (Ask session Commit) (Seal old.heart.group))
      ∙ ap (λ (waits : List AskAt). stands_so (length (old.history ++ Ask session Commit ∷ Seal old.heart.group ∷ [])) waits (map ack_at old.acks)) (sym (map-append wait_at old.waits (record { session = session; ask = length old.history + 1; group = old.heart.group } ∷ [])));
  apart = apart_more old.waits (record { session = session; ask = length old.history + 1; group = old.heart.group }) acks.apart (not_among session old.waits none);
})

pub acks_finishes : (old new : OpenPool) (made : ℕ) (done : GroupDone) → AreAcks old → Finishes old new made done → AreAcks new
acks_finishes old new made done acks finishes = subst AreAcks (sym finishes.rest) (record {
  acked = acked_append old.history (Finish finishes.job.group finishes.job.held ∷ []) _ acks.acked
      ∙ ap (λ (n : ℕ). stands_so n (map wait_at old.waits) (map ack_at old.acks)) (counted_one old.history (Finish finishes.job.group finishes.job.held));
  apart = acks.apart;
})

-- the session's own wait is found under its session
own_wait : (session : ℕ) (waits : List Waiting) (waiting : Waiting) → AreApart (map session_of waits) → waiting_of session waits ≡ Some waiting → WaitsOnce waiting.session waits waiting
own_wait session waits waiting apart found =
    let its : waiting.session ≡ session = (waits_once session waits waiting apart found).its in
    waits_once waiting.session waits waiting apart (subst (λ (s : ℕ). waiting_of s waits ≡ Some waiting) (sym its) found)

-- a wait has ended in the number of a call that failed
acks_refused : (old : OpenPool) (session call : ℕ) (waiting : Waiting) → AreAcks old → waiting_of session old.waits ≡ Some waiting → AreAcks (ended old waiting (No (Eio call)) [])
acks_refused old session call waiting acks found =
    let once : WaitsOnce waiting.session old.waits waiting = own_wait session old.waits waiting acks.apart found in
    let left : List AskAt = map wait_at (without_waiting waiting.session old.waits) in
    let entry : Entry = Answer waiting.session (No (Eio call)) in
    record {
      acked = acked_append old.history (entry ∷ []) (stands_so (length old.history) (map wait_at old.waits) (map ack_at old.acks)) acks.acked
          ∙ ap (λ (waits : List AskAt). stands_so (length old.history + 1) waits (map ack_at old.acks)) once.others
          ∙ ap (λ (n : ℕ). stands_so n left (map ack_at old.acks)) (counted_one old.history entry)
          ∙ ap (λ (of : List Ack). stands_so (length (old.history ++ entry ∷ [])) left (map ack_at of)) (sym (append-nil old.acks));
      apart = apart_fewer waiting.session old.waits acks.apart;
    }

-- or in Done, which is an acknowledgement
acks_done : (old : OpenPool) (session : ℕ) (waiting : Waiting) → AreAcks old → waiting_of session old.waits ≡ Some waiting → AreAcks (ended old waiting Done (ack_of old waiting ∷ []))
acks_done old session waiting acks found =
    let once : WaitsOnce waiting.session old.waits waiting = own_wait session old.waits waiting acks.apart found in
    let left : List AskAt = map wait_at (without_waiting waiting.session old.waits) in
    let entry : Entry = Answer waiting.session Done in
    record {
      acked = acked_append old.history (entry ∷ []) (stands_so (length old.history) (map wait_at old.waits) (map ack_at old.acks)) acks.acked
          ∙ ap (λ (waits : List AskAt). stands_so (length old.history + 1) waits (map ack_at old.acks ++ asks_of waiting.session (map wait_at old.waits))) once.others
          ∙ ap (λ (asks : List AskAt). stands_so (length old.history + 1) left (map ack_at old.acks ++ asks)) once.asks
          ∙ ap (λ (n : ℕ). stands_so n left (map ack_at old.acks ++ wait_at waiting ∷ [])) (counted_one old.history entry)
          ∙ ap (λ (done : List AskAt). stands_so (length (old.history ++ entry ∷ [])) left done) (sym (map-append ack_at old.acks (ack_of old waiting ∷ [])));
      apart = apart_fewer waiting.session old.waits acks.apart;
    }

pub acks_ends : (old new : OpenPool) (session : ℕ) (waiting : Waiting) (reply : Reply) (failed : Option ℕ) → AreAcks old → waiting_of session old.waits ≡ Some waiting → EndsWait old new waiting reply failed → AreAcks new
acks_ends old new session waiting reply (Some call) acks found (eio, rest) =
    subst AreAcks (sym rest) (subst (λ (told : Reply). AreAcks (ended old waiting told [])) (sym eio) (acks_refused old session call waiting acks found))
acks_ends old new session waiting reply None acks found (done, finished, rest) = subst AreAcks (sym rest) (acks_done old session waiting acks found)
