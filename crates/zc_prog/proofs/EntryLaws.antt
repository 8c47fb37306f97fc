-- What entries ask, and the entries and texts of lines: one line more, and a run that is cut short.
use Rattle.std.proofs.Common.{◌≡◌, ◌∙◌, ℕ, ◌+◌, Bool, true, false, List, [], ◌∷◌, ◌++◌, length, refl, sym, ap, ap₂, subst, append-nil, append_assoc, arith}
use Rattle.std.specs.Prelude.{codes}
use Rattle.std.specs.List.{AllByRecursion}
use Rattle.std.proofs.lemmas.List.{length-append}
use Rattle.std.proofs.lemmas.List.Elements.{recursion_from_All}
use Rattle.zc_command.specs.declared.command.Command.{Command}
use Rattle.zc_command.specs.declared.command.Command.TheVariants.{Commit}
use Rattle.zc_command.specs.declared.reply.Reply.{Reply}
use Rattle.zc_command.specs.Texts.{reply_text}
use Rattle.zc_script.specs.declared.act.Act.{Act}
use Rattle.zc_script.specs.declared.act.Act.TheVariants.{Pool, NoSuchPool}
use Rattle.zc_script.specs.declared.act.Line.{Line}
use Rattle.zc_script.specs.Spelling.{IsActOf}
use Rattle.zc_plain.specs.declared.entry.Entry.{Entry}
use Rattle.zc_plain.specs.declared.entry.Entry.TheVariants.{Ask, Answer, Seal, Finish}
use Rattle.zc_plain.specs.History.{is_waiting}
use Rattle.zc_open.specs.declared.ack.Ack.{Ack}
use Rattle.zc_open.specs.declared.open_pool.OpenPool.{OpenPool}
use Rattle.zc_prog.specs.Played.{Asking, Mark, mark_after, with_asking, askings_before, run_of, askings_in, IsFinish, AddsAnswer, AddsCommand, AddsAct, AddsLines, last_session, no_pool_text}
use Rattle.zc_prog.specs.Midway.{asking, mark_of, first_mark, AddsWhole, AddsLine, AsksSome, MeetsAct}
use Rattle.zc_prog.specs.Session.{AreActs, IsFront}

-- the end of a line
abbrev line_end : List ℕ
line_end = codes "\n"

-- ---- what entries ask

pub askings_append : (xs ys : List Entry) → askings_in (xs ++ ys) ≡ askings_in xs ++ askings_in ys
askings_append [] ys = refl
askings_append (Ask session command ∷ xs) ys = ap (λ (more : List Asking). asking session command ∷ more) (askings_append xs ys)
askings_append (Answer session reply ∷ xs) ys = askings_append xs ys
askings_append (Seal group ∷ xs) ys = askings_append xs ys
askings_append (Finish group held ∷ xs) ys = askings_append xs ys

-- a finish asks nothing
pub finish_asks_nothing : (group : ℕ) (finish : List Entry) → IsFinish group finish → askings_in finish ≡ []
finish_asks_nothing group [] is = refl
finish_asks_nothing group (entry ∷ entries) (held, is, none) =
    subst (λ (one : Entry). askings_in (one ∷ entries) ≡ []) (sym is) (subst (λ (others : List Entry). askings_in others ≡ []) (sym none) refl)

answer_asks : (waits : Bool) (session : ℕ) (command : Command) (reply : Reply) (from : Mark) (entries : List Entry) (acks : List Ack) (calls : ℕ)
    → AddsAnswer waits session command reply from entries acks calls → askings_in entries ≡ asking session command ∷ []
answer_asks false session command reply from entries acks calls (is, no_ack, no_call) = ap askings_in is
answer_asks true session command reply from entries acks calls (group, finish, is_finish, is, acks_are, later) =
    ap askings_in is
    ∙ ap (λ (more : List Asking). asking session command ∷ more)
    (askings_append finish (Answer session reply ∷ []) ∙ append-nil (askings_in finish) ∙ finish_asks_nothing group finish is_finish)

-- a command's entries ask it
pub command_asks : (session : ℕ) (command : Command) (reply : Reply) (from : Mark) (entries : List Entry) (acks : List Ack) (calls : ℕ)
    → AddsCommand session command reply from entries acks calls → askings_in entries ≡ asking session command ∷ []
command_asks session command reply from entries acks calls adds = answer_asks (is_waiting command) session command reply from entries acks calls adds

act_asks : (session : ℕ) (act : Act) (from : Mark) (entries : List Entry) (said : List ℕ) (acks : List Ack) (calls : ℕ) → AddsAct session act from entries said acks calls
    → askings_in entries ≡ with_asking session act []
act_asks session (Pool at command) from entries said acks calls (reply, adds, text) = command_asks session command reply from entries acks calls adds
act_asks session NoSuchPool from entries said acks calls (none, text, no_ack, no_call) = ap askings_in none

-- what an act asks, and what is asked after it
with_asking_parts : (session : ℕ) (act : Act) (askings : List Asking) → with_asking session act [] ++ askings ≡ with_asking session act askings
with_asking_parts session (Pool at command) askings = refl
with_asking_parts session NoSuchPool askings = refl

with_asking_append : (session : ℕ) (act : Act) (xs ys : List Asking) → with_asking session act (xs ++ ys) ≡ with_asking session act xs ++ ys
with_asking_append session (Pool at command) xs ys = refl
with_asking_append session NoSuchPool xs ys = refl

pub before_parts : (lines : List Line) (last : List Asking) → askings_before lines last ≡ askings_before lines [] ++ last
before_parts [] last = refl
before_parts (line ∷ lines) last =
    ap (with_asking line.session line.act) (before_parts lines last) ∙ with_asking_append line.session line.act (askings_before lines []) last

before_append : (xs ys : List Line) (last : List Asking) → askings_before (xs ++ ys) last ≡ askings_before xs (askings_before ys last)
before_append [] ys last = refl
before_append (line ∷ xs) ys last = ap (with_asking line.session line.act) (before_append xs ys last)

pub lines_ask : (lines : List Line) (from : Mark) (entries : List Entry) (text : List ℕ) (acks : List Ack) (calls : ℕ) → AddsLines lines from entries text acks calls
    → askings_in entries ≡ askings_before lines []
lines_ask [] from entries text acks calls (none, no_text, no_ack, no_call) = ap askings_in none
lines_ask (line ∷ lines) from entries text acks calls (first, rest, said, more, now, later, between, act, others, is, text_is, acks_are) =
    ap askings_in is
    ∙ askings_append first rest
    ∙ ap₂ (λ (xs ys : List Asking). xs ++ ys) (act_asks line.session line.act from first said now between act) (lines_ask lines (mark_after from first between) rest more later calls others)
    ∙ with_asking_parts line.session line.act (askings_before lines [])

-- ---- one line more

-- no line was played yet
pub no_lines : (kept : OpenPool) (out : List ℕ) → kept.history ≡ [] → out ≡ [] → kept.acks ≡ [] → AddsLines [] (first_mark kept.calls) kept.history out kept.acks kept.calls
no_lines kept out history text acks = (history, text, acks, refl)

-- a mark after two parts is the one after the second, from the one after the first
mark_of_parts : (from : Mark) (first rest entries : List Entry) (between calls : ℕ) → entries ≡ first ++ rest → mark_after from entries calls ≡ mark_after (mark_after from first between) rest calls
mark_of_parts from first rest entries between calls is =
    let count : length entries ≡ length first + length rest = ap length is ∙ length-append first rest in
    let sum : from.entries + length entries ≡ (from.entries + length first) + length rest = omega (arith, count) in
    ap (λ (n : ℕ). mark_at n calls) sum where
      mark_at : ℕ → ℕ → Mark
      mark_at n calls = record { entries = n; calls = calls }

pub lines_and_one : (lines : List Line) (line : Line) (from : Mark) (entries more : List Entry) (text said : List ℕ) (acks now : List Ack) (between calls : ℕ)
    → AddsLines lines from entries text acks between → AddsAct line.session line.act (mark_after from entries between) more said now calls
    → AddsLines (lines ++ line ∷ []) from (entries ++ more) (text ++ (said ++ line_end)) (acks ++ now) calls
lines_and_one [] line from entries more text said acks now between calls (none, no_text, no_ack, no_call) act =
    let none_added : mark_after from entries between ≡ from = same_mark from entries between none no_call in (
      more,
      [],
      said,
      [],
      now,
      [],
      calls,
      subst (λ (at : Mark). AddsAct line.session line.act at more said now calls) none_added act,
      (refl, refl, refl, refl),
      ap (λ (front : List Entry). front ++ more) none ∙ sym (append-nil more),
      ap (λ (front : List ℕ). front ++ (said ++ line_end)) no_text,
      ap (λ (front : List Ack). front ++ now) no_ack ∙ sym (append-nil now),
    ) where
      same_mark : (from : Mark) (entries : List Entry) (calls : ℕ) → entries ≡ [] → calls ≡ from.calls → mark_after from entries calls ≡ from
      same_mark from entries calls none same =
          let sum : from.entries + length entries ≡ from.entries = let count = ap length none in omega (arith, count) in
          ap₂ mark_at sum same where
            mark_at : ℕ → ℕ → Mark
            mark_at n calls = record { entries = n; calls = calls }
lines_and_one (first ∷ lines) line from entries more text said acks now until calls (ones, rest, word, words, its, later, between, does, others, is, text_is, acks_are) act = (
  ones,
  rest ++ more,
  word,
  words ++ (said ++ line_end),
  its,
  later ++ now,
  between,
  does,
  lines_and_one lines line (mark_after from ones between) rest more words said later now until calls others
      (subst (λ (at : Mark). AddsAct line.session line.act at more said now calls) (mark_of_parts from ones rest entries between until is) act),
  ap (λ (front : List Entry). front ++ more) is ∙ append_assoc ones rest more,
  ap (λ (front : List ℕ). front ++ (said ++ line_end)) text_is ∙ append_assoc word (line_end ++ words) (said ++ line_end),
  ap (λ (front : List Ack). front ++ now) acks_are ∙ append_assoc its later now,
)

-- where a pool stands is counted from where its run began
pub mark_from_first : (claimed : ℕ) (kept : OpenPool) → mark_of kept ≡ mark_after (first_mark claimed) kept.history kept.calls
mark_from_first claimed kept =
    let sum : length kept.history ≡ 0 + length kept.history = omega arith in
    ap (λ (n : ℕ). mark_at n kept.calls) sum where
      mark_at : ℕ → ℕ → Mark
      mark_at n calls = record { entries = n; calls = calls }

-- after the lines so far, with the entries, the text and the acknowledgements of one more
pub lines_and_line : (lines : List Line) (line : Line) (claimed : ℕ) (old new : OpenPool) (out text : List ℕ) → AddsLines lines (first_mark claimed) old.history out old.acks old.calls
    → AddsLine line old new out text → AddsLines (lines ++ line ∷ []) (first_mark claimed) new.history text new.acks new.calls
lines_and_line lines line claimed old new out text done adds =
    subst (λ (entries : List Entry). AddsLines (lines ++ line ∷ []) (first_mark claimed) entries text new.acks new.calls) (sym adds.history)
    (subst (λ (said : List ℕ). AddsLines (lines ++ line ∷ []) (first_mark claimed) (old.history ++ adds.entries) said new.acks new.calls) (sym adds.text_is)
    (subst (λ (acks : List Ack). AddsLines (lines ++ line ∷ []) (first_mark claimed) (old.history ++ adds.entries) (out ++ (adds.said ++ line_end)) acks new.calls) (sym adds.acks_are)
    (lines_and_one lines line (first_mark claimed) old.history adds.entries out adds.said old.acks adds.acks old.calls new.calls done
    (subst (λ (at : Mark). AddsAct line.session line.act at adds.entries adds.said adds.acks new.calls) (mark_from_first claimed old) adds.are))))

-- a line of a pool, and its reply
pub line_of_pool : (line : Line) (at : ℕ) (command : Command) (reply : Reply) (old new : OpenPool) (out text : List ℕ) → line.act ≡ Pool at command
    → AddsWhole old new line.session command reply → text ≡ out ++ (reply_text reply ++ line_end) → AddsLine line old new out text
line_of_pool line at command reply old new out text is adds text_is = record {
  entries = adds.entries;
  said = reply_text reply;
  acks = adds.acks;
  are = subst (λ (act : Act). AddsAct line.session act (mark_of old) adds.entries (reply_text reply) adds.acks new.calls) (sym is) (reply, adds.are, refl);
  history = adds.history;
  text_is = text_is;
  acks_are = adds.acks_are;
}

-- a line of no pool of the run
pub line_of_no_pool : (line : Line) (old : OpenPool) (out text : List ℕ) → line.act ≡ NoSuchPool → text ≡ out ++ (no_pool_text ++ line_end) → AddsLine line old old out text
line_of_no_pool line old out text is text_is = record {
  entries = [];
  said = no_pool_text;
  acks = [];
  are = subst (λ (act : Act). AddsAct line.session act (mark_of old) [] no_pool_text [] old.calls) (sym is) (refl, refl, refl, refl);
  history = sym (append-nil old.history);
  text_is = text_is;
  acks_are = sym (append-nil old.acks);
}

-- ---- what was asked of what was to be

-- nothing was
pub asks_nothing : (old new : List Entry) (askings : List Asking) → askings_in new ≡ askings_in old → AsksSome old new askings
asks_nothing old new askings same = record { asked = []; rest = askings; parts = refl; are = same ∙ sym (append-nil (askings_in old)) }

-- all was
pub asks_all : (old new entries : List Entry) (askings : List Asking) → new ≡ old ++ entries → askings_in entries ≡ askings → AsksSome old new askings
asks_all old new entries askings is same = record {
  asked = askings;
  rest = [];
  parts = append-nil askings;
  are = ap askings_in is ∙ askings_append old entries ∙ ap (λ (more : List Asking). askings_in old ++ more) same;
}

-- and nothing after it
pub asks_then_nothing : (old mid new : List Entry) (askings : List Asking) → AsksSome old mid askings → askings_in new ≡ askings_in mid → AsksSome old new askings
asks_then_nothing old mid new askings some same = record { asked = some.asked; rest = some.rest; parts = some.parts; are = same ∙ some.are }

-- nothing, where no pool is asked
pub asks_no_pool : (line : Line) (old : List Entry) → AsksSome old old (with_asking line.session line.act [])
asks_no_pool line old = asks_nothing old old (with_asking line.session line.act []) refl

pub asks_of_line : (line : Line) (at : ℕ) (command : Command) (old new : List Entry) → line.act ≡ Pool at command → AsksSome old new (asking line.session command ∷ [])
    → AsksSome old new (with_asking line.session line.act [])
asks_of_line line at command old new is some = subst (λ (act : Act). AsksSome old new (with_asking line.session act [])) (sym is) some

-- some first part of what is to be asked after these entries, and of what is to be asked after that
front_after : (before asked rest more : List Asking) → IsFront (before ++ asked) (before ++ ((asked ++ rest) ++ more))
front_after before asked rest more = (
  rest ++ more,
  append_assoc before asked (rest ++ more) ∙ ap (λ (behind : List Asking). before ++ behind) (sym (append_assoc asked rest more)),
)

front_from : (old new : List Entry) (askings before more : List Asking) → askings_in old ≡ before → AsksSome old new askings → IsFront (askings_in new) (before ++ (askings ++ more))
front_from old new askings before more is some =
    subst (λ (xs : List Asking). IsFront xs (before ++ (askings ++ more))) (sym (some.are ∙ ap (λ (xs : List Asking). xs ++ some.asked) is))
    (subst (λ (xs : List Asking). IsFront (before ++ some.asked) (before ++ (xs ++ more))) some.parts (front_after before some.asked some.rest more))

-- a run that was cut short in a line has asked some first part of what it was to ask
pub front_in_line : (lines : List Line) (line : Line) (others : List Line) (from : Mark) (old : OpenPool) (new : List Entry) (out : List ℕ) (last : List Asking)
    → AddsLines lines from old.history out old.acks old.calls → AsksSome old.history new (with_asking line.session line.act []) → IsFront (askings_in new) (askings_before (lines ++ line ∷ others) last)
front_in_line lines line others from old new out last done some =
    let more : List Asking = askings_before others last in
    let parts : askings_before (lines ++ line ∷ others) last ≡ askings_before lines [] ++ (with_asking line.session line.act [] ++ more) =
    before_append lines (line ∷ others) last
    ∙ before_parts lines (with_asking line.session line.act more)
    ∙ ap (λ (behind : List Asking). askings_before lines [] ++ behind) (sym (with_asking_parts line.session line.act more)) in
    subst (IsFront (askings_in new)) (sym parts)
    (front_from old.history new (with_asking line.session line.act []) (askings_before lines []) more (lines_ask lines from old.history out old.acks old.calls done) some)

-- so has one that came to its last commit
pub front_at_end : (lines : List Line) (from : Mark) (old : OpenPool) (new : List Entry) (out : List ℕ) → AddsLines lines from old.history out old.acks old.calls
    → AsksSome old.history new (asking last_session Commit ∷ []) → IsFront (askings_in new) (run_of lines)
front_at_end lines from old new out done some =
    subst (IsFront (askings_in new)) (sym (before_parts lines (asking last_session Commit ∷ [])))
    (front_from old.history new (asking last_session Commit ∷ []) (askings_before lines []) [] (lines_ask lines from old.history out old.acks old.calls done) some)

-- ---- the conditions of what is asked

act_meets : (pools : List (List ℕ)) (act : Act) → IsActOf pools act → MeetsAct act
act_meets pools (Pool at command) is = is.1.conditions
act_meets pools NoSuchPool is = tt

each_meets : (pools : List (List ℕ)) (lines : List Line) → AllByRecursion (λ (line : Line). IsActOf pools line.act) lines → AllByRecursion (λ (line : Line). MeetsAct line.act) lines
each_meets pools [] are = tt
each_meets pools (line ∷ lines) are = (act_meets pools line.act are.0, each_meets pools lines are.1)

-- the lines of a script ask commands that meet their conditions
pub acts_meet : (lines : List Line) → AreActs lines → AllByRecursion (λ (line : Line). MeetsAct line.act) lines
acts_meet lines acts = each_meets acts.0 lines (recursion_from_All (λ (line : Line). IsActOf acts.0 line.act) lines acts.1)
