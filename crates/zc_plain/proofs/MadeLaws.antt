-- The charge is what it is called: what the last finished group holds, and the blocks that were made after the latest seal of those finished, each once.
use Rattle.std.proofs.Common.{◌≡◌, ℕ, zero, suc, ◌+◌, ◌/◌, ◌≤◌, ◌==◌, ◌&&◌, ◌||◌, max, nat_le, Bool, true, false, cond, List, [], ◌∷◌, ◌++◌, map, length, fold, Option, Some, None, Result, Ok, Err, refl, sym, ap, ◌∙◌, ⊎_elim, arith}
use Rattle.std.specs.Prelude.{filter}
use Rattle.std.specs.List.{list_any, range_with_len}
use Rattle.std.proofs.lemmas.Bool.{true≢false, cases_Bool, eqb-true, eq-eqb, leb-true, leb-false, le-leb, lt-leb, and_parts}
use Rattle.std.proofs.lemmas.List.{length-append}
use Rattle.std.proofs.lemmas.List.Sums.{fold-append}
use Rattle.zc_num.specs.Words.{each, found_from}
use Rattle.zc_num.proofs.Found.{found_is_first}
use Rattle.zc_command.specs.declared.command.Command.{Command}
use Rattle.zc_command.specs.declared.command.Command.TheVariants.{Mkds, Rmds, Mount, Create, Remove, Write, Fill, Truncate, Read, Stat, Commit}
use Rattle.zc_command.specs.declared.refusal.Refusal.{Refusal}
use Rattle.zc_command.specs.declared.reply.Reply.{Reply}
use Rattle.zc_plain.specs.declared.entry.Entry.{Entry}
use Rattle.zc_plain.specs.declared.entry.Entry.TheVariants as entry
use Rattle.zc_plain.specs.declared.finding.Path.{Path}
use Rattle.zc_plain.specs.declared.plain_pool.PlainPool.{PlainPool}
use Rattle.zc_plain.specs.declared.tally.MadeBlock.{MadeBlock}
use Rattle.zc_plain.specs.declared.tally.Tally.{Tally}
use Rattle.zc_plain.specs.PlainPool.{file_at}
use Rattle.zc_plain.specs.Truncated.{is_trimmed}
use Rattle.zc_plain.specs.Charge.{is_block, with_one, with_each, block_made, blocks_made, with_blocks, with_seal, with_finish, seals_after, seals_up_to, is_after, held_by, charge_of}
use Rattle.zc_plain.specs.Answer.{path_of, blocks_touched, blocks_trimmed, blocks_on, blocks_of_command, counted, answer}
use Rattle.zc_plain.specs.IsPlain.{StandsAt}
use Rattle.zc_plain.proofs.NumberedLaws.{no_item, one_item, stood_or_new}
use Rattle.zc_plain.specs.History.{PlainState, next_number, step, begun, state_after, unless_refused, blocks_of_entry, blocks_after, seals_finished, held_finished, made_since}

-- items that are added in two parts
with_each_append : {X : Type 0} (same : X → X → Bool) (items more others : List X) → with_each same items (more ++ others) ≡ with_each same (with_each same items more) others
unfolding with_each
with_each_append same items more others = fold-append (with_one same) items more others

-- what passes of two lists
filter_append : {X : Type 0} (p : X → Bool) (xs ys : List X) → filter p (xs ++ ys) ≡ filter p xs ++ filter p ys
filter_append p [] ys = refl
filter_append p (x ∷ xs) ys =
    ⊎_elim
    (λ (passes : p x ≡ true). rw passes (ap (λ zs. x ∷ zs) (filter_append p xs ys)))
    (λ (fails : p x ≡ false). rw fails (filter_append p xs ys))
    (cases_Bool (p x))

-- where all pass, all stay
filter_all : {X : Type 0} (p : X → Bool) (xs : List X) → ((x : X) → p x ≡ true) → filter p xs ≡ xs
filter_all p [] all = refl
filter_all p (x ∷ xs) all = let passes = all x in rw passes (ap (λ zs. x ∷ zs) (filter_all p xs all))

filter_map_all : {X Y : Type 0} (p : Y → Bool) (f : X → Y) (xs : List X) → ((x : X) → p (f x) ≡ true) → filter p (map f xs) ≡ map f xs
filter_map_all p f [] all = refl
filter_map_all p f (x ∷ xs) all = let passes = all x in rw passes (ap (λ zs. f x ∷ zs) (filter_map_all p f xs all))

-- an item that passes is among those that pass where it is among all
among_passing : {X : Type 0} (same : X → X → Bool) (p : X → Bool) (x : X) (xs : List X) → ((y : X) → same x y ≡ true → p y ≡ p x) → p x ≡ true → list_any (same x) (filter p xs) ≡ list_any (same x) xs
among_passing same p x [] alike passes = refl
among_passing same p x (y ∷ xs) alike passes =
    ⊎_elim
    (λ (stays : p y ≡ true). rw stays (ap (λ (b : Bool). same x y || b) (among_passing same p x xs alike passes)))
    (λ (goes : p y ≡ false).
    ⊎_elim
    (λ (one : same x y ≡ true). absurd (true≢false (sym passes ∙ sym (alike y one) ∙ goes)))
    (λ (other : same x y ≡ false). rw (goes, other) (among_passing same p x xs alike passes))
    (cases_Bool (same x y)))
    (cases_Bool (p y))

-- no item more
nothing_more : {X : Type 0} (xs : List X) → xs ++ [] ≡ xs
nothing_more [] = refl
nothing_more (x ∷ xs) = ap (λ zs. x ∷ zs) (nothing_more xs)

-- what passes of items that are added each once
passing_with_each : {X : Type 0} (same : X → X → Bool) (p : X → Bool) → ((x y : X) → same x y ≡ true → p y ≡ p x) → (items more : List X) → filter p (with_each same items more) ≡ with_each same (filter p items) (filter p more)
unfolding with_each
passing_with_each same p alike items [] = refl
passing_with_each {X} same p alike items (x ∷ more) =
    passing_with_each same p alike (with_one same items x) more
    ∙ ⊎_elim
    (λ (passes : p x ≡ true). rw passes (ap (λ (zs : List X). with_each same zs (filter p more)) (added passes)))
    (λ (fails : p x ≡ false). rw fails (ap (λ (zs : List X). with_each same zs (filter p more)) (left_out fails)))
    (cases_Bool (p x))
  where
    added : p x ≡ true → filter p (with_one same items x) ≡ with_one same (filter p items) x
    added passes =
        ⊎_elim
        (λ (there : list_any (same x) items ≡ true). let still = among_passing same p x items (alike x) passes ∙ there in rw (there, still) refl)
        (λ (new : list_any (same x) items ≡ false). let still = among_passing same p x items (alike x) passes ∙ new in rw (new, still) (filter_append p items (x ∷ []) ∙ rw passes refl))
        (cases_Bool (list_any (same x) items))

    left_out : p x ≡ false → filter p (with_one same items x) ≡ filter p items
    left_out fails =
        ⊎_elim
        (λ (there : list_any (same x) items ≡ true). rw there refl)
        (λ (new : list_any (same x) items ≡ false). rw new (filter_append p items (x ∷ []) ∙ rw fails (nothing_more (filter p items))))
        (cases_Bool (list_any (same x) items))

-- one block has one number of seals
one_seals : (seals : ℕ) (a b : MadeBlock) → is_block a b ≡ true → is_after seals b ≡ is_after seals a
one_seals seals a b one =
    let first = (and_parts (a.seals == b.seals) ((a.dataset == b.dataset) && ((a.file == b.file) && (a.block == b.block))) one).0 in
    ap (λ (n : ℕ). nat_le seals n) (sym (eqb-true a.seals b.seals first))

-- after both of two numbers of seals
after_both : (a b : ℕ) (blocks : List MadeBlock) → filter (is_after a) (filter (is_after b) blocks) ≡ filter (is_after (max b a)) blocks
after_both a b [] = refl
after_both a b (x ∷ blocks) =
    ⊎_elim
    (λ (late : is_after b x ≡ true).
    let late_is = leb-true b x.seals late in
    ⊎_elim
    (λ (later : is_after a x ≡ true).
    let both : is_after (max b a) x ≡ true = le-leb (max b a) x.seals (omega (arith, late_is, leb-true a x.seals later)) in
    rw (late, later, both) (ap (λ xs. x ∷ xs) (after_both a b blocks)))
    (λ (early : is_after a x ≡ false).
    let both : is_after (max b a) x ≡ false = lt-leb (max b a) x.seals (omega (arith, leb-false a x.seals early)) in
    rw (late, early, both) (after_both a b blocks))
    (cases_Bool (is_after a x)))
    (λ (early : is_after b x ≡ false).
    let both : is_after (max b a) x ≡ false = lt-leb (max b a) x.seals (omega (arith, leb-false b x.seals early)) in
    rw (early, both) (after_both a b blocks))
    (cases_Bool (is_after b x))

-- all of the blocks were made after so many seals
abbrev AreAfter : ℕ → List MadeBlock → Type 0
AreAfter seals blocks = filter (is_after seals) blocks ≡ blocks

later_append : (seals : ℕ) (xs ys : List MadeBlock) → AreAfter seals xs → AreAfter seals ys → AreAfter seals (xs ++ ys)
later_append seals xs ys first second = filter_append (is_after seals) xs ys ∙ ap (λ (zs : List MadeBlock). zs ++ filter (is_after seals) ys) first ∙ ap (λ (zs : List MadeBlock). xs ++ zs) second

-- those of a file that are made now are after all seals
after_made : (seals : ℕ) (tally : Tally) (dataset file first count : ℕ) → seals ≤ length tally.sealed → AreAfter seals (blocks_made tally dataset file first count)
unfolding each
after_made seals tally dataset file first count few = filter_map_all (is_after seals) (λ k. block_made tally dataset file (first + k)) (range_with_len 0 count) (λ k. le-leb seals (length tally.sealed) few)

after_on : (seals : ℕ) (found : Result Path Refusal) (blocks : Path → List MadeBlock) → ((path : Path) → AreAfter seals (blocks path)) → AreAfter seals (blocks_on found blocks)
after_on seals (Ok path) blocks all = all path
after_on seals (Err refusal) blocks all = refl

after_chosen : (seals : ℕ) (test : Bool) (blocks : List MadeBlock) → AreAfter seals blocks → AreAfter seals (cond test blocks [])
after_chosen seals true blocks all = all
after_chosen seals false blocks all = refl

after_unless : (seals : ℕ) (test : Bool) (blocks : List MadeBlock) → AreAfter seals blocks → AreAfter seals (cond test [] blocks)
after_unless seals true blocks all = refl
after_unless seals false blocks all = all

-- and so are all that a command makes
after_command : (seals : ℕ) (tally : Tally) (pool : PlainPool) (command : Command) → seals ≤ length tally.sealed → AreAfter seals (blocks_of_command tally pool command)
unfolding blocks_of_command
after_command seals tally pool (Mkds dataset) few = refl
after_command seals tally pool (Rmds dataset) few = refl
after_command seals tally pool (Mount dataset) few = refl
after_command seals tally pool (Create dataset file) few = refl
after_command seals tally pool (Remove dataset file) few = refl
after_command seals tally pool (Write dataset file offset bytes) few =
    after_unless seals (length bytes == 0) (blocks_on (path_of dataset file pool) (λ path. blocks_touched tally offset (length bytes) path pool))
    (after_on seals (path_of dataset file pool) (λ path. blocks_touched tally offset (length bytes) path pool) (λ path. after_made seals tally _ _ _ _ few))
after_command seals tally pool (Fill dataset file offset len byte) few =
    after_unless seals (len == 0) (blocks_on (path_of dataset file pool) (λ path. blocks_touched tally offset len path pool))
    (after_on seals (path_of dataset file pool) (λ path. blocks_touched tally offset len path pool) (λ path. after_made seals tally _ _ _ _ few))
after_command seals tally pool (Truncate dataset file size) few =
    after_on seals (path_of dataset file pool) (λ path. blocks_trimmed tally size path pool) (λ path. after_chosen seals (is_trimmed (file_at path pool).size size (file_at path pool).blocks (size / 4096)) _ (after_made seals tally _ _ _ _ few))
after_command seals tally pool (Read dataset file offset len) few = refl
after_command seals tally pool (Stat dataset file) few = refl
after_command seals tally pool Commit few = refl

after_entry : (seals : ℕ) (state : PlainState) (one : Entry) → seals ≤ length state.tally.sealed → AreAfter seals (blocks_of_entry state one)
after_entry seals state (entry.Ask session command) few = either (answer (next_number state) state.tally state.pool command)
  where
    either : (given : Result (Reply × PlainPool) Refusal) → AreAfter seals (unless_refused (blocks_of_command state.tally state.pool command) given)
    either (Ok done) = after_command seals state.tally state.pool command few
    either (Err refusal) = refl
after_entry seals state (entry.Answer session reply) few = refl
after_entry seals state (entry.Seal group) few = refl
after_entry seals state (entry.Finish group held) few = refl

-- what is counted after a command
counted_is : (tally : Tally) (blocks : List MadeBlock) (given : Result (Reply × PlainPool) Refusal) → counted tally blocks given ≡ with_blocks (unless_refused blocks given) tally
unfolding with_each
counted_is tally blocks (Ok done) = refl
counted_is tally blocks (Err refusal) = refl

-- no entry takes a seal away
seals_grow : (state : PlainState) (one : Entry) → length state.tally.sealed ≤ length (step state one).tally.sealed
unfolding step with_finish
seals_grow state (entry.Ask session command) =
    let same = ap (λ (t : Tally). length t.sealed) (counted_is state.tally (blocks_of_command state.tally state.pool command) (answer (next_number state) state.tally state.pool command)) in
    omega (arith, same)
seals_grow state (entry.Answer session reply) = omega arith
seals_grow state (entry.Seal group) = omega (arith, length-append state.tally.sealed (group ∷ []))
seals_grow state (entry.Finish group held) = omega arith

-- so all that is made after a state is after the seals so far
after_history : (seals : ℕ) (state : PlainState) (history : List Entry) → seals ≤ length state.tally.sealed → AreAfter seals (blocks_after state history)
after_history seals state [] few = refl
after_history seals state (one ∷ history) few =
    later_append seals (blocks_of_entry state one) (blocks_after (step state one) history) (after_entry seals state one few)
    (after_history seals (step state one) history (omega (arith, seals_grow state one)))

-- a group has at most as many seals up to its own as there are
few_up_to : (group : ℕ) (sealed : List ℕ) → seals_up_to group sealed ≤ length sealed
unfolding seals_up_to
few_up_to group sealed = either (found_from (λ (one : ℕ). one == group) 0 sealed) refl
  where
    either : (found : Option ℕ) → found_from (λ (one : ℕ). one == group) 0 sealed ≡ found → seals_after found ≤ length sealed
    either None missing = omega arith
    either (Some place) found = let first = found_is_first (λ (one : ℕ). one == group) 0 sealed place found in omega (arith, first.within)

-- what is counted after more entries, from what is counted after the first of them
made_more : (seals : ℕ) (made blocks others : List MadeBlock) → with_each is_block (filter (is_after seals) (with_each is_block made blocks)) (filter (is_after seals) others) ≡ with_each is_block (filter (is_after seals) made) (filter (is_after seals) (blocks ++ others))
made_more seals made blocks others =
    ap (λ (zs : List MadeBlock). with_each is_block zs (filter (is_after seals) others)) (passing_with_each is_block (is_after seals) (one_seals seals) made blocks)
    ∙ sym (with_each_append is_block (filter (is_after seals) made) (filter (is_after seals) blocks) (filter (is_after seals) others))
    ∙ ap (with_each is_block (filter (is_after seals) made)) (sym (filter_append (is_after seals) blocks others))

-- what is counted after each entry
tally_after_ask : (state : PlainState) (session : ℕ) (command : Command) → (step state (entry.Ask session command)).tally ≡ with_blocks (blocks_of_entry state (entry.Ask session command)) state.tally
unfolding step
tally_after_ask state session command = counted_is state.tally (blocks_of_command state.tally state.pool command) (answer (next_number state) state.tally state.pool command)

tally_after_answer : (state : PlainState) (session : ℕ) (reply : Reply) → (step state (entry.Answer session reply)).tally ≡ state.tally
unfolding step
tally_after_answer state session reply = refl

tally_after_seal : (state : PlainState) (group : ℕ) → (step state (entry.Seal group)).tally ≡ with_seal group state.tally
unfolding step
tally_after_seal state group = refl

tally_after_finish : (state : PlainState) (group held : ℕ) → (step state (entry.Finish group held)).tally ≡ record { sealed = state.tally.sealed; held = held; made = filter (is_after (seals_up_to group state.tally.sealed)) state.tally.made }
unfolding step with_finish
tally_after_finish state group held = refl

-- what is made after a state
abbrev MadeAfter : PlainState → List Entry → Type 0
MadeAfter state history =
    (fold step state history).tally.made
    ≡ with_each is_block (filter (is_after (seals_finished state.tally.sealed history)) state.tally.made) (filter (is_after (seals_finished state.tally.sealed history)) (blocks_after state history))

made_after : (state : PlainState) (history : List Entry) → MadeAfter state history
unfolding with_each
made_after state [] = sym (filter_all (is_after 0) state.tally.made (λ block. le-leb 0 block.seals (omega arith)))
made_after state (entry.Ask session command ∷ history) =
    let after = step state (entry.Ask session command) in
    made_after after history
    ∙ ap (λ (t : Tally). with_each is_block (filter (is_after (seals_finished t.sealed history)) t.made) (filter (is_after (seals_finished t.sealed history)) (blocks_after after history))) (tally_after_ask state session command)
    ∙ made_more (seals_finished state.tally.sealed history) state.tally.made (blocks_of_entry state (entry.Ask session command)) (blocks_after after history)
made_after state (entry.Answer session reply ∷ history) =
    let after = step state (entry.Answer session reply) in
    made_after after history
    ∙ ap (λ (t : Tally). with_each is_block (filter (is_after (seals_finished t.sealed history)) t.made) (filter (is_after (seals_finished t.sealed history)) (blocks_after after history))) (tally_after_answer state session reply)
made_after state (entry.Seal group ∷ history) =
    let after = step state (entry.Seal group) in
    made_after after history
    ∙ ap (λ (t : Tally). with_each is_block (filter (is_after (seals_finished t.sealed history)) t.made) (filter (is_after (seals_finished t.sealed history)) (blocks_after after history))) (tally_after_seal state group)
made_after state (entry.Finish group held ∷ history) =
    let after = step state (entry.Finish group held) in
    let others = blocks_after after history in
    let up_to = seals_up_to group state.tally.sealed in
    let later = seals_finished state.tally.sealed history in
    let few : up_to ≤ length after.tally.sealed = omega (arith, few_up_to group state.tally.sealed, seals_grow state (entry.Finish group held)) in
    let all : AreAfter up_to others = after_history up_to after history few in
    made_after after history
    ∙ ap (λ (t : Tally). with_each is_block (filter (is_after (seals_finished t.sealed history)) t.made) (filter (is_after (seals_finished t.sealed history)) others)) (tally_after_finish state group held)
    ∙ ap (λ (zs : List MadeBlock). with_each is_block zs (filter (is_after later) others)) (after_both later up_to state.tally.made)
    ∙ ap (with_each is_block (filter (is_after (max up_to later)) state.tally.made)) (sym (ap (filter (is_after later)) all) ∙ after_both later up_to others)

-- how many blocks the last finished group holds
held_later : (state : PlainState) (history : List Entry) → (fold step state history).tally.held ≡ held_finished state.tally.held history
held_later state [] = refl
held_later state (entry.Ask session command ∷ history) =
    held_later (step state (entry.Ask session command)) history ∙ ap (λ (t : Tally). held_finished t.held history) (tally_after_ask state session command)
held_later state (entry.Answer session reply ∷ history) =
    held_later (step state (entry.Answer session reply)) history ∙ ap (λ (t : Tally). held_finished t.held history) (tally_after_answer state session reply)
held_later state (entry.Seal group ∷ history) = held_later (step state (entry.Seal group)) history ∙ ap (λ (t : Tally). held_finished t.held history) (tally_after_seal state group)
held_later state (entry.Finish group held ∷ history) = held_later (step state (entry.Finish group held)) history ∙ ap (λ (t : Tally). held_finished t.held history) (tally_after_finish state group held)

-- what is counted is what was made since
pub made_is : (start : PlainPool) (history : List Entry) → (state_after start history).tally.made ≡ made_since start history
made_is start history = made_after (begun start) history

-- and the charge is what it is called
pub charge_is : (start : PlainPool) (history : List Entry) → charge_of (state_after start history).tally ≡ held_finished (held_by start) history + length (made_since start history)
charge_is start history =
    let made = ap (λ (blocks : List MadeBlock). length blocks) (made_is start history) in
    omega (arith, held_later (begun start) history, made)

-- two blocks are one where they are tested so
block_of : ℕ → ℕ → ℕ → ℕ → MadeBlock
block_of seals dataset file block = record { seals = seals; dataset = dataset; file = file; block = block }

same_block : (a b : MadeBlock) → is_block a b ≡ true → a ≡ b
unfolding block_of
same_block a b one =
    let first = and_parts (a.seals == b.seals) ((a.dataset == b.dataset) && ((a.file == b.file) && (a.block == b.block))) one in
    let second = and_parts (a.dataset == b.dataset) ((a.file == b.file) && (a.block == b.block)) first.1 in
    let third = and_parts (a.file == b.file) (a.block == b.block) second.1 in
    ap (λ (n : ℕ). block_of n a.dataset a.file a.block) (eqb-true a.seals b.seals first.0)
    ∙ ap (λ (n : ℕ). block_of b.seals n a.file a.block) (eqb-true a.dataset b.dataset second.0)
    ∙ ap (λ (n : ℕ). block_of b.seals b.dataset n a.block) (eqb-true a.file b.file third.0)
    ∙ ap (λ (n : ℕ). block_of b.seals b.dataset b.file n) (eqb-true a.block b.block third.1)

itself : (a : MadeBlock) → is_block a a ≡ true
itself a = rw (eq-eqb a.seals a.seals refl, eq-eqb a.dataset a.dataset refl, eq-eqb a.file a.file refl, eq-eqb a.block a.block refl) refl

-- no item stands at two places
abbrev pub EachOnce : {X : Type 0} → List X → Type 0
EachOnce {X} xs = (a b : ℕ) (x : X) → StandsAt xs a x → StandsAt xs b x → a ≡ b

-- an item that stands in a list is one of it
stands_among : (xs : List MadeBlock) (a : ℕ) (x : MadeBlock) → StandsAt xs a x → list_any (is_block x) xs ≡ true
stands_among [] a x stands = no_item x stands
stands_among (y ∷ xs) zero x stands =
    let is : is_block x y ≡ true = ap (is_block x) (one_item y x stands) ∙ itself x in
    rw is refl
stands_among (y ∷ xs) (suc a) x stands =
    let rest = stands_among xs a x stands in
    rw rest (true_after (is_block x y))
  where
    true_after : (b : Bool) → (b || true) ≡ true
    true_after true = refl
    true_after false = refl

once_more : (items : List MadeBlock) (item : MadeBlock) → EachOnce items → EachOnce (with_one is_block items item)
once_more items item once =
    ⊎_elim
    (λ (there : list_any (is_block item) items ≡ true). rw there once)
    (λ (new : list_any (is_block item) items ≡ false). rw new (added new))
    (cases_Bool (list_any (is_block item) items))
  where
    none_before : list_any (is_block item) items ≡ false → (a : ℕ) (x : MadeBlock) → StandsAt items a x → x ≡ item → ⊥
    none_before new a x stands same =
        let among : list_any (is_block item) items ≡ true = ap (λ (y : MadeBlock). list_any (is_block y) items) (sym same) ∙ stands_among items a x stands in
        true≢false (sym among ∙ new)

    added : list_any (is_block item) items ≡ false → EachOnce (items ++ item ∷ [])
    added new a b x first second =
        ⊎_elim
        (λ (before : StandsAt items a x).
        ⊎_elim
        (λ (also : StandsAt items b x). once a b x before also)
        (λ (last : (b ≡ length items) × (x ≡ item)). absurd (none_before new a x before last.1))
        (stood_or_new items item b x second))
        (λ (last : (a ≡ length items) × (x ≡ item)).
        ⊎_elim
        (λ (before : StandsAt items b x). absurd (none_before new b x before last.1))
        (λ (also : (b ≡ length items) × (x ≡ item)). last.0 ∙ sym also.0)
        (stood_or_new items item b x second))
        (stood_or_new items item a x first)

once_each : (items more : List MadeBlock) → EachOnce items → EachOnce (with_each is_block items more)
unfolding with_each
once_each items [] once = once
once_each items (item ∷ more) once = once_each (with_one is_block items item) more (once_more items item once)

-- what is one of the items once more were added
or_false : (b : Bool) → (b || false) ≡ b
or_false true = refl
or_false false = refl

or_true : (b : Bool) → (b || true) ≡ true
or_true true = refl
or_true false = refl

or_assoc : (a b c : Bool) → ((a || b) || c) ≡ (a || (b || c))
or_assoc true b c = refl
or_assoc false b c = refl

among_append : (test : MadeBlock → Bool) (xs : List MadeBlock) (y : MadeBlock) → list_any test (xs ++ y ∷ []) ≡ (list_any test xs || test y)
among_append test [] y = or_false (test y)
among_append test (x ∷ xs) y = ap (λ (b : Bool). test x || b) (among_append test xs y) ∙ sym (or_assoc (test x) (list_any test xs) (test y))

among_one : (block item : MadeBlock) (items : List MadeBlock) → list_any (is_block block) (with_one is_block items item) ≡ (list_any (is_block block) items || is_block block item)
among_one block item items =
    ⊎_elim
    (λ (there : list_any (is_block item) items ≡ true).
    rw there
    (⊎_elim
    (λ (one : is_block block item ≡ true).
    let among : list_any (is_block block) items ≡ true = ap (λ (y : MadeBlock). list_any (is_block y) items) (same_block block item one) ∙ there in
    among ∙ sym (ap (λ (b : Bool). list_any (is_block block) items || b) one ∙ or_true (list_any (is_block block) items)))
    (λ (other : is_block block item ≡ false). sym (ap (λ (b : Bool). list_any (is_block block) items || b) other ∙ or_false (list_any (is_block block) items)))
    (cases_Bool (is_block block item))))
    (λ (new : list_any (is_block item) items ≡ false). rw new (among_append (is_block block) items item))
    (cases_Bool (list_any (is_block item) items))

among_each : (block : MadeBlock) (items more : List MadeBlock) → list_any (is_block block) (with_each is_block items more) ≡ (list_any (is_block block) items || list_any (is_block block) more)
unfolding with_each
among_each block items [] = sym (or_false (list_any (is_block block) items))
among_each block items (item ∷ more) =
    among_each block (with_one is_block items item) more
    ∙ ap (λ (b : Bool). b || list_any (is_block block) more) (among_one block item items)
    ∙ or_assoc (list_any (is_block block) items) (is_block block item) (list_any (is_block block) more)

-- so what is charged after the last finished group is each block that was made since, and none twice
pub made_once : (start : PlainPool) (history : List Entry) → EachOnce (made_since start history)
made_once start history = once_each [] (filter (is_after (seals_finished [] history)) (blocks_after (begun start) history)) (λ a b x first second. no_item x first)

pub made_all : (start : PlainPool) (history : List Entry) (block : MadeBlock)
    → list_any (is_block block) (made_since start history) ≡ list_any (is_block block) (filter (is_after (seals_finished [] history)) (blocks_after (begun start) history))
made_all start history block = among_each block [] (filter (is_after (seals_finished [] history)) (blocks_after (begun start) history))

-- one more finished group is the latest, or an earlier one is
finished_more : (state : PlainState) (history : List Entry) (group held : ℕ)
    → seals_finished state.tally.sealed (history ++ entry.Finish group held ∷ []) ≡ max (seals_finished state.tally.sealed history) (seals_up_to group (fold step state history).tally.sealed)
finished_more state [] group held = omega arith
finished_more state (entry.Ask session command ∷ history) group held =
    sym (ap (λ (t : Tally). seals_finished t.sealed (history ++ entry.Finish group held ∷ [])) (tally_after_ask state session command))
    ∙ finished_more (step state (entry.Ask session command)) history group held
    ∙ ap (λ (t : Tally). max (seals_finished t.sealed history) (seals_up_to group (fold step (step state (entry.Ask session command)) history).tally.sealed)) (tally_after_ask state session command)
finished_more state (entry.Answer session reply ∷ history) group held =
    sym (ap (λ (t : Tally). seals_finished t.sealed (history ++ entry.Finish group held ∷ [])) (tally_after_answer state session reply))
    ∙ finished_more (step state (entry.Answer session reply)) history group held
    ∙ ap (λ (t : Tally). max (seals_finished t.sealed history) (seals_up_to group (fold step (step state (entry.Answer session reply)) history).tally.sealed)) (tally_after_answer state session reply)
finished_more state (entry.Seal other ∷ history) group held =
    sym (ap (λ (t : Tally). seals_finished t.sealed (history ++ entry.Finish group held ∷ [])) (tally_after_seal state other))
    ∙ finished_more (step state (entry.Seal other)) history group held
    ∙ ap (λ (t : Tally). max (seals_finished t.sealed history) (seals_up_to group (fold step (step state (entry.Seal other)) history).tally.sealed)) (tally_after_seal state other)
finished_more state (entry.Finish other more ∷ history) group held =
    let rest =
    sym (ap (λ (t : Tally). seals_finished t.sealed (history ++ entry.Finish group held ∷ [])) (tally_after_finish state other more))
    ∙ finished_more (step state (entry.Finish other more)) history group held
    ∙ ap (λ (t : Tally). max (seals_finished t.sealed history) (seals_up_to group (fold step (step state (entry.Finish other more)) history).tally.sealed)) (tally_after_finish state other more) in
    omega (arith, rest)

-- where a group is finished that wasn't sealed before one that was finished, its seal is the latest
pub last_is_latest : (start : PlainPool) (history : List Entry) (group held : ℕ) → seals_finished [] history ≤ seals_up_to group (state_after start history).tally.sealed
    → seals_finished [] (history ++ entry.Finish group held ∷ []) ≡ seals_up_to group (state_after start history).tally.sealed
last_is_latest start history group held in_order = omega (arith, finished_more (begun start) history group held)
