-- What the charge is counted from, once a group was sealed, and once one was finished.
use Rattle.std.proofs.Common.{◌≡◌, ◌∙◌, ◌⊎◌, ℕ, suc, ◌+◌, ◌<◌, ◌≤◌, Bool, true, false, true≢false, ◌||◌, ◌&&◌, ◌==◌, cond, List, [], ◌∷◌, ◌++◌, length, Some, refl, sym, ap, subst, ⊎_elim, arith}
use Rattle.std.specs.Prelude.{filter, count_by, sum_by}
use Rattle.std.specs.List.{AllByRecursion, list_any}
use Rattle.std.proofs.lemmas.Bool.{eqb-true, eq-eqb, ne_eqb, and_parts, and_left, cases_order, cases_Bool, le-leb, lt-leb, or_from, or_parts, or_cases, false_from_ne_true}
use Rattle.std.proofs.lemmas.List.Sums.{sum_by-cons, count_by-le-length, length-filter}
use Rattle.std.proofs.lemmas.Map.Views.{any-filter_same}
use Rattle.zc_num.specs.Words.{found_from}
use Rattle.zc_plain.specs.declared.tally.MadeBlock.{MadeBlock}
use Rattle.zc_plain.specs.Charge.{is_block, seals_after, seals_up_to, is_after}
use Rattle.zc_heart.specs.declared.pool_core.WaitingGroup.{WaitingGroup}
use Rattle.zc_heart.specs.Core.{AreMade, AreApart}
use Rattle.zc_heart.proofs.ListLaws.{each_of, all_append, none_append, none_of}

abbrev pub made_of : WaitingGroup → ℕ
made_of one = one.made

abbrev pub group_of : WaitingGroup → ℕ
group_of one = one.group

-- ---- counts

abbrev is_from : ℕ → MadeBlock → Bool
is_from seals block = block.seals == seals

count_cons : (p : MadeBlock → Bool) (block : MadeBlock) (made : List MadeBlock) → count_by p (block ∷ made) ≡ cond (p block) 1 0 + count_by p made
count_cons p block made = sum_by-cons (λ (one : MadeBlock). cond (p one) 1 0) block made

count_none : (p : MadeBlock → Bool) (made : List MadeBlock) → AllByRecursion (λ (block : MadeBlock). p block ≡ false) made → count_by p made ≡ 0
count_none p [] none = refl
count_none p (block ∷ made) none = let first : cond {A = ℕ} (p block) 1 0 ≡ 0 = ap (λ (b : Bool). cond {A = ℕ} b 1 0) none.0 in omega (arith, count_cons p block made, first, count_none p made none.1)

-- what is counted by two tests that nothing passes both of
count_two : (p q r : MadeBlock → Bool) → ((block : MadeBlock) → cond (r block) 1 0 ≡ cond (p block) 1 0 + cond (q block) 1 0) → (made : List MadeBlock) → count_by r made ≡ count_by p made + count_by q made
count_two p q r both [] = refl
count_two p q r both (block ∷ made) = omega (arith, count_cons r block made, count_cons p block made, count_cons q block made, both block, count_two p q r both made)

-- where as many are counted as there are, each is
count_all : (p : MadeBlock → Bool) (made : List MadeBlock) → length made ≤ count_by p made → AllByRecursion (λ (block : MadeBlock). p block ≡ true) made
count_all p [] all = tt
count_all p (block ∷ made) all =
    let head = count_cons p block made in
    let few = count_by-le-length p made in
    let here : p block ≡ true =
    ⊎_elim (λ (passes : p block ≡ true). passes) (λ (fails : p block ≡ false). let none : cond {A = ℕ} (p block) 1 0 ≡ 0 = ap (λ (b : Bool). cond {A = ℕ} b 1 0) fails in absurd (omega (arith, all, head, few, none))) (cases_Bool (p block)) in
    let one : cond {A = ℕ} (p block) 1 0 ≡ 1 = ap (λ (b : Bool). cond {A = ℕ} b 1 0) here in
    (here, count_all p made (omega (arith, all, head, one)))

-- ---- the groups that wait

-- the block was made after one of the seals that wait, or in the open group
abbrev is_among : ℕ → List WaitingGroup → MadeBlock → Bool
is_among from [] block = block.seals == from
is_among from (one ∷ waiting) block = (block.seals == from) || is_among (from + 1) waiting block

-- then its seals are in their range
among_means : (from : ℕ) (waiting : List WaitingGroup) (block : MadeBlock) → is_among from waiting block ≡ true → (from ≤ block.seals) × (block.seals ≤ from + length waiting)
among_means from [] block among = let same = eqb-true block.seals from among in (omega (arith, same), omega (arith, same))
among_means from (one ∷ waiting) block among =
    ⊎_elim
    (λ (here : (block.seals == from) ≡ true).
    let same = eqb-true block.seals from here in
    let low : from ≤ block.seals = omega (arith, same) in
    let high : block.seals ≤ from + length (one ∷ waiting) = omega (arith, same) in
    (low, high))
    (λ (later : is_among (from + 1) waiting block ≡ true).
    let range = among_means (from + 1) waiting block later in
    let low : from ≤ block.seals = omega (arith, range.0) in
    let high : block.seals ≤ from + length (one ∷ waiting) = omega (arith, range.1) in
    (low, high))
    (or_cases (block.seals == from) (is_among (from + 1) waiting block) among)

not_both : (a c : Bool) → (a ≡ true → c ≡ false) → cond {A = ℕ} (a || c) 1 0 ≡ cond a 1 0 + cond c 1 0
not_both true true apart = absurd (true≢false (apart refl))
not_both true false apart = refl
not_both false true apart = refl
not_both false false apart = refl

-- they are counted as the groups say
among_counted : (from : ℕ) (waiting : List WaitingGroup) (current : ℕ) (made : List MadeBlock) → AreMade from waiting current made → count_by (is_among from waiting) made ≡ sum_by made_of waiting + current
among_counted from [] current made are = let none : sum_by made_of [] ≡ 0 = refl in are ∙ omega (arith, none)
among_counted from (one ∷ waiting) current made are =
    let two = count_two (is_from from) (is_among (from + 1) waiting) (is_among from (one ∷ waiting))
    (λ (block : MadeBlock). not_both (block.seals == from) (is_among (from + 1) waiting block) (λ here. false_from_ne_true (is_among (from + 1) waiting block) (λ later. absurd (omega (arith, eqb-true block.seals from here, (among_means (from + 1) waiting block later).0))))) made in
    omega (arith, two, are.0, among_counted (from + 1) waiting current made are.1, sum_by-cons made_of one waiting)

-- so none was made before them or after them
pub all_in_range : (from : ℕ) (waiting : List WaitingGroup) (current : ℕ) (made : List MadeBlock) → AreMade from waiting current made → length made ≡ sum_by made_of waiting + current
    → AllByRecursion (λ (block : MadeBlock). (from ≤ block.seals) × (block.seals ≤ from + length waiting)) made
all_in_range from waiting current made are whole =
    each_of (λ (block : MadeBlock). is_among from waiting block ≡ true) (λ (block : MadeBlock). (from ≤ block.seals) × (block.seals ≤ from + length waiting)) made
    (λ block among. among_means from waiting block among)
    (count_all (is_among from waiting) made (omega (arith, whole, among_counted from waiting current made are)))

-- ---- a seal

-- one more group waits, and nothing was made after it
pub made_pushed : (from : ℕ) (waiting : List WaitingGroup) (current : ℕ) (made : List MadeBlock) (waits : WaitingGroup) → AreMade from waiting current made → AllByRecursion (λ (block : MadeBlock). block.seals ≤ from + length waiting) made → waits.made ≡ current
    → AreMade from (waiting ++ waits ∷ []) 0 made
made_pushed from [] current made waits are low all =
    (are ∙ sym all, count_none (is_from (from + 1)) made (each_of (λ (block : MadeBlock). block.seals ≤ from + 0) (λ (block : MadeBlock). (block.seals == (from + 1)) ≡ false) made (λ block few. ne_eqb block.seals (from + 1) (λ same. absurd (omega (arith, few, same)))) low))
made_pushed from (one ∷ waiting) current made waits are low all = (
  are.0,
  made_pushed (from + 1) waiting current made waits are.1
      (each_of (λ (block : MadeBlock). block.seals ≤ from + length (one ∷ waiting)) (λ (block : MadeBlock). block.seals ≤ (from + 1) + length waiting) made (λ block few. let more : block.seals ≤ from + suc (length waiting) = few in omega (arith, more)) low) all,
)

pub apart_pushed : (numbers : List ℕ) (number : ℕ) → AreApart numbers → AllByRecursion (λ one. one < number) numbers → AreApart (numbers ++ number ∷ [])
apart_pushed [] number apart below = (refl, tt)
apart_pushed (one ∷ numbers) number apart below =
    (none_append (λ other. other == one) numbers (number ∷ []) apart.0 (or_from (number == one) false (ne_eqb number one (λ same. absurd (omega (arith, below.0)))) refl), apart_pushed numbers number apart.1 below.1)

pub below_pushed : (numbers : List ℕ) (number : ℕ) → AllByRecursion (λ one. one < number) numbers → AllByRecursion (λ one. one < number + 1) (numbers ++ number ∷ [])
below_pushed numbers number below = all_append (λ one. one < number + 1) numbers (number ∷ []) (each_of (λ one. one < number) (λ one. one < number + 1) numbers (λ one low. omega arith) below) (omega arith, tt)

-- no block was made after so many seals
pub none_at : (seals dataset file k : ℕ) (made : List MadeBlock) → AllByRecursion (λ (block : MadeBlock). block.seals < seals) made
    → list_any (is_block (record { seals = seals; dataset = dataset; file = file; block = k })) made ≡ false
none_at seals dataset file k made below =
    none_of (is_block (record { seals = seals; dataset = dataset; file = file; block = k })) made
    (each_of (λ (block : MadeBlock). block.seals < seals) (λ (block : MadeBlock). is_block (record { seals = seals; dataset = dataset; file = file; block = k }) block ≡ false) made
    (λ block low. and_left (seals == block.seals) ((dataset == block.dataset) && ((file == block.file) && (k == block.block))) (ne_eqb seals block.seals (λ same. absurd (omega (arith, same, low))))) below)

-- ---- a finished group

-- what is no item of a list fails
none_later : {X : Type 0} (test : X → Bool) (xs : List X) (y : X) (ys : List X) → list_any test (xs ++ y ∷ ys) ≡ false → test y ≡ false
none_later test [] y ys none = (or_parts (test y) (list_any test ys) none).0
none_later test (x ∷ xs) y ys none = none_later test xs y ys (or_parts (test x) (list_any test (xs ++ y ∷ ys)) none).1

-- a number that is none of those before it is found after them
found_after : (k : ℕ) (finished : List ℕ) (group : ℕ) (rest : List ℕ) → AreApart (finished ++ group ∷ rest) → found_from (λ one. one == group) k (finished ++ group ∷ rest) ≡ Some (k + length finished)
found_after k [] group rest apart =
    let at : k ≡ k + 0 = omega arith in
    (λ i. cond (eq-eqb group group refl i) (Some k) (found_from (λ one. one == group) (k + 1) rest)) ∙ (λ i. Some (at i))
found_after k (x ∷ finished) group rest apart =
    let other : (x == group) ≡ false = ne_eqb x group (λ same. true≢false (sym (eq-eqb group x (sym same)) ∙ none_later (λ one. one == x) finished group rest apart.0)) in
    let at : (k + 1) + length finished ≡ k + length (x ∷ finished) = let long : length (x ∷ finished) ≡ suc (length finished) = refl in omega (arith, long) in
    (λ i. cond (other i) (Some k) (found_from (λ one. one == group) (k + 1) (finished ++ group ∷ rest))) ∙ found_after (k + 1) finished group rest apart.1 ∙ (λ i. Some (at i))

pub seals_are : (sealed finished rest : List ℕ) (group : ℕ) → sealed ≡ finished ++ group ∷ rest → AreApart sealed → seals_up_to group sealed ≡ length finished + 1
unfolding seals_up_to
seals_are sealed finished rest group is apart =
    let found = found_after 0 finished group rest (subst AreApart is apart) in
    (λ i. seals_after (found_from (λ (one : ℕ). one == group) 0 (is i))) ∙ ap seals_after found ∙ omega arith

-- what a filter keeps
count_kept : (p keep : MadeBlock → Bool) → ((block : MadeBlock) → p block ≡ true → keep block ≡ true) → (made : List MadeBlock) → count_by p (filter keep made) ≡ count_by p made
count_kept p keep kept [] = refl
count_kept p keep kept (block ∷ made) = by (count_kept p keep kept made) (keep block) refl where
  by : count_by p (filter keep made) ≡ count_by p made → (b : Bool) → keep block ≡ b → count_by p (cond b (block ∷ filter keep made) (filter keep made)) ≡ count_by p (block ∷ made)
  by rest true is = omega (arith, count_cons p block (filter keep made), count_cons p block made, rest)
  by rest false is =
      let fails : p block ≡ false = false_from_ne_true (p block) (λ passes. absurd (true≢false (sym (kept block passes) ∙ is))) in
      let none : cond {A = ℕ} (p block) 1 0 ≡ 0 = ap (λ (b : Bool). cond {A = ℕ} b 1 0) fails in
      omega (arith, count_cons p block made, rest, none)

made_kept : (n from : ℕ) (waiting : List WaitingGroup) (current : ℕ) (made : List MadeBlock) → n ≤ from → AreMade from waiting current made → AreMade from waiting current (filter (is_after n) made)
made_kept n from [] current made least are = count_kept (is_from from) (is_after n) (λ (block : MadeBlock) here. le-leb n block.seals (omega (arith, eqb-true block.seals from here))) made ∙ are
made_kept n from (one ∷ waiting) current made least are =
    (count_kept (is_from from) (is_after n) (λ (block : MadeBlock) here. le-leb n block.seals (omega (arith, eqb-true block.seals from here))) made ∙ are.0, made_kept n (from + 1) waiting current made (omega arith) are.1)

-- what was made in the first group or after it
first_or_after : (from : ℕ) (made : List MadeBlock) → AllByRecursion (λ (block : MadeBlock). from ≤ block.seals) made → count_by (is_from from) made + count_by (is_after (from + 1)) made ≡ length made
first_or_after from [] least = refl
first_or_after from (block ∷ made) least =
    let one : cond {A = ℕ} (is_from from block) 1 0 + cond {A = ℕ} (is_after (from + 1) block) 1 0 ≡ 1 =
    ⊎_elim
    (λ (same : block.seals ≡ from). (λ i. cond {A = ℕ} (eq-eqb block.seals from same i) 1 0 + cond {A = ℕ} (lt-leb (from + 1) block.seals (omega (arith, same)) i) 1 0))
    (λ (other : (block.seals < from) ⊎ (from < block.seals)). ⊎_elim
    (λ (below : block.seals < from). absurd (omega (arith, least.0)))
    (λ (above : from < block.seals). (λ i. cond {A = ℕ} (ne_eqb block.seals from (λ same. absurd (omega (arith, same, above))) i) 1 0 + cond {A = ℕ} (le-leb (from + 1) block.seals (omega arith) i) 1 0))
    other)
    (cases_order block.seals from) in
    let long : length (block ∷ made) ≡ suc (length made) = refl in
    omega (arith, one, long, count_cons (is_from from) block made, count_cons (is_after (from + 1)) block made, first_or_after from made least.1)

-- the groups that wait after the first
pub made_after_first : (from : ℕ) (waits : WaitingGroup) (others : List WaitingGroup) (current : ℕ) (made : List MadeBlock) → AreMade from (waits ∷ others) current made → AreMade (from + 1) others current (filter (is_after (from + 1)) made)
made_after_first from waits others current made are = made_kept (from + 1) (from + 1) others current made (omega arith) are.1

pub whole_after_first : (from : ℕ) (waits : WaitingGroup) (others : List WaitingGroup) (current : ℕ) (made : List MadeBlock) → AreMade from (waits ∷ others) current made → length made ≡ sum_by made_of (waits ∷ others) + current
    → length (filter (is_after (from + 1)) made) ≡ sum_by made_of others + current
whole_after_first from waits others current made are whole =
    let range = all_in_range from (waits ∷ others) current made are whole in
    let least = each_of (λ (block : MadeBlock). (from ≤ block.seals) × (block.seals ≤ from + length (waits ∷ others))) (λ (block : MadeBlock). from ≤ block.seals) made (λ block within. within.0) range in
    omega (arith, length-filter (is_after (from + 1)) made, first_or_after from made least, are.0, whole, sum_by-cons made_of waits others)

pub any_after : (from : ℕ) (block : MadeBlock) (made : List MadeBlock) → from ≤ block.seals → list_any (is_block block) (filter (is_after from) made) ≡ list_any (is_block block) made
any_after from block made least =
    any-filter_same (is_block block) (is_after from) true
    (λ other same. le-leb from other.seals (omega (arith, least, eqb-true block.seals other.seals (and_parts (block.seals == other.seals) ((block.dataset == other.dataset) && ((block.file == other.file) && (block.block == other.block))) same).0)))
    made

pub all_kept : (P : MadeBlock → Type 0) (keep : MadeBlock → Bool) (made : List MadeBlock) → AllByRecursion P made → AllByRecursion P (filter keep made)
all_kept P keep [] all = tt
all_kept P keep (block ∷ made) all = by (all_kept P keep made all.1) (keep block) where
  by : AllByRecursion P (filter keep made) → (b : Bool) → AllByRecursion P (cond b (block ∷ filter keep made) (filter keep made))
  by rest true = (all.0, rest)
  by rest false = rest
