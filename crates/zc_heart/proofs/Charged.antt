-- The blocks that are counted once more of one file were made.
use Rattle.std.proofs.Common.{◌≡◌, ℕ, zero, suc, ◌+◌, ◌==◌, ◌&&◌, ◌||◌, nat_le, nat_lt, Bool, true, false, cond, List, [], ◌∷◌, ◌++◌, length, refl, sym, ap, ◌∙◌, ⊎_elim, arith}
use Rattle.std.specs.Prelude.{not, count_by, if◌then◌else◌}
use Rattle.std.specs.List.{AllByRecursion, list_any}
use Rattle.std.proofs.lemmas.Bool.{cases_Bool, eq-eqb, le-ltb, eqb-true, leb-true, and_parts}
use Rattle.std.proofs.lemmas.List.{length-append}
use Rattle.zc_num.specs.Words.{each}
use Rattle.zc_num.proofs.Each.{each_none, each_more}
use Rattle.zc_plain.specs.declared.tally.MadeBlock.{MadeBlock}
use Rattle.zc_plain.specs.Charge.{with_one, with_each, is_block}
use Rattle.zc_plain.proofs.Counted.{counted_push, added_none, added_push}
use Rattle.zc_heart.specs.Core.{made_after}
use Rattle.zc_heart.specs.Steps.{is_within}

-- a block of a file, made after so many seals
abbrev pub block_of : (seals dataset file block : ℕ) → MadeBlock
block_of seals dataset file block = record { seals = seals; dataset = dataset; file = file; block = block }

-- blocks that are tested equal are equal
pub same_block : (a b : MadeBlock) → is_block a b ≡ true → a ≡ b
same_block a b test =
    let first = and_parts (a.seals == b.seals) _ test in
    let second = and_parts (a.dataset == b.dataset) _ first.1 in
    let third = and_parts (a.file == b.file) _ second.1 in
    let seals : a.seals ≡ b.seals = eqb-true a.seals b.seals first.0 in
    let dataset : a.dataset ≡ b.dataset = eqb-true a.dataset b.dataset second.0 in
    let file : a.file ≡ b.file = eqb-true a.file b.file third.0 in
    let block : a.block ≡ b.block = eqb-true a.block b.block third.1 in
    ap (λ (n : ℕ). block_of n a.dataset a.file a.block) seals
    ∙ ap (λ (n : ℕ). block_of b.seals n a.file a.block) dataset
    ∙ ap (λ (n : ℕ). block_of b.seals b.dataset n a.block) file
    ∙ ap (λ (n : ℕ). block_of b.seals b.dataset b.file n) block

-- whether one of two lists has a passing item
pub any_of_both : {X : Type 0} (p : X → Bool) (xs : List X) (y : X) → list_any p (xs ++ y ∷ []) ≡ (list_any p xs || p y)
any_of_both p [] y = or_false (p y)
  where
    or_false : (a : Bool) → (a || false) ≡ a
    or_false true = refl
    or_false false = refl
any_of_both p (x ∷ xs) y = rw (any_of_both p xs y) (or_assoc (p x) (list_any p xs) (p y))
  where
    or_assoc : (a b c : Bool) → (a || (b || c)) ≡ ((a || b) || c)
    or_assoc true b c = refl
    or_assoc false b c = refl

-- one more block: which blocks are there
any_once_added : (made : List MadeBlock) (block x : MadeBlock) → list_any (is_block x) (with_one is_block made block) ≡ (list_any (is_block x) made || is_block x block)
any_once_added made block x =
    ⊎_elim
    (λ (there : list_any (is_block block) made ≡ true).
    rw there
    (⊎_elim
    (λ (same : is_block x block ≡ true).
    let is = same_block x block same in
    let has : list_any (is_block x) made ≡ true = ap (λ (b : MadeBlock). list_any (is_block b) made) is ∙ there in
    rw has refl)
    (λ (differs : is_block x block ≡ false). rw differs (sym (or_none (list_any (is_block x) made))))
    (cases_Bool (is_block x block))))
    (λ (new : list_any (is_block block) made ≡ false). rw new (any_of_both (is_block x) made block))
    (cases_Bool (list_any (is_block block) made))
  where
    or_none : (a : Bool) → (a || false) ≡ a
    or_none true = refl
    or_none false = refl

-- how many there are, and how many after so many seals
count_once_added : (made : List MadeBlock) (block : MadeBlock) (p : MadeBlock → Bool) → count_by p (with_one is_block made block) ≡ count_by p made + (if list_any (is_block block) made then 0 else cond (p block) 1 0)
count_once_added made block p =
    ⊎_elim
    (λ (there : list_any (is_block block) made ≡ true). rw there (omega arith))
    (λ (new : list_any (is_block block) made ≡ false). rw new (counted_push p made block))
    (cases_Bool (list_any (is_block block) made))

length_once_added : (made : List MadeBlock) (block : MadeBlock) → length (with_one is_block made block) ≡ length made + (if list_any (is_block block) made then 0 else 1)
length_once_added made block =
    ⊎_elim
    (λ (there : list_any (is_block block) made ≡ true). rw there (omega arith))
    (λ (new : list_any (is_block block) made ≡ false). rw (new, length-append) (omega arith))
    (cases_Bool (list_any (is_block block) made))

-- what holds of all blocks, once one is added
all_once_added : (P : MadeBlock → Type 0) (made : List MadeBlock) (block : MadeBlock) → AllByRecursion P made → P block → AllByRecursion P (with_one is_block made block)
all_once_added P made block all one =
    ⊎_elim
    (λ (there : list_any (is_block block) made ≡ true). rw there all)
    (λ (new : list_any (is_block block) made ≡ false). rw new (all_after made all))
    (cases_Bool (list_any (is_block block) made))
  where
    all_after : (xs : List MadeBlock) → AllByRecursion P xs → AllByRecursion P (xs ++ block ∷ [])
    all_after [] all = (one, tt)
    all_after (x ∷ xs) all = (all.0, all_after xs all.1)

-- the block is one of so many of the file from the first on
abbrev pub is_among : (dataset file first count : ℕ) → (other_dataset other_file block : ℕ) → Bool
is_among dataset file first count other_dataset other_file block = (other_dataset == dataset) && ((other_file == file) && is_within first (first + count) block)

-- no block, and one more
among_none : (dataset file first d f k : ℕ) → is_among dataset file first 0 d f k ≡ false
among_none dataset file first d f k = none (d == dataset) (f == file) (is_within first (first + 0) k) (within_none first k)
  where
    within_none : (first k : ℕ) → is_within first (first + 0) k ≡ false
    within_none first k =
        ⊎_elim
        (λ (from : nat_le first k ≡ true). let past : nat_lt k (first + 0) ≡ false = le-ltb k (first + 0) (omega (arith, leb-true first k from)) in rw (from, past) refl)
        (λ (before : nat_le first k ≡ false). rw before refl)
        (cases_Bool (nat_le first k))

    none : (a b c : Bool) → c ≡ false → (a && (b && c)) ≡ false
    none true true c e = e
    none true false c e = refl
    none false b c e = refl

among_more : (seals dataset file first n d f k : ℕ) → (is_among dataset file first n d f k || is_block (block_of seals d f k) (block_of seals dataset file (first + n))) ≡ is_among dataset file first (n + 1) d f k
among_more seals dataset file first n d f k =
    let same : (seals == seals) ≡ true = eq-eqb seals seals refl in
    rw same (spread (d == dataset) (f == file) (is_within first (first + n) k) (k == first + n) (is_within first (first + (n + 1)) k) (within_more first n k))
  where
    within_more : (first n k : ℕ) → (is_within first (first + n) k || (k == first + n)) ≡ is_within first (first + (n + 1)) k
    within_more first n k = grind arith

    spread : (a b c e g : Bool) → (c || e) ≡ g → ((a && (b && c)) || (a && (b && e))) ≡ (a && (b && g))
    spread true true c e g is = is
    spread true false c e g is = refl
    spread false b c e g is = refl

-- ---- so many blocks of a file

module _ (made : List MadeBlock) (seals dataset file first : ℕ) where
  -- the blocks, and what is counted with them
  abbrev more : ℕ → List MadeBlock
  more n = with_each is_block made (each n (λ k. block_of seals dataset file (first + k)))

  abbrev has : (d f k : ℕ) → Bool
  has d f k = list_any (is_block (block_of seals d f k)) made

  more_none : more 0 ≡ made
  more_none = ap (with_each is_block made) (each_none (λ k. block_of seals dataset file (first + k))) ∙ added_none is_block made

  more_one : (n : ℕ) → more (n + 1) ≡ with_one is_block (more n) (block_of seals dataset file (first + n))
  more_one n =
      ap (with_each is_block made) (each_more n (λ k. block_of seals dataset file (first + k)))
      ∙ added_push is_block made (each n (λ k. block_of seals dataset file (first + k))) (block_of seals dataset file (first + n))

  -- the next one is none of those before it
  next_is_new : (n : ℕ) → is_among dataset file first n dataset file (first + n) ≡ false
  next_is_new n =
      let past : nat_lt (first + n) (first + n) ≡ false = le-ltb (first + n) (first + n) (omega arith) in
      rw past (no_and (dataset == dataset) (file == file) (nat_le first (first + n)))
    where
      no_and : (a b c : Bool) → (a && (b && (c && false))) ≡ false
      no_and true true true = refl
      no_and true true false = refl
      no_and true false c = refl
      no_and false b c = refl

  -- which blocks are there
  pub any_more : (n d f k : ℕ) → list_any (is_block (block_of seals d f k)) (more n) ≡ (has d f k || is_among dataset file first n d f k)
  any_more zero d f k = rw (more_none, among_none dataset file first d f k) (sym (or_none (has d f k)))
    where
      or_none : (a : Bool) → (a || false) ≡ a
      or_none true = refl
      or_none false = refl
  any_more (suc n) d f k =
      let next : suc n ≡ n + 1 = omega arith in
      rw (next, more_one n) (any_once_added (more n) (block_of seals dataset file (first + n)) (block_of seals d f k)
      ∙ ap (λ (b : Bool). b || is_block (block_of seals d f k) (block_of seals dataset file (first + n))) (any_more n d f k)
      ∙ or_assoc (has d f k) (is_among dataset file first n d f k) (is_block (block_of seals d f k) (block_of seals dataset file (first + n)))
      ∙ ap (λ (b : Bool). has d f k || b) (among_more seals dataset file first n d f k))
    where
      or_assoc : (a b c : Bool) → ((a || b) || c) ≡ (a || (b || c))
      or_assoc true b c = refl
      or_assoc false b c = refl

  -- how many of the blocks weren't there
  abbrev pub fresh : ℕ → ℕ
  fresh n = count_by (λ (was : Bool). not was) (each n (λ k. has dataset file (first + k)))

  fresh_none : fresh 0 ≡ 0
  fresh_none = ap (count_by (λ (was : Bool). not was)) (each_none (λ k. has dataset file (first + k)))

  fresh_one : (n : ℕ) → fresh (n + 1) ≡ fresh n + cond (not (has dataset file (first + n))) 1 0
  fresh_one n =
      ap (count_by (λ (was : Bool). not was)) (each_more n (λ k. has dataset file (first + k)))
      ∙ counted_push (λ (was : Bool). not was) (each n (λ k. has dataset file (first + k))) (has dataset file (first + n))

  -- the next one is there where it was before
  next_has : (n : ℕ) → list_any (is_block (block_of seals dataset file (first + n))) (more n) ≡ has dataset file (first + n)
  next_has n =
      any_more n dataset file (first + n) ∙ ap (λ (b : Bool). has dataset file (first + n) || b) (next_is_new n) ∙ or_none (has dataset file (first + n))
    where
      or_none : (a : Bool) → (a || false) ≡ a
      or_none true = refl
      or_none false = refl

  -- how many there are
  pub length_more : (n : ℕ) → length (more n) ≡ length made + fresh n
  length_more zero = rw (more_none, fresh_none) (omega arith)
  length_more (suc n) =
      let next : suc n ≡ n + 1 = omega arith in
      let rest = length_more n in
      rw (next, more_one n, fresh_one n, length_once_added (more n) (block_of seals dataset file (first + n)), next_has n)
      (⊎_elim
      (λ (there : has dataset file (first + n) ≡ true). rw there (omega arith))
      (λ (new : has dataset file (first + n) ≡ false). rw new (omega arith))
      (cases_Bool (has dataset file (first + n))))

  -- how many were made after so many seals
  pub after_more : (n s : ℕ) → made_after s (more n) ≡ made_after s made + cond (seals == s) (fresh n) 0
  after_more zero s = rw (more_none, fresh_none) (either (seals == s))
    where
      either : (b : Bool) → made_after s made ≡ made_after s made + cond b 0 0
      either true = omega arith
      either false = omega arith
  after_more (suc n) s =
      let next : suc n ≡ n + 1 = omega arith in
      let rest = after_more n s in
      let one = count_once_added (more n) (block_of seals dataset file (first + n)) (λ (b : MadeBlock). b.seals == s) in
      rw (next, more_one n, fresh_one n, one, next_has n)
      (⊎_elim
      (λ (there : has dataset file (first + n) ≡ true).
      ⊎_elim
      (λ (here : (seals == s) ≡ true). let so_far = rw here at rest in rw (there, here) (omega arith))
      (λ (other : (seals == s) ≡ false). let so_far = rw other at rest in rw (there, other) (omega arith))
      (cases_Bool (seals == s)))
      (λ (new : has dataset file (first + n) ≡ false).
      ⊎_elim
      (λ (here : (seals == s) ≡ true). let so_far = rw here at rest in rw (new, here) (omega arith))
      (λ (other : (seals == s) ≡ false). let so_far = rw other at rest in rw (new, other) (omega arith))
      (cases_Bool (seals == s)))
      (cases_Bool (has dataset file (first + n))))

  -- what holds of all of them
  pub all_more : (P : MadeBlock → Type 0) (n : ℕ) → AllByRecursion P made → ((k : ℕ) → P (block_of seals dataset file k)) → AllByRecursion P (more n)
  all_more P zero all each_one = rw more_none all
  all_more P (suc n) all each_one =
      let next : suc n ≡ n + 1 = omega arith in
      rw (next, more_one n) (all_once_added P (more n) (block_of seals dataset file (first + n)) (all_more P n all each_one) (each_one (first + n)))
