-- One block that is put into a file, or taken out of it: what stands there then, what is marked, and how the stamps are counted.
use Rattle.std.proofs.Common.{◌≡◌, ◌≢◌, ℕ, ◌+◌, ◌^◌, ◌<◌, ◌≤◌, ◌==◌, ◌||◌, Bool, true, false, cond, List, [], ◌∷◌, ◌++◌, length, Option, Some, None, refl, sym, ap, subst, ◌∙◌, ⊎_elim, arith}
use Rattle.std.specs.Prelude.{count_by, IsSome}
use Rattle.std.proofs.lemmas.List.Sums.{count_by-le-length}
use Rattle.std.proofs.lemmas.Bool.{cases_Bool, cases_eq, eq-eqb, ne_eqb, or_right, true≢false}
use Rattle.zc_num.specs.Ordered.{value_at, insert_entry, remove_entry, Ascends}
use Rattle.zc_num.specs.Words.{each}
use Rattle.zc_num.proofs.Each.{length_each}
use Rattle.zc_plain.specs.declared.plain_pool.PlainBlock.{PlainBlock}
use Rattle.zc_plain.specs.declared.plain_pool.PlainBlock.TheVariants.{Hole, Made}
use Rattle.zc_plain.specs.PlainPool.{is_made as is_held}
use Rattle.zc_plain.specs.PlainPool.{blocks_of_size, block_at, made_count}
use Rattle.zc_plain.specs.Charge.{is_stamp, stamp_of}
use Rattle.zc_heart.specs.declared.file.HeldBlock.{HeldBlock}
use Rattle.zc_heart.specs.declared.file.Mark.{Mark}
use Rattle.zc_heart.specs.declared.file.Mark.TheVariants as mark
use Rattle.zc_heart.specs.declared.file.HeartFile.{HeartFile}
use Rattle.zc_heart.specs.declared.stamps.Stamps.{Stamps}
use Rattle.zc_heart.specs.Core.{plain_block, plain_blocks, is_touched, is_made, is_touched_by, is_made_by, IsHeartFile}
use Rattle.zc_heart.specs.File.{Marks, CountsChange, Counts}
use Rattle.zc_heart.specs.Stamps.{files_at, Moves, LearnsNothing}
use Rattle.zc_heart.specs.Steps.{held_at, Sets, AreUnused, hole_mark}
use Rattle.zc_heart.proofs.HeldLaws.{block_of_heart, value_once_put, value_once_taken, measure_changed, measure_holds, stamped_in, stamped_by, stamps_weigh, pointer_of, pointers_weigh, one_stamp, same_stamp, other_stamp}
use Rattle.zc_heart.proofs.StepLaws.{or_nothing}

-- ---- one block is another

-- the measure of the blocks changes by the weights of the two
measured : (measure : List PlainBlock → ℕ) (weight : PlainBlock → ℕ) → ((xs : List PlainBlock) (x : PlainBlock) → measure (xs ++ x ∷ []) ≡ measure xs + weight x)
    → (index : ℕ) (block : PlainBlock) (old new : HeartFile) → Sets index block old new → index < blocks_of_size old.size
    → measure (plain_blocks new) + weight (held_at index old) ≡ measure (plain_blocks old) + weight block
measured measure weight weighs index block old new sets within =
    let before = λ (k : ℕ). held_at k old in
    let behind = λ (k : ℕ). held_at k new in
    let changed = measure_changed measure weight weighs before behind (blocks_of_size old.size) index within sets.others in
    let sized : measure (plain_blocks new) ≡ measure (each (blocks_of_size old.size) behind) = ap (λ (size : ℕ). measure (each (blocks_of_size size) behind)) sets.size in
    let here : weight (held_at index new) ≡ weight block = ap weight sets.here in
    omega (arith, changed, sized, here)

-- a file stays one of a heart
pub heart_once_set : (index : ℕ) (block : PlainBlock) (old new : HeartFile) → IsHeartFile old → Sets index block old new → index < blocks_of_size old.size
    → new.pointers + pointer_of (held_at index old) ≡ old.pointers + pointer_of block → IsHeartFile new
heart_once_set index block old new heart sets within pointers =
    record {
      ends = λ k past.
          let far : blocks_of_size old.size ≤ k = subst (λ (size : ℕ). blocks_of_size size ≤ k) sets.size past in
          sets.others k (λ (same : k ≡ index). absurd (omega (arith, far, within, same))) ∙ heart.ends k far;
      pointers =
          let made = measured made_count pointer_of pointers_weigh index block old new sets within in
          omega (arith, made, pointers, heart.pointers);
    }

-- the stamps of the file move as those of the block
pub counts_once_set : (index : ℕ) (block : PlainBlock) (old new : HeartFile) (s t : Stamps) → Sets index block old new → index < blocks_of_size old.size
    → Moves s t (stamp_of (held_at index old)) (stamp_of block) → LearnsNothing s t → CountsChange s t old new
counts_once_set index block old new s t sets within moves learns =
    record {
      moves = λ stamp.
          let made = measured (stamped_in stamp) (stamped_by stamp) (stamps_weigh stamp) index block old new sets within in
          omega (arith, made, moves stamp);
      learns = learns;
    }

-- a stamp of a block of the file is counted
pub stamp_counted : (index : ℕ) (file : HeartFile) (s : Stamps) (entry at : ℕ) (bytes : List ℕ) → Counts s file → index < blocks_of_size file.size → held_at index file ≡ Made entry at bytes → 0 < files_at s (entry, at)
stamp_counted index file s entry at bytes counted within is =
    let stamp : ℕ × ℕ = (entry, at) in
    let holds = measure_holds (stamped_in stamp) (stamped_by stamp) (stamps_weigh stamp) (λ k. held_at k file) (blocks_of_size file.size) index within in
    let weight : stamped_by stamp (held_at index file) ≡ 1 = ap (stamped_by stamp) is ∙ ap (λ (b : Bool). 0 + cond b 1 0) (same_stamp stamp) in
    omega (arith, holds, weight, counted stamp)

-- and still is once another block has joined
pub still_counted : (index : ℕ) (file : HeartFile) (s t : Stamps) (entry at : ℕ) (other : ℕ × ℕ) (bytes : List ℕ) → Counts s file → index < blocks_of_size file.size → held_at index file ≡ Made entry at bytes → Moves s t [] (other ∷ []) → 0 < files_at t (entry, at)
still_counted index file s t entry at other bytes counted within is joined =
    omega (arith, stamp_counted index file s entry at bytes counted within is, joined (entry, at))

few_made : (blocks : List PlainBlock) → made_count blocks ≤ length blocks
unfolding made_count
few_made blocks = count_by-le-length is_held blocks

-- a file has few pointers
pub few_pointers : (file : HeartFile) → IsHeartFile file → file.size < 2 ^ 64 → file.pointers < 2 ^ 63
few_pointers file heart short =
    let many : length (plain_blocks file) ≡ blocks_of_size file.size = length_each (blocks_of_size file.size) (λ k. held_at k file) in
    omega (arith, heart.pointers, few_made (plain_blocks file), many)

-- a file with a block that is no hole has a pointer
pub some_pointers : (index : ℕ) (file : HeartFile) (block : PlainBlock) → IsHeartFile file → index < blocks_of_size file.size → held_at index file ≡ block → pointer_of block ≤ file.pointers
some_pointers index file block heart within is =
    let holds = measure_holds made_count pointer_of pointers_weigh (λ k. held_at k file) (blocks_of_size file.size) index within in
    let weight : pointer_of (held_at index file) ≡ pointer_of block = ap pointer_of is in
    omega (arith, holds, weight, heart.pointers)

-- ---- a block is put

-- the file with the block and its mark in their places, and so many pointers
abbrev pub with_put : ℕ → HeldBlock → ℕ → HeartFile → HeartFile
with_put index held pointers file = record file { blocks = insert_entry index (Some held) file.blocks; marks = insert_entry index mark.Made file.marks; pointers = pointers }

abbrev pub block_of : HeldBlock → PlainBlock
block_of held = Made held.entry held.index held.bytes

pub put_sets : (index : ℕ) (held : HeldBlock) (pointers : ℕ) (file : HeartFile) → Sets index (block_of held) file (with_put index held pointers file)
put_sets index held pointers file = record {
  size = refl;
  sized = refl;
  here = value_once_put (λ value. plain_block value ≡ block_of held) index index (Some held) file.blocks (λ same. refl) (λ apart. absurd (apart refl));
  others = λ k apart. value_once_put (λ value. plain_block value ≡ held_at k file) k index (Some held) file.blocks (λ same. absurd (apart same)) (λ other. refl);
  room = λ k apart there. value_once_put (λ value. IsSome value) k index (Some held) file.blocks (λ same. refl) (λ other. there);
  mark_room = λ k apart there. value_once_put (λ value. IsSome value) k index mark.Made file.marks (λ same. refl) (λ other. there);
}

pub put_marks : (index : ℕ) (held : HeldBlock) (pointers : ℕ) (file : HeartFile) → IsHeartFile file → IsHeartFile (with_put index held pointers file) → Marks (λ k. k == index) file (with_put index held pointers file)
put_marks index held pointers file heart heart_after =
    let new = with_put index held pointers file in
    let sets = put_sets index held pointers file in
    record {
      kept = λ k. value_once_put (λ value. is_touched_by value ≡ false → (is_touched k file ≡ false) × (block_at k (plain_blocks new) ≡ block_at k (plain_blocks file))) k index mark.Made file.marks
          (λ same touched. absurd (true≢false touched))
          (λ apart untouched. (untouched, block_of_heart new k heart_after ∙ sets.others k apart ∙ sym (block_of_heart file k heart)));
      made = λ k. value_once_put (λ value. is_made_by value ≡ (is_made k file || (k == index))) k index mark.Made file.marks
          (λ same. sym (or_right (is_made k file) (k == index) (eq-eqb k index same)))
          (λ apart. or_nothing (is_made k file) ∙ ap (λ (b : Bool). is_made k file || b) (sym (ne_eqb k index apart)));
      sized = λ no. (no, refl);
    }

-- a command's block joins, and the one that stood there leaves: the numbers below stay fresh, and keep their room
pub fresh_once_joined : (number index : ℕ) (s t : Stamps) → AreUnused number (index + 1) s → Moves s t [] ((number, index) ∷ []) → AreUnused number index t
fresh_once_joined number index s t fresh moves k below =
    let joined = moves (number, k) in
    let one : Bool → ℕ = λ (b : Bool). cond b 1 0 in
    let other : one (is_stamp (number, k) (number, index)) ≡ one false = ap one (other_stamp number index k (λ (same : k ≡ index). absurd (omega (arith, same, below)))) in
    omega (arith, joined, other, fresh k (omega (arith, below)))

pub fresh_once_left : (number index : ℕ) (stamp : ℕ × ℕ) (s t : Stamps) → AreUnused number index s → Moves s t (stamp ∷ []) [] → AreUnused number index t
fresh_once_left number index stamp s t fresh moves k below = omega (arith, moves (number, k), fresh k below)

-- a stamp that some file has isn't one that none has
pub apart_from_fresh : (number k : ℕ) (stamp : ℕ × ℕ) (s : Stamps) → files_at s (number, k) ≡ 0 → 0 < files_at s stamp → is_stamp (number, k) stamp ≡ false
apart_from_fresh number k stamp s none some =
    ⊎_elim
    (λ (is : is_stamp (number, k) stamp ≡ true).
    let same : files_at s (number, k) ≡ files_at s stamp = ap (files_at s) (one_stamp (number, k) stamp is) in
    absurd (omega (arith, same, none, some)))
    (λ (no : is_stamp (number, k) stamp ≡ false). no)
    (cases_Bool (is_stamp (number, k) stamp))

-- both together are the step of the block
pub moved_both : (s t u : Stamps) (before behind : ℕ × ℕ) → Moves s t [] (behind ∷ []) → Moves t u (before ∷ []) [] → Moves s u (before ∷ []) (behind ∷ [])
moved_both s t u before behind joined left stamp = omega (arith, joined stamp, left stamp)

pub learnt_both : (s t u : Stamps) → LearnsNothing s t → LearnsNothing t u → LearnsNothing s u
learnt_both s t u first second stamp ptr known = first stamp ptr (second stamp ptr known)

-- ---- a block is taken

-- the file without the block, with its mark, and with so many pointers
abbrev pub with_taken : ℕ → ℕ → HeartFile → HeartFile
with_taken index pointers file = record file { blocks = remove_entry index file.blocks; marks = insert_entry index (hole_mark (value_at index file.marks)) file.marks; pointers = pointers }

pub taken_sets : (index : ℕ) (pointers : ℕ) (file : HeartFile) → Ascends file.blocks → Sets index Hole file (with_taken index pointers file)
taken_sets index pointers file ascends = record {
  size = refl;
  sized = refl;
  here = value_once_taken (λ value. plain_block value ≡ Hole) index index file.blocks ascends (λ same. refl) (λ apart. absurd (apart refl));
  others = λ k apart. value_once_taken (λ value. plain_block value ≡ held_at k file) k index file.blocks ascends (λ same. absurd (apart same)) (λ other. refl);
  room = λ k apart there. value_once_taken (λ value. IsSome value) k index file.blocks ascends (λ same. absurd (apart same)) (λ other. there);
  mark_room = λ k apart there. value_once_put (λ value. IsSome value) k index (hole_mark (value_at index file.marks)) file.marks (λ same. refl) (λ other. there);
}

-- the block was a hole: its entry goes
pub hole_sets : (index : ℕ) (file : HeartFile) → Ascends file.blocks → Sets index Hole file (record file { blocks = remove_entry index file.blocks })
hole_sets index file ascends = record {
  size = refl;
  sized = refl;
  here = value_once_taken (λ value. plain_block value ≡ Hole) index index file.blocks ascends (λ same. refl) (λ apart. absurd (apart refl));
  others = λ k apart. value_once_taken (λ value. plain_block value ≡ held_at k file) k index file.blocks ascends (λ same. absurd (apart same)) (λ other. refl);
  room = λ k apart there. value_once_taken (λ value. IsSome value) k index file.blocks ascends (λ same. absurd (apart same)) (λ other. there);
  mark_room = λ k apart there. there;
}

-- a mark of a hole is one that touches, and says of the bytes what was said
hole_touches : (found : Option Mark) → is_touched_by (Some (hole_mark found)) ≡ true
hole_touches None = refl
hole_touches (Some mark.Room) = refl
hole_touches (Some mark.Holed) = refl
hole_touches (Some mark.Made) = refl

hole_made : (found : Option Mark) → is_made_by (Some (hole_mark found)) ≡ is_made_by found
hole_made None = refl
hole_made (Some mark.Room) = refl
hole_made (Some mark.Holed) = refl
hole_made (Some mark.Made) = refl

pub taken_marks : (index : ℕ) (pointers : ℕ) (file : HeartFile) → Ascends file.blocks → IsHeartFile file → IsHeartFile (with_taken index pointers file) → Marks (λ k. false) file (with_taken index pointers file)
taken_marks index pointers file ascends heart heart_after =
    let new = with_taken index pointers file in
    let sets = taken_sets index pointers file ascends in
    let found = hole_mark (value_at index file.marks) in
    record {
      kept = λ k. value_once_put (λ value. is_touched_by value ≡ false → (is_touched k file ≡ false) × (block_at k (plain_blocks new) ≡ block_at k (plain_blocks file))) k index found file.marks
          (λ same touched. absurd (true≢false (sym (hole_touches (value_at index file.marks)) ∙ touched)))
          (λ apart untouched. (untouched, block_of_heart new k heart_after ∙ sets.others k apart ∙ sym (block_of_heart file k heart)));
      made = λ k. value_once_put (λ value. is_made_by value ≡ (is_made k file || false)) k index found file.marks
          (λ same. hole_made (value_at index file.marks) ∙ sym (ap (λ (n : ℕ). is_made n file) same) ∙ or_nothing (is_made k file))
          (λ apart. or_nothing (is_made k file));
      sized = λ no. (no, refl);
    }

-- a hole that stays one marks nothing
pub hole_marks : (index : ℕ) (old new : HeartFile) → IsHeartFile old → IsHeartFile new → Sets index Hole old new → held_at index old ≡ Hole → new.marks ≡ old.marks → Marks (λ k. false) old new
hole_marks index old new heart heart_after sets hole marks = record {
  kept = λ k untouched. (
    ap (λ (all : List (ℕ × Mark)). is_touched_by (value_at k all)) (sym marks) ∙ untouched,
    block_of_heart new k heart_after ∙ ⊎_elim
        (λ (same : k ≡ index). ap (λ (n : ℕ). held_at n new) same ∙ sets.here ∙ sym hole ∙ ap (λ (n : ℕ). held_at n old) (sym same))
        (λ (apart : k ≢ index). sets.others k apart)
        (cases_eq k index) ∙ sym (block_of_heart old k heart),
  );
  made = λ k. ap (λ (all : List (ℕ × Mark)). is_made_by (value_at k all)) marks ∙ or_nothing (is_made k old);
  sized = λ no. (sym sets.sized ∙ no, sets.size);
}

-- ---- both together

-- What putting or taking a block does.
pub record StepsTo (makes : ℕ → Bool) (index : ℕ) (block : PlainBlock) (old new : HeartFile) (s t : Stamps) : Type 0 where
  pub heart : IsHeartFile new
  pub sets : Sets index block old new
  pub marks : Marks makes old new
  pub counts : CountsChange s t old new

pub steps_put : (index : ℕ) (held : HeldBlock) (pointers : ℕ) (old new : HeartFile) (s t : Stamps) → new ≡ with_put index held pointers old → IsHeartFile old → index < blocks_of_size old.size
    → pointers + pointer_of (held_at index old) ≡ old.pointers + 1 → Moves s t (stamp_of (held_at index old)) ((held.entry, held.index) ∷ []) → LearnsNothing s t
    → StepsTo (λ k. k == index) index (block_of held) old new s t
steps_put index held pointers old new s t is heart within counted moves learns =
    subst (λ (file : HeartFile). StepsTo (λ k. k == index) index (block_of held) old file s t) (sym is)
    (let sets = put_sets index held pointers old in
    let behind = heart_once_set index (block_of held) old (with_put index held pointers old) heart sets within counted in
    record {
      heart = behind;
      sets = sets;
      marks = put_marks index held pointers old heart behind;
      counts = counts_once_set index (block_of held) old (with_put index held pointers old) s t sets within moves learns;
    })

pub steps_taken : (index : ℕ) (pointers : ℕ) (old new : HeartFile) (s t : Stamps) → new ≡ with_taken index pointers old → Ascends old.blocks → IsHeartFile old → index < blocks_of_size old.size
    → pointers + pointer_of (held_at index old) ≡ old.pointers → Moves s t (stamp_of (held_at index old)) [] → LearnsNothing s t
    → StepsTo (λ k. false) index Hole old new s t
steps_taken index pointers old new s t is ascends heart within counted moves learns =
    subst (λ (file : HeartFile). StepsTo (λ k. false) index Hole old file s t) (sym is)
    (let sets = taken_sets index pointers old ascends in
    let behind = heart_once_set index Hole old (with_taken index pointers old) heart sets within (omega (arith, counted)) in
    record {
      heart = behind;
      sets = sets;
      marks = taken_marks index pointers old ascends heart behind;
      counts = counts_once_set index Hole old (with_taken index pointers old) s t sets within moves learns;
    })

pub steps_hole : (index : ℕ) (old new : HeartFile) (s : Stamps) → new ≡ record old { blocks = remove_entry index old.blocks } → Ascends old.blocks → IsHeartFile old → index < blocks_of_size old.size
    → held_at index old ≡ Hole → StepsTo (λ k. false) index Hole old new s s
steps_hole index old new s is ascends heart within hole =
    subst (λ (file : HeartFile). StepsTo (λ k. false) index Hole old file s s) (sym is)
    (let taken = record old { blocks = remove_entry index old.blocks } in
    let sets = hole_sets index old ascends in
    let weightless : old.pointers + pointer_of (held_at index old) ≡ old.pointers + pointer_of Hole = ap (λ (block : PlainBlock). old.pointers + pointer_of block) hole in
    let behind = heart_once_set index Hole old taken heart sets within weightless in
    record {
      heart = behind;
      sets = sets;
      marks = hole_marks index old taken heart behind sets hole refl;
      counts = counts_once_set index Hole old taken s s sets within (λ stamp. ap (λ (block : PlainBlock). files_at s stamp + count_by (is_stamp stamp) (stamp_of block)) hole) (λ stamp ptr known. known);
    })
