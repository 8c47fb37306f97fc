-- Steps that change a file, one after another: what is kept, marked and counted over them.
use Rattle.std.proofs.Common.{◌≡◌, ℕ, ◌≤◌, ◌||◌, Bool, true, false, List, [], Option, Some, None, refl, sym, ap, subst, ◌∙◌, arith}
use Rattle.std.specs.Prelude.{Result, Ok, Err, OnErr, count_by, flat_map, is_some, IsSome}
use Rattle.std.proofs.lemmas.Bool.{false≢true}
use Rattle.zc_num.specs.Ordered.{value_at, insert_entry}
use Rattle.zc_num.specs.Words.{each}
use Rattle.zc_num.proofs.Each.{each_same}
use Rattle.zc_plain.specs.declared.plain_pool.PlainBlock.{PlainBlock}
use Rattle.zc_plain.specs.PlainPool.{is_made as is_held}
use Rattle.zc_plain.specs.PlainPool.{blocks_of_size, block_at, made_count}
use Rattle.zc_plain.specs.Charge.{is_stamp, stamp_of}
use Rattle.zc_heart.specs.declared.file.HeldBlock.{HeldBlock}
use Rattle.zc_heart.specs.declared.file.Mark.TheVariants as mark
use Rattle.zc_heart.specs.declared.file.HeartFile.{HeartFile}
use Rattle.zc_heart.specs.declared.stamps.Stamps.{Stamps}
use Rattle.zc_heart.specs.Core.{plain_block, plain_blocks, is_touched, is_made, is_touched_by, is_made_by, IsHeartFile}
use Rattle.zc_heart.specs.File.{bare, stamps_in, StaysFile, StaysCounted, Marks, CountsChange, Counts, IsNew}
use Rattle.zc_heart.specs.Steps.{held_at, HasMarkRoom, KeepsAll}
use Rattle.zc_heart.proofs.HeldLaws.{value_once_put}

-- ---- what is kept

-- a value that isn't there is none
pub none_there : {V : Type 0} (value : Option V) → is_some value ≡ false → value ≡ None
none_there None missing = refl
none_there (Some value) missing = absurd (false≢true (sym missing))

-- what holds, holds where a call failed
pub on_err_always : {T E : Type 0} (result : Result T E) (P : Type 0) → P → OnErr result P
on_err_always (Ok value) P holds = tt
on_err_always (Err fault) P holds = holds

pub keeps_same : (file : HeartFile) → KeepsAll file file
keeps_same file = record {
  size = refl;
  pointers = refl;
  sized = refl;
  blocks = λ k. refl;
  touched = λ k. refl;
  made = λ k. refl;
  room = λ k there. there;
  mark_room = λ k there. there;
}

pub keeps_on : (a b c : HeartFile) → KeepsAll a b → KeepsAll b c → KeepsAll a c
keeps_on a b c first second = record {
  size = second.size ∙ first.size;
  pointers = second.pointers ∙ first.pointers;
  sized = second.sized ∙ first.sized;
  blocks = λ k. second.blocks k ∙ first.blocks k;
  touched = λ k. second.touched k ∙ first.touched k;
  made = λ k. second.made k ∙ first.made k;
  room = λ k there. second.room k (first.room k there);
  mark_room = λ k there. second.mark_room k (first.mark_room k there);
}

-- the blocks are those of before
pub kept_blocks : (a b : HeartFile) → KeepsAll a b → plain_blocks b ≡ plain_blocks a
kept_blocks a b keeps =
    ap (λ (size : ℕ). each (blocks_of_size size) (λ k. held_at k b)) keeps.size
    ∙ each_same (blocks_of_size a.size) (λ k. held_at k b) (λ k. held_at k a) (λ k below. keeps.blocks k)

pub kept_bare : (a b : HeartFile) → KeepsAll a b → bare b ≡ bare a
kept_bare a b keeps =
    ap (λ (size : ℕ). record { id = 0; name = []; size = size; blocks = plain_blocks b }) keeps.size
    ∙ ap (λ (blocks : List PlainBlock). record { id = 0; name = []; size = a.size; blocks = blocks }) (kept_blocks a b keeps)

pub kept_stays : (a b : HeartFile) → KeepsAll a b → StaysFile a b
kept_stays a b keeps = record { file = kept_bare a b keeps; pointers = keeps.pointers; sized = keeps.sized; touched = keeps.touched; made = keeps.made }

pub kept_heart : (a b : HeartFile) → IsHeartFile a → KeepsAll a b → IsHeartFile b
kept_heart a b heart keeps = record {
  ends = λ k past. let far : blocks_of_size a.size ≤ k = subst (λ (size : ℕ). blocks_of_size size ≤ k) keeps.size past in keeps.blocks k ∙ heart.ends k far;
  pointers = keeps.pointers ∙ heart.pointers ∙ ap made_count (sym (kept_blocks a b keeps));
}

-- room for a block where there was none
pub kept_with_room : (file : HeartFile) (k : ℕ) (held : Option HeldBlock) → plain_block (Some held) ≡ plain_block None → value_at k file.blocks ≡ None → KeepsAll file (record file { blocks = insert_entry k held file.blocks })
kept_with_room file k held hole missing = record {
  size = refl;
  pointers = refl;
  sized = refl;
  blocks = λ j. value_once_put (λ value. plain_block value ≡ held_at j file) j k held file.blocks
      (λ same. hole ∙ sym (ap (λ (n : ℕ). held_at n file) same ∙ ap plain_block missing)) (λ apart. refl);
  touched = λ j. refl;
  made = λ j. refl;
  room = λ j there. value_once_put (λ value. IsSome value) j k held file.blocks (λ same. refl) (λ apart. there);
  mark_room = λ j there. there;
}

-- room for a mark where there was none
pub kept_with_mark : (file : HeartFile) (k : ℕ) → value_at k file.marks ≡ None → KeepsAll file (record file { marks = insert_entry k mark.Room file.marks })
kept_with_mark file k missing = record {
  size = refl;
  pointers = refl;
  sized = refl;
  blocks = λ j. refl;
  touched = λ j. value_once_put (λ value. is_touched_by value ≡ is_touched j file) j k mark.Room file.marks (λ same. sym (ap (λ (n : ℕ). is_touched n file) same ∙ ap is_touched_by missing)) (λ apart. refl);
  made = λ j. value_once_put (λ value. is_made_by value ≡ is_made j file) j k mark.Room file.marks (λ same. sym (ap (λ (n : ℕ). is_made n file) same ∙ ap is_made_by missing)) (λ apart. refl);
  room = λ j there. there;
  mark_room = λ j there. value_once_put (λ value. IsSome value) j k mark.Room file.marks (λ same. refl) (λ apart. there);
}

-- what was put is there
pub there_once_put : {V : Type 0} (k : ℕ) (value : V) (es : List (ℕ × V)) → IsSome (value_at k (insert_entry k value es))
there_once_put k value es = value_once_put (λ found. IsSome found) k k value es (λ same. refl) (λ apart. absurd (apart refl))

-- ---- what is counted of stamps

pub stays_same : (stamps : Stamps) → StaysCounted stamps stamps
stays_same stamps = record { files = λ stamp. refl; placed = λ stamp. refl }

pub stays_on : (a b c : Stamps) → StaysCounted a b → StaysCounted b c → StaysCounted a c
stays_on a b c first second = record { files = λ stamp. second.files stamp ∙ first.files stamp; placed = λ stamp. second.placed stamp ∙ first.placed stamp }

pub counts_on : (s t u : Stamps) (a b c : HeartFile) → CountsChange s t a b → CountsChange t u b c → CountsChange s u a c
counts_on s t u a b c first second = record {
  moves = λ stamp. omega (arith, first.moves stamp, second.moves stamp);
  learns = λ stamp ptr known. first.learns stamp ptr (second.learns stamp ptr known);
}

-- a step that counts nothing, over a file whose blocks have the same stamps
pub counts_stay : (s t : Stamps) (a b : HeartFile) → StaysCounted s t → ((stamp : ℕ × ℕ) → count_by (is_stamp stamp) (stamps_in b) ≡ count_by (is_stamp stamp) (stamps_in a)) → CountsChange s t a b
counts_stay s t a b stays same = record {
  moves = λ stamp. omega (arith, stays.files stamp, same stamp);
  learns = λ stamp ptr known. sym (stays.placed stamp) ∙ known;
}

pub counts_kept : (s t : Stamps) (a b : HeartFile) → StaysCounted s t → KeepsAll a b → CountsChange s t a b
counts_kept s t a b stays keeps = counts_stay s t a b stays (λ stamp. ap (λ (blocks : List PlainBlock). count_by (is_stamp stamp) (flat_map stamp_of blocks)) (kept_blocks a b keeps))

-- every stamp of the file stays counted
pub counted_on : (s t : Stamps) (a b : HeartFile) → Counts s a → CountsChange s t a b → Counts t b
counted_on s t a b counted change = λ stamp. omega (arith, counted stamp, change.moves stamp)

pub new_stays : (number : ℕ) (s t : Stamps) → IsNew number s → StaysCounted s t → IsNew number t
new_stays number s t new stays = λ index. stays.files (number, index) ∙ new index

-- ---- what is marked

pub marks_on : (makes others : ℕ → Bool) (a b c : HeartFile) → Marks makes a b → Marks others b c → Marks (λ k. makes k || others k) a c
marks_on makes others a b c first second = record {
  kept = λ k untouched. let behind = second.kept k untouched in let front = first.kept k behind.0 in (front.0, behind.1 ∙ front.1);
  made = λ k. second.made k ∙ ap (λ (m : Bool). m || others k) (first.made k) ∙ or_again (is_made k a) (makes k) (others k);
  sized = λ no. let behind = second.sized no in let front = first.sized behind.0 in (front.0, behind.1 ∙ front.1);
}
  where
    or_again : (x y z : Bool) → ((x || y) || z) ≡ (x || (y || z))
    or_again true y z = refl
    or_again false y z = refl

-- the same by another test
pub marks_as : (makes others : ℕ → Bool) (a b : HeartFile) → ((k : ℕ) → makes k ≡ others k) → Marks makes a b → Marks others a b
marks_as makes others a b same marks = record {
  kept = marks.kept;
  made = λ k. marks.made k ∙ ap (λ (m : Bool). is_made k a || m) (same k);
  sized = marks.sized;
}

pub or_nothing : (x : Bool) → x ≡ (x || false)
or_nothing true = refl
or_nothing false = refl

pub marks_kept : (a b : HeartFile) → KeepsAll a b → Marks (λ k. false) a b
marks_kept a b keeps = record {
  kept = λ k untouched. (sym (keeps.touched k) ∙ untouched, ap (block_at k) (kept_blocks a b keeps));
  made = λ k. keeps.made k ∙ or_nothing (is_made k a);
  sized = λ no. (sym keeps.sized ∙ no, keeps.size);
}

pub marks_same : (file : HeartFile) → Marks (λ k. false) file file
marks_same file = marks_kept file file (keeps_same file)

-- room for the mark of a block stays
pub mark_room_kept : (a b : HeartFile) → KeepsAll a b → (k : ℕ) → HasMarkRoom k a → HasMarkRoom k b
mark_room_kept a b keeps k room held = keeps.mark_room k (room (sym (ap is_held (keeps.blocks k)) ∙ held))
