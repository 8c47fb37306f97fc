-- What changes of files alone make of a tree, file by file.
use Rattle.std.proofs.Common.{◌≡◌, ◌≢◌, ◌∙◌, ◌⊎◌, ℕ, Bool, true, false, true≢false, ◌&&◌, ◌==◌, cond, List, [], ◌∷◌, ◌++◌, map, Option, Some, None, inl, inr, refl, sym, ap, ⊎_elim, zero-add}
use Rattle.std.specs.Prelude.{drop}
use Rattle.std.specs.List.{AllByRecursion, list_any}
use Rattle.std.proofs.lemmas.Bool.{and_parts, eqb-true, or_cases, cases_eq}
use Rattle.std.proofs.lemmas.List.{map-id}
use Rattle.zc_num.specs.Ordered.{value_at, Ascends}
use Rattle.zc_num.proofs.Entries.{value_of_put, value_of_other_put, value_of_taken, value_of_other_taken, ascends_put, ascends_taken}
use Rattle.zc_blkptr.specs.declared.ptr.Ptr.{Ptr}
use Rattle.zc_tree.specs.declared.tree.File.{File}
use Rattle.zc_tree.specs.declared.tree.Dataset.{Dataset}
use Rattle.zc_tree.specs.declared.tree.Tree.{Tree}
use Rattle.zc_plain.specs.declared.plain_pool.PlainBlock.{PlainBlock}
use Rattle.zc_plain.specs.declared.plain_pool.PlainBlock.TheVariants.{Hole, Made}
use Rattle.zc_plain.specs.declared.plain_pool.PlainFile.{PlainFile}
use Rattle.zc_plain.specs.declared.plain_pool.PlainPool.{PlainPool}
use Rattle.zc_plain.specs.PlainPool.{block_at}
use Rattle.zc_heart.specs.declared.changes.Now.{Now}
use Rattle.zc_heart.specs.declared.changes.Now.TheVariants as now
use Rattle.zc_heart.specs.declared.changes.Change.{Change}
use Rattle.zc_heart.specs.declared.changes.Change.TheVariants.{MakeDataset, DropDataset, MakeFile, DropFile, Size, Put}
use Rattle.zc_heart.specs.Changes.{Placing, changed, is_noted, left_after, first_of, nowhere, made_in, with_slot, number_of_file, file_of, slots_from}
use Rattle.zc_heart.specs.Meaning.{files_with, block_in, IsNow, stamp_placed, placed_by, placed_by_all}
use Rattle.zc_heart.proofs.SlotLaws.{slot_value, slots_ascend, slot_of_block, same_entries}

-- ---- what the log makes

-- a change that is of no file's size and blocks takes no pointer
free_change : (change : Change) (ptrs : List Ptr) (tree : Tree) → is_noted change ≡ false → (left_after change ptrs ≡ ptrs) × (changed change (first_of ptrs) tree ≡ changed change nowhere tree)
unfolding changed
free_change (MakeDataset id slot name) ptrs tree free = (refl, refl)
free_change (DropDataset id) ptrs tree free = (refl, refl)
free_change (MakeFile dataset file name) ptrs tree free = (refl, refl)
free_change (DropFile dataset file) ptrs tree free = (refl, refl)
free_change (Size dataset file size) ptrs tree free = absurd (true≢false free)
free_change (Put dataset file block now) ptrs tree free = absurd (true≢false free)

-- so the log is made first, and all pointers are left to what is after it
pub made_after_log : (log changes : List Change) (ptrs : List Ptr) (tree : Tree) → AllByRecursion (λ (change : Change). is_noted change ≡ false) log → made_in (log ++ changes) ptrs tree ≡ made_in changes ptrs (made_in log [] tree)
made_after_log [] changes ptrs tree free = refl
made_after_log (change ∷ log) changes ptrs tree free =
    let one = free_change change ptrs tree free.0 in
    let none = free_change change [] tree free.0 in
    ap (λ (left : List Ptr). made_in (log ++ changes) left (changed change (first_of ptrs) tree)) one.0
    ∙ ap (made_in (log ++ changes) ptrs) one.1
    ∙ made_after_log log changes ptrs (changed change nowhere tree) free.1
    ∙ ap (λ (left : List Ptr). made_in changes ptrs (made_in log left (changed change nowhere tree))) (sym none.0)

-- and it places nothing
pub none_placed : (placing : Placing) (pool : PlainPool) (log changes : List Change) → AllByRecursion (λ (change : Change). is_noted change ≡ false) log → placed_by_all placing pool (log ++ changes) ≡ placed_by_all placing pool changes
none_placed placing pool [] changes free = refl
none_placed placing pool (MakeDataset id slot name ∷ log) changes free = none_placed placing pool log changes free.1
none_placed placing pool (DropDataset id ∷ log) changes free = none_placed placing pool log changes free.1
none_placed placing pool (MakeFile dataset file name ∷ log) changes free = none_placed placing pool log changes free.1
none_placed placing pool (DropFile dataset file ∷ log) changes free = none_placed placing pool log changes free.1
none_placed placing pool (Size dataset file size ∷ log) changes free = absurd (true≢false free.0)
none_placed placing pool (Put dataset file block now ∷ log) changes free = absurd (true≢false free.0)

-- ---- file by file

-- the change is of the file with these numbers
abbrev pub is_of : (dataset file : ℕ) → Change → Bool
is_of d f (MakeDataset id slot name) = false
is_of d f (DropDataset id) = false
is_of d f (MakeFile dataset file name) = false
is_of d f (DropFile dataset file) = false
is_of d f (Size dataset file size) = (d == dataset) && (f == file)
is_of d f (Put dataset file block now) = (d == dataset) && (f == file)

-- what it makes of it
abbrev pub acted : Change → Ptr → File → File
acted (MakeDataset id slot name) ptr found = found
acted (DropDataset id) ptr found = found
acted (MakeFile dataset file name) ptr found = found
acted (DropFile dataset file) ptr found = found
acted (Size dataset file size) ptr found = record found { size = size }
acted (Put dataset file block now) ptr found = with_slot block now ptr found

abbrev pub one_file : Change → Ptr → (dataset file : ℕ) → File → File
one_file change ptr d f found = cond (is_of d f change) (acted change ptr found) found

-- what changes make of the file with these numbers
abbrev pub made_file : List Change → List Ptr → (dataset file : ℕ) → File → File
made_file [] ptrs d f found = found
made_file (change ∷ changes) ptrs d f found = made_file changes (left_after change ptrs) d f (one_file change (first_of ptrs) d f found)

-- each file of a dataset, and of a tree, by itself
abbrev pub each_of_files : (ℕ → ℕ → File → File) → Dataset → Dataset
each_of_files step found = record found { files = map (λ (file : File). step found.id file.id file) found.files }

abbrev pub each_file : (ℕ → ℕ → File → File) → Tree → Tree
each_file step tree = record tree { datasets = map (each_of_files step) tree.datasets }

-- a change of one file of one dataset is a change of each file
in_one_dataset : (here : Bool) (file : ℕ) (act : File → File) (found : Dataset)
    → cond here (record found { files = map (λ (item : File). cond (number_of_file item == file) (act item) item) found.files }) found ≡ record found { files = map (λ (item : File). cond (here && (item.id == file)) (act item) item) found.files }
in_one_dataset true file act found = refl
in_one_dataset false file act found = sym (ap (λ (files : List File). record found { files = files }) (map-id found.files))

one_changed : (change : Change) (ptr : Ptr) (tree : Tree) → is_noted change ≡ true → changed change ptr tree ≡ each_file (one_file change ptr) tree
unfolding changed
one_changed (MakeDataset id slot name) ptr tree noted = absurd (true≢false (sym noted))
one_changed (DropDataset id) ptr tree noted = absurd (true≢false (sym noted))
one_changed (MakeFile dataset file name) ptr tree noted = absurd (true≢false (sym noted))
one_changed (DropFile dataset file) ptr tree noted = absurd (true≢false (sym noted))
one_changed (Size dataset file size) ptr tree noted =
    λ i. record tree { datasets = map (λ (found : Dataset). in_one_dataset (found.id == dataset) file (λ (item : File). record item { size = size }) found i) tree.datasets }
one_changed (Put dataset file block now) ptr tree noted =
    λ i. record tree { datasets = map (λ (found : Dataset). in_one_dataset (found.id == dataset) file (with_slot block now ptr) found i) tree.datasets }

-- a file keeps its number and its name
slot_keeps : (block : ℕ) (now : Now) (ptr : Ptr) (found : File) → ((with_slot block now ptr found).id ≡ found.id) × ((with_slot block now ptr found).name ≡ found.name) × ((with_slot block now ptr found).size ≡ found.size)
slot_keeps block now.Hole ptr found = (refl, refl, refl)
slot_keeps block (now.Made bytes) ptr found = (refl, refl, refl)

acted_keeps : (change : Change) (ptr : Ptr) (found : File) → ((acted change ptr found).id ≡ found.id) × ((acted change ptr found).name ≡ found.name)
acted_keeps (MakeDataset id slot name) ptr found = (refl, refl)
acted_keeps (DropDataset id) ptr found = (refl, refl)
acted_keeps (MakeFile dataset file name) ptr found = (refl, refl)
acted_keeps (DropFile dataset file) ptr found = (refl, refl)
acted_keeps (Size dataset file size) ptr found = (refl, refl)
acted_keeps (Put dataset file block now) ptr found = ((slot_keeps block now ptr found).0, (slot_keeps block now ptr found).1)

one_keeps : (change : Change) (ptr : Ptr) (d f : ℕ) (found : File) → ((one_file change ptr d f found).id ≡ found.id) × ((one_file change ptr d f found).name ≡ found.name)
one_keeps change ptr d f found = by (is_of d f change) where
  by : (here : Bool) → ((cond here (acted change ptr found) found).id ≡ found.id) × ((cond here (acted change ptr found) found).name ≡ found.name)
  by true = acted_keeps change ptr found
  by false = (refl, refl)

pub made_keeps : (changes : List Change) (ptrs : List Ptr) (d f : ℕ) (found : File) → ((made_file changes ptrs d f found).id ≡ found.id) × ((made_file changes ptrs d f found).name ≡ found.name)
made_keeps [] ptrs d f found = (refl, refl)
made_keeps (change ∷ changes) ptrs d f found =
    let one = one_keeps change (first_of ptrs) d f found in
    let rest = made_keeps changes (left_after change ptrs) d f (one_file change (first_of ptrs) d f found) in
    (rest.0 ∙ one.0, rest.1 ∙ one.1)

-- two steps one after the other
then_files : (first second : ℕ → ℕ → File → File) → ((d f : ℕ) (file : File) → (first d f file).id ≡ file.id) → (d : ℕ) (files : List File)
    → map (λ (file : File). second d file.id file) (map (λ (file : File). first d file.id file) files) ≡ map (λ (file : File). second d file.id (first d file.id file)) files
then_files first second keeps d [] = refl
then_files first second keeps d (file ∷ files) =
    λ i. second d (keeps d file.id file i) (first d file.id file) ∷ then_files first second keeps d files i

then_each : (first second : ℕ → ℕ → File → File) → ((d f : ℕ) (file : File) → (first d f file).id ≡ file.id) → (datasets : List Dataset)
    → map (each_of_files second) (map (each_of_files first) datasets) ≡ map (each_of_files (λ d f file. second d f (first d f file))) datasets
then_each first second keeps [] = refl
then_each first second keeps (found ∷ datasets) =
    λ i. record found { files = then_files first second keeps found.id found.files i } ∷ then_each first second keeps datasets i

-- no step
none_each : (datasets : List Dataset) → datasets ≡ map (each_of_files (λ d f file. file)) datasets
none_each [] = refl
none_each (found ∷ datasets) = λ i. record found { files = sym (map-id found.files) i } ∷ none_each datasets i

-- what changes of files make of a tree
pub all_changed : (changes : List Change) (ptrs : List Ptr) (tree : Tree) → AllByRecursion (λ (change : Change). is_noted change ≡ true) changes → made_in changes ptrs tree ≡ each_file (made_file changes ptrs) tree
all_changed [] ptrs tree noted = ap (λ (datasets : List Dataset). record tree { datasets = datasets }) (none_each tree.datasets)
all_changed (change ∷ changes) ptrs tree noted =
    ap (made_in changes (left_after change ptrs)) (one_changed change (first_of ptrs) tree noted.0)
    ∙ all_changed changes (left_after change ptrs) (each_file (one_file change (first_of ptrs)) tree) noted.1
    ∙ ap (λ (datasets : List Dataset). record tree { datasets = datasets })
    (then_each (one_file change (first_of ptrs)) (made_file changes (left_after change ptrs)) (λ d f file. (one_keeps change (first_of ptrs) d f file).0) tree.datasets)

-- ---- one file

-- the change is of the file's size or of what stands at one of its blocks, as the pool has them
abbrev pub StandsNow : PlainPool → Change → Type 0
StandsNow pool (MakeDataset id slot name) = ⊥
StandsNow pool (DropDataset id) = ⊥
StandsNow pool (MakeFile dataset file name) = ⊥
StandsNow pool (DropFile dataset file) = ⊥
StandsNow pool (Size dataset file size) = (found : PlainFile) × (files_with dataset file pool ≡ found ∷ []) × (size ≡ found.size)
StandsNow pool (Put dataset file block now) = (found : PlainFile) × (files_with dataset file pool ≡ found ∷ []) × IsNow now (block_at block found.blocks)

-- a put at the block of the file, and a change of its size
abbrev pub is_put_at : (dataset file block : ℕ) → Change → Bool
is_put_at d f k (MakeDataset id slot name) = false
is_put_at d f k (DropDataset id) = false
is_put_at d f k (MakeFile dataset file name) = false
is_put_at d f k (DropFile dataset file) = false
is_put_at d f k (Size dataset file size) = false
is_put_at d f k (Put dataset file block now) = ((d == dataset) && (f == file)) && (k == block)

abbrev pub is_size_of : (dataset file : ℕ) → Change → Bool
is_size_of d f (MakeDataset id slot name) = false
is_size_of d f (DropDataset id) = false
is_size_of d f (MakeFile dataset file name) = false
is_size_of d f (DropFile dataset file) = false
is_size_of d f (Size dataset file size) = (d == dataset) && (f == file)
is_size_of d f (Put dataset file block now) = false

pub stands_noted : (pool : PlainPool) (change : Change) → StandsNow pool change → is_noted change ≡ true
stands_noted pool (MakeDataset id slot name) stands = absurd stands
stands_noted pool (DropDataset id) stands = absurd stands
stands_noted pool (MakeFile dataset file name) stands = absurd stands
stands_noted pool (DropFile dataset file) stands = absurd stands
stands_noted pool (Size dataset file size) stands = refl
stands_noted pool (Put dataset file block now) stands = refl

-- what a put leaves at its block
abbrev pub slot_put : Now → Ptr → Option Ptr
slot_put now.Hole ptr = None
slot_put (now.Made bytes) ptr = Some ptr

-- the next pointer is where the block stands that is put, and the others are left
put_where : (placing : Placing) (pool : PlainPool) (d f block : ℕ) (now : Now) (ptrs : List Ptr) (found : PlainFile) → files_with d f pool ≡ found ∷ [] → IsNow now (block_at block found.blocks)
    → (slot_value placing (block_at block found.blocks) ≡ slot_put now (first_of (placed_by placing pool (Put d f block now) ++ ptrs)))
    × (left_after (Put d f block now) (placed_by placing pool (Put d f block now) ++ ptrs) ≡ ptrs)
put_where placing pool d f block now.Hole ptrs found only is = (hole (block_at block found.blocks) is, refl) where
  hole : (at : PlainBlock) → IsNow now.Hole at → slot_value placing at ≡ None
  hole Hole is = refl
  hole (Made entry index bytes) is = absurd is
put_where placing pool d f block (now.Made bytes) ptrs found only is =
    let placed : stamp_placed placing (block_in (files_with d f pool) block) ≡ stamp_placed placing (block_at block found.blocks) = ap (λ (files : List PlainFile). stamp_placed placing (block_in files block)) only in
    let there = made (block_at block found.blocks) is in
    (there.0 ∙ ap (λ (front : List Ptr). some_ptr (first_of (front ++ ptrs))) (sym placed), ap (λ (front : List Ptr). drop 1 (front ++ ptrs)) placed ∙ there.1)
  where
    some_ptr : Ptr → Option Ptr
    some_ptr ptr = Some ptr

    made : (at : PlainBlock) → IsNow (now.Made bytes) at → (slot_value placing at ≡ Some (first_of (stamp_placed placing at ++ ptrs))) × (drop 1 (stamp_placed placing at ++ ptrs) ≡ ptrs)
    made Hole is = absurd is
    made (Made entry index held) is = (refl, refl)

-- the pointers that are left after a change
left_then : (placing : Placing) (pool : PlainPool) (change : Change) (ptrs : List Ptr) → StandsNow pool change → left_after change (placed_by placing pool change ++ ptrs) ≡ ptrs
left_then placing pool (MakeDataset id slot name) ptrs stands = absurd stands
left_then placing pool (DropDataset id) ptrs stands = absurd stands
left_then placing pool (MakeFile dataset file name) ptrs stands = absurd stands
left_then placing pool (DropFile dataset file) ptrs stands = absurd stands
left_then placing pool (Size dataset file size) ptrs stands = refl
left_then placing pool (Put dataset file block now) ptrs stands = (put_where placing pool dataset file block now ptrs stands.0 stands.1 stands.2).1

-- the slots of a file after a put
slots_put : (block : ℕ) (now : Now) (ptr : Ptr) (found : File) → Ascends found.slots
    → (value_at block (with_slot block now ptr found).slots ≡ slot_put now ptr) × ((k : ℕ) → k ≢ block → value_at k (with_slot block now ptr found).slots ≡ value_at k found.slots) × Ascends (with_slot block now ptr found).slots
slots_put block now.Hole ptr found rise = (value_of_taken block found.slots rise, λ k other. value_of_other_taken k block found.slots other, ascends_taken block found.slots rise)
slots_put block (now.Made bytes) ptr found rise = (value_of_put block ptr found.slots, λ k other. value_of_other_put k block ptr found.slots other, ascends_put block ptr found.slots rise)

-- two files of one number are one
one_file_there : (found file : PlainFile) → found ∷ [] ≡ file ∷ [] → found ≡ file
one_file_there found file same = cc

-- the slots ascend after a change
rises_still : (change : Change) (ptr : Ptr) (d f : ℕ) (found : File) → Ascends found.slots → Ascends (one_file change ptr d f found).slots
rises_still change ptr d f found rise = by (is_of d f change) change where
  by : (here : Bool) (change : Change) → Ascends (cond here (acted change ptr found) found).slots
  by false change = rise
  by true (MakeDataset id slot name) = rise
  by true (DropDataset id) = rise
  by true (MakeFile dataset file name) = rise
  by true (DropFile dataset file) = rise
  by true (Size dataset file size) = rise
  by true (Put dataset file block now) = (slots_put block now ptr found rise).2

module _ (placing : Placing) (pool : PlainPool) (d f : ℕ) (file : PlainFile) (only : files_with d f pool ≡ file ∷ []) where
  -- the file has at the block what stands there
  abbrev HasSlot : ℕ → File → Type 0
  HasSlot k found = value_at k found.slots ≡ slot_value placing (block_at k file.blocks)

  -- a file of the tree has it after a change that puts there, and keeps it
  step_slot : (k : ℕ) (change : Change) (ptrs : List Ptr) (found : File) → StandsNow pool change → Ascends found.slots → HasSlot k found ⊎ (is_put_at d f k change ≡ true)
      → HasSlot k (one_file change (first_of (placed_by placing pool change ++ ptrs)) d f found)
  step_slot k (MakeDataset id slot name) ptrs found stands rise there = absurd stands
  step_slot k (DropDataset id) ptrs found stands rise there = absurd stands
  step_slot k (MakeFile dataset file name) ptrs found stands rise there = absurd stands
  step_slot k (DropFile dataset file) ptrs found stands rise there = absurd stands
  step_slot k (Size dataset other size) ptrs found stands rise there = by ((d == dataset) && (f == other)) (⊎_elim (λ (has : HasSlot k found). has) (λ (no : false ≡ true). absurd (true≢false (sym no))) there) where
    by : (here : Bool) → HasSlot k found → HasSlot k (cond here (record found { size = size }) found)
    by true has = has
    by false has = has
  step_slot k (Put dataset other block now) ptrs found stands rise there =
      by ((d == dataset) && (f == other)) refl
    where
      ptr : Ptr
      ptr = first_of (placed_by placing pool (Put dataset other block now) ++ ptrs)

      kept : HasSlot k found ⊎ (is_put_at d f k (Put dataset other block now) ≡ true) → (is_put_at d f k (Put dataset other block now) ≡ true → ⊥) → HasSlot k found
      kept there refuses = ⊎_elim (λ (has : HasSlot k found). has) (λ (put : is_put_at d f k (Put dataset other block now) ≡ true). absurd (refuses put)) there

      here_is : (d ≡ dataset) × (f ≡ other) → k ≡ block → HasSlot k (with_slot block now ptr found)
      here_is same at =
          let one : stands.0 ≡ file = one_file_there stands.0 file (sym stands.1 ∙ (λ i. files_with (sym same.0 i) (sym same.1 i) pool) ∙ only) in
          ap (λ (n : ℕ). value_at n (with_slot block now ptr found).slots) at
          ∙ (slots_put block now ptr found rise).0
          ∙ sym (put_where placing pool dataset other block now ptrs stands.0 stands.1 stands.2).0
          ∙ (λ i. slot_value placing (block_at (sym at i) (one i).blocks))

      in_it : (d ≡ dataset) × (f ≡ other) → HasSlot k (with_slot block now ptr found)
      in_it same =
          ⊎_elim
          (λ (at : k ≡ block). here_is same at)
          (λ (past : k ≢ block). (slots_put block now ptr found rise).1 k past ∙ kept there (λ put. past (eqb-true k block (and_parts ((d == dataset) && (f == other)) (k == block) put).1)))
          (cases_eq k block)

      by : (here : Bool) → ((d == dataset) && (f == other)) ≡ here → HasSlot k (cond here (with_slot block now ptr found) found)
      by true is = let both = and_parts (d == dataset) (f == other) is in in_it (eqb-true d dataset both.0, eqb-true f other both.1)
      by false is = kept there (λ put. true≢false (sym (and_parts ((d == dataset) && (f == other)) (k == block) put).0 ∙ is))

  pub made_slot : (k : ℕ) (changes : List Change) (found : File) → AllByRecursion (StandsNow pool) changes → Ascends found.slots → HasSlot k found ⊎ (list_any (is_put_at d f k) changes ≡ true)
      → HasSlot k (made_file changes (placed_by_all placing pool changes) d f found)
  made_slot k [] found stand rise there = ⊎_elim (λ (has : HasSlot k found). has) (λ (no : false ≡ true). absurd (true≢false (sym no))) there
  made_slot k (change ∷ changes) found stand rise there =
      let rest = placed_by_all placing pool changes in
      let next = one_file change (first_of (placed_by placing pool change ++ rest)) d f found in
      let go : HasSlot k next ⊎ (list_any (is_put_at d f k) changes ≡ true) → HasSlot k (made_file changes rest d f next) = made_slot k changes next stand.1 (rises_still change (first_of (placed_by placing pool change ++ rest)) d f found rise) in
      ap (λ (left : List Ptr). value_at k (made_file changes left d f next).slots) (left_then placing pool change rest stand.0)
      ∙ ⊎_elim
      (λ (has : HasSlot k found). go (inl (step_slot k change rest found stand.0 rise (inl has))))
      (λ (some : list_any (is_put_at d f k) (change ∷ changes) ≡ true). ⊎_elim
      (λ (put : is_put_at d f k change ≡ true). go (inl (step_slot k change rest found stand.0 rise (inr put))))
      (λ (later : list_any (is_put_at d f k) changes ≡ true). go (inr later))
      (or_cases (is_put_at d f k change) (list_any (is_put_at d f k) changes) some))
      there

  pub made_rises : (changes : List Change) (ptrs : List Ptr) (found : File) → Ascends found.slots → Ascends (made_file changes ptrs d f found).slots
  made_rises [] ptrs found rise = rise
  made_rises (change ∷ changes) ptrs found rise =
      made_rises changes (left_after change ptrs) (one_file change (first_of ptrs) d f found) (rises_still change (first_of ptrs) d f found rise)

  -- the same of the file's size
  step_size : (change : Change) (ptr : Ptr) (found : File) → StandsNow pool change → (found.size ≡ file.size) ⊎ (is_size_of d f change ≡ true) → (one_file change ptr d f found).size ≡ file.size
  step_size (MakeDataset id slot name) ptr found stands there = absurd stands
  step_size (DropDataset id) ptr found stands there = absurd stands
  step_size (MakeFile dataset file name) ptr found stands there = absurd stands
  step_size (DropFile dataset file) ptr found stands there = absurd stands
  step_size (Size dataset other size) ptr found stands there = by ((d == dataset) && (f == other)) refl where
    by : (here : Bool) → ((d == dataset) && (f == other)) ≡ here → (cond here (record found { size = size }) found).size ≡ file.size
    by true is =
        let both = and_parts (d == dataset) (f == other) is in
        let one : stands.0 ≡ file = one_file_there stands.0 file (sym stands.1 ∙ (λ i. files_with (sym (eqb-true d dataset both.0) i) (sym (eqb-true f other both.1) i) pool) ∙ only) in
        stands.2 ∙ ap (λ (one : PlainFile). one.size) one
    by false is = ⊎_elim (λ (has : found.size ≡ file.size). has) (λ (set : ((d == dataset) && (f == other)) ≡ true). absurd (true≢false (sym set ∙ is))) there
  step_size (Put dataset other block now) ptr found stands there =
      by ((d == dataset) && (f == other)) (⊎_elim (λ (has : found.size ≡ file.size). has) (λ (no : false ≡ true). absurd (true≢false (sym no))) there)
    where
      by : (here : Bool) → found.size ≡ file.size → (cond here (with_slot block now ptr found) found).size ≡ file.size
      by true has = (slot_keeps block now ptr found).2 ∙ has
      by false has = has

  pub made_size : (changes : List Change) (ptrs : List Ptr) (found : File) → AllByRecursion (StandsNow pool) changes → (found.size ≡ file.size) ⊎ (list_any (is_size_of d f) changes ≡ true)
      → (made_file changes ptrs d f found).size ≡ file.size
  made_size [] ptrs found stand there = ⊎_elim (λ (has : found.size ≡ file.size). has) (λ (no : false ≡ true). absurd (true≢false (sym no))) there
  made_size (change ∷ changes) ptrs found stand there =
      let next = one_file change (first_of ptrs) d f found in
      let go : (next.size ≡ file.size) ⊎ (list_any (is_size_of d f) changes ≡ true) → (made_file changes (left_after change ptrs) d f next).size ≡ file.size = made_size changes (left_after change ptrs) next stand.1 in
      ⊎_elim
      (λ (has : found.size ≡ file.size). go (inl (step_size change (first_of ptrs) found stand.0 (inl has))))
      (λ (some : list_any (is_size_of d f) (change ∷ changes) ≡ true). ⊎_elim
      (λ (set : is_size_of d f change ≡ true). go (inl (step_size change (first_of ptrs) found stand.0 (inr set))))
      (λ (later : list_any (is_size_of d f) changes ≡ true). go (inr later))
      (or_cases (is_size_of d f change) (list_any (is_size_of d f) changes) some))
      there

  -- a file that the changes cover where it was another is made the file that stands
  pub made_file_is : (changes : List Change) (before : PlainFile) → AllByRecursion (StandsNow pool) changes → before.id ≡ file.id → before.name ≡ file.name
      → (before.size ≡ file.size) ⊎ (list_any (is_size_of d f) changes ≡ true)
      → ((k : ℕ) → (block_at k before.blocks ≡ block_at k file.blocks) ⊎ (list_any (is_put_at d f k) changes ≡ true))
      → made_file changes (placed_by_all placing pool changes) d f (file_of placing before) ≡ file_of placing file
  made_file_is changes before stand id name size blocks =
      let ptrs = placed_by_all placing pool changes in
      let made = made_file changes ptrs d f (file_of placing before) in
      let keeps = made_keeps changes ptrs d f (file_of placing before) in
      let size_is : made.size ≡ file.size = made_size changes ptrs (file_of placing before) stand size in
      let slots_are : made.slots ≡ slots_from placing 0 file.blocks =
      same_entries made.slots (slots_from placing 0 file.blocks) (made_rises changes ptrs (file_of placing before) (slots_ascend placing 0 before.blocks)) (slots_ascend placing 0 file.blocks)
      (λ k. made_slot k changes (file_of placing before) stand (slots_ascend placing 0 before.blocks) (at k (blocks k)) ∙ sym (slot_of_block placing k 0 k file.blocks (sym (zero-add k)))) in
      λ i. record { id = (keeps.0 ∙ id) i; name = (keeps.1 ∙ name) i; size = size_is i; slots = slots_are i }
    where
      at : (k : ℕ) → (block_at k before.blocks ≡ block_at k file.blocks) ⊎ (list_any (is_put_at d f k) changes ≡ true) → HasSlot k (file_of placing before) ⊎ (list_any (is_put_at d f k) changes ≡ true)
      at k either =
          ⊎_elim
          (λ (same : block_at k before.blocks ≡ block_at k file.blocks). inl (slot_of_block placing k 0 k before.blocks (sym (zero-add k)) ∙ ap (slot_value placing) same))
          (λ (put : list_any (is_put_at d f k) changes ≡ true). inr put)
          either
