-- The heart of a tree that was read stands for the plain pool that was found.
use Rattle.std.proofs.Common.{◌≡◌, ◌∙◌, ℕ, ◌^◌, ◌<◌, ◌≤◌, true, false, ◌&&◌, ◌==◌, List, [], ◌∷◌, ◌++◌, map, length, get_or, count_by, Option, Some, None, Result, Ok, Err, IfOk, refl, sym, ap, subst, ⊎_elim, arith}
use Rattle.std.specs.Prelude.{flat_map, sum_by, Contains}
use Rattle.std.specs.List.{AllByRecursion, list_any}
use Rattle.std.specs.Option.{option_map}
use Rattle.std.specs.declared.alloc.AllocError.{AllocError}
use Rattle.std.proofs.lemmas.Bool.{cases_lt}
use Rattle.std.proofs.lemmas.List.{map-append, length-append, length-map, get_or_past}
use Rattle.std.proofs.lemmas.List.Sums.{sum_by-cons}
use Rattle.std.proofs.lemmas.Option.{slice_get_within, get_or_from_slice_get}
use Rattle.zc_num.specs.Words.{each}
use Rattle.zc_num.specs.Ordered.{value_at}
use Rattle.zc_num.specs.declared.limits.Limits.{Limits}
use Rattle.zc_num.proofs.Each.{length_each, item_of_each, each_same}
use Rattle.zc_blkptr.specs.declared.ptr.Ptr.{Ptr}
use Rattle.zc_tree.specs.declared.tree.File.{File}
use Rattle.zc_tree.specs.declared.tree.Dataset.{Dataset}
use Rattle.zc_tree.specs.declared.tree.Tree.{Tree}
use Rattle.zc_tree.specs.Spelling.{AscendFrom, IsEntry, IsFile, IsDataset}
use Rattle.zc_tree.specs.Reach.{pointers_of_file, pointers_of_files, pointers_of_datasets, pointers_of_tree}
use Rattle.zc_plain.specs.declared.plain_pool.PlainBlock.{PlainBlock}
use Rattle.zc_plain.specs.declared.plain_pool.PlainBlock.TheVariants.{Hole, Made}
use Rattle.zc_plain.specs.declared.plain_pool.PlainFile.{PlainFile}
use Rattle.zc_plain.specs.declared.plain_pool.PlainDataset.{PlainDataset}
use Rattle.zc_plain.specs.declared.plain_pool.PlainPool.{PlainPool}
use Rattle.zc_plain.specs.PlainPool.{blocks_of_size, bytes_of_block, made_count, pointers_in}
use Rattle.zc_plain.specs.Charge.{is_stamp, with_each, stamp_of, stamps_of, held_by}
use Rattle.zc_plain.specs.Answer.{most_files, most_bytes}
use Rattle.zc_plain.specs.IsPlain.{IsPlainFile, IsPlainDataset, IsPlain}
use Rattle.zc_plain.proofs.Bytes.{length_zeros}
use Rattle.zc_plain.proofs.Stamps.{few_stamps}
use Rattle.zc_plain.proofs.Together.{block_by_place}
use Rattle.zc_heart.specs.declared.opening.HeartBlock.{HeartBlock}
use Rattle.zc_heart.specs.declared.file.HeldBlock.{HeldBlock}
use Rattle.zc_heart.specs.declared.file.HeartFile.{HeartFile}
use Rattle.zc_heart.specs.declared.directory.Named.{Named}
use Rattle.zc_heart.specs.declared.pool_core.HeartDataset.{HeartDataset}
use Rattle.zc_heart.specs.declared.pool_core.Core.{Core}
use Rattle.zc_heart.specs.declared.stamps.Stamps.{Stamps}
use Rattle.zc_heart.specs.Changes.{Where}
use Rattle.zc_heart.specs.Core.{plain_block, plain_blocks, plain_file, plain_dataset, pool_of, AreApart, IsUntouched, IsHeartFile, IsMadeBy, IsStamped, IsDatasetOfCore, IsCore}
use Rattle.zc_heart.specs.Stamps.{AreCounted, files_at, holds_number, IsAllKnown}
use Rattle.zc_heart.specs.Meaning.{bytes_at, found_block, found_file, found_dataset, found_pool, IsZeroPast, MayOpen, IsOpened}
use Rattle.zc_heart.specs.Noted.{AreWhere}
use Rattle.zc_heart.specs.Opening.{number_of, stamp_at_ptr, HasRead, AreWhole, IsThere, read_block, with_slots, read_file, read_named, read_dataset, read_core, HasBlocks, MayRead}
use Rattle.zc_heart.proofs.ListLaws.{each_of, each_of_two, all_standing, all_at, all_back, all_mapped}
use Rattle.zc_heart.proofs.RowLaws.{row_of_each, put_in_order, value_mapped, value_has, none_past, made_by_stamps}
use Rattle.zc_heart.proofs.FoundBlocks.{whole_at, is_there}
use Rattle.zc_heart.proofs.RiseLaws.{numbered_images, files_in_order, may_follow, datasets_in_order, slots_apart, each_dataset}
use Rattle.zc_heart.proofs.SealingLaws.{not_made}
use Rattle.zc_heart.proofs.SettledLaws.{datasets_before_themselves}

-- ---- the pointers of a tree, file by file

all_split : {X : Type 0} (P : X → Type 0) (xs ys : List X) → AllByRecursion P (xs ++ ys) → AllByRecursion P xs × AllByRecursion P ys
all_split P [] ys all = (tt, all)
all_split P (x ∷ xs) ys all = let rest = all_split P xs ys all.1 in ((all.0, rest.0), rest.1)

abbrev OfSlots : (Ptr → Type 0) → File → Type 0
OfSlots P file = AllByRecursion (λ (slot : ℕ × Ptr). P slot.1) file.slots

of_files : (P : Ptr → Type 0) (files : List File) → AllByRecursion P (pointers_of_files files) → AllByRecursion (OfSlots P) files
of_files P [] all = tt
of_files P (file ∷ files) all = let parts = all_split P (pointers_of_file file) (pointers_of_files files) all in (all_back P (λ (slot : ℕ × Ptr). slot.1) file.slots parts.0, of_files P files parts.1)

of_datasets : (P : Ptr → Type 0) (datasets : List Dataset) → AllByRecursion P (pointers_of_datasets datasets) → AllByRecursion (λ (dataset : Dataset). AllByRecursion (OfSlots P) dataset.files) datasets
of_datasets P [] all = tt
of_datasets P (dataset ∷ datasets) all = let parts = all_split P (pointers_of_files dataset.files) (pointers_of_datasets datasets) all in (of_files P dataset.files parts.0, of_datasets P datasets parts.1)

-- what holds of each item that is among some
all_contained : {X : Type 0} (P : X → Type 0) (xs : List X) → ((x : X) → Contains xs x → P x) → AllByRecursion P xs
all_contained P xs holds = all_standing P xs (λ place x stands. holds x (place, slice_get_within xs place x stands, get_or_from_slice_get xs place x x stands))

-- ---- one file

-- a slot of a file of this size: its block lies before the size, and is among the blocks
record ReadSlot (blocks : List HeartBlock) (size : ℕ) (slot : ℕ × Ptr) : Type 0 where
  before : slot.0 < blocks_of_size size
  narrow : slot.1.place < 2 ^ 32
  whole : length (bytes_at blocks slot.1.device slot.1.place) ≡ 4096

record ReadFile (blocks : List HeartBlock) (file : File) : Type 0 where
  slots : AllByRecursion (ReadSlot blocks file.size) file.slots
  ascend : AscendFrom 0 (map (λ (slot : ℕ × Ptr). slot.0) file.slots)

read_it : (devices places next : ℕ) (blocks : List HeartBlock) (file : File) → IsFile devices places next file → OfSlots (λ (ptr : Ptr). length (bytes_at blocks ptr.device ptr.place) ≡ 4096) file → ReadFile blocks file
read_it devices places next blocks file is whole = record {
  slots = each_of_two (IsEntry devices places file.size) (λ (slot : ℕ × Ptr). length (bytes_at blocks slot.1.device slot.1.place) ≡ 4096) (ReadSlot blocks file.size) file.slots
      (λ slot entry bytes. record { before = let low = entry.before_size in omega (arith, low); narrow = entry.pointer.widths.place; whole = bytes }) is.entries whole;
  ascend = is.blocks_ascend;
}

slots_before : (blocks : List HeartBlock) (file : File) → ReadFile blocks file → AllByRecursion (λ (slot : ℕ × Ptr). slot.0 < blocks_of_size file.size) file.slots
slots_before blocks file is = each_of (ReadSlot blocks file.size) (λ (slot : ℕ × Ptr). slot.0 < blocks_of_size file.size) file.slots (λ slot read. read.before) is.slots

-- its blocks are there
has_blocks : (blocks : List HeartBlock) (found : List (ℕ × List ℕ)) (file : File) → HasRead found blocks → ReadFile blocks file → HasBlocks found file
has_blocks blocks found file read is =
    each_of (ReadSlot blocks file.size) (λ (slot : ℕ × Ptr). IsThere found slot.1) file.slots (λ slot one. is_there blocks found slot.1 read one.narrow one.whole) is.slots

-- what it holds at a block is what was found there
block_read : (blocks : List HeartBlock) (found : List (ℕ × List ℕ)) (file : File) → HasRead found blocks → ReadFile blocks file → (k : ℕ) → plain_block (value_at k (read_file found file).blocks) ≡ found_block blocks (value_at k file.slots)
block_read blocks found file read is k =
    ap (λ (entries : List (ℕ × Option HeldBlock)). plain_block (value_at k entries))
    (put_in_order (λ (ptr : Ptr). held ptr) (with_slots found) (λ front. refl) (λ front slot slots. refl) 0 [] file.slots tt is.ascend)
    ∙ ap plain_block (value_mapped (λ (ptr : Ptr). held ptr) k file.slots)
    ∙ at (value_at k file.slots) (λ ptr there. value_has (λ (one : Ptr). one.place < 2 ^ 32) k file.slots ptr (each_of (ReadSlot blocks file.size) (λ (slot : ℕ × Ptr). slot.1.place < 2 ^ 32) file.slots (λ slot one. one.narrow) is.slots) there)
  where
    held : Ptr → Option HeldBlock
    held ptr = Some (read_block found ptr)

    at : (slot : Option Ptr) → ((ptr : Ptr) → slot ≡ Some ptr → ptr.place < 2 ^ 32) → plain_block (option_map (λ (ptr : Ptr). held ptr) slot) ≡ found_block blocks slot
    at None narrow = refl
    at (Some ptr) narrow = ap (Made 0 (number_of ptr)) (read ptr.device ptr.place (narrow ptr refl))

file_read : (blocks : List HeartBlock) (found : List (ℕ × List ℕ)) (file : File) → HasRead found blocks → ReadFile blocks file → plain_file (read_named found file) ≡ found_file blocks file
file_read blocks found file read is =
    let same = each_same (blocks_of_size file.size) (λ k. plain_block (value_at k (read_file found file).blocks)) (λ k. found_block blocks (value_at k file.slots)) (λ k within. block_read blocks found file read is k) in
    λ i. record { id = file.id; name = file.name; size = file.size; blocks = same i }

-- its stamps are those of its pointers
single_stamps : (slots : List (ℕ × Ptr)) → flat_map (λ (slot : ℕ × Ptr). stamp_at_ptr slot.1 ∷ []) slots ≡ map stamp_at_ptr (map (λ (slot : ℕ × Ptr). slot.1) slots)
single_stamps [] = refl
single_stamps (slot ∷ slots) = ap (λ (rest : List (ℕ × ℕ)). stamp_at_ptr slot.1 ∷ rest) (single_stamps slots)

stamps_found : (blocks : List HeartBlock) (file : File) → ReadFile blocks file → flat_map stamp_of (found_file blocks file).blocks ≡ map stamp_at_ptr (pointers_of_file file)
stamps_found blocks file is = row_of_each stamp_of (found_block blocks) refl (blocks_of_size file.size) file.slots is.ascend (slots_before blocks file is) ∙ single_stamps file.slots

-- it is a heart file
heart_file_read : (blocks : List HeartBlock) (found : List (ℕ × List ℕ)) (file : File) → HasRead found blocks → ReadFile blocks file → IsHeartFile (read_file found file)
heart_file_read blocks found file read is = record {
  ends = λ k past.
      block_read blocks found file read is k
      ∙ ap (found_block blocks) (none_past k file.slots (each_of (λ (slot : ℕ × Ptr). slot.0 < blocks_of_size file.size) (λ (slot : ℕ × Ptr). slot.0 < k) file.slots (λ slot before. omega (arith, past)) (slots_before blocks file is)));
  pointers =
      sym (ap made_count (λ i. (file_read blocks found file read is i).blocks)
      ∙ made_by_stamps (found_file blocks file).blocks
      ∙ ap length (stamps_found blocks file is)
      ∙ length-map (pointers_of_file file) stamp_at_ptr ∙ length-map file.slots (λ (slot : ℕ × Ptr). slot.1));
}

-- and what was found is a plain file
found_plain : (blocks : List HeartBlock) (file : File) → ReadFile blocks file → IsZeroPast (found_file blocks file) → IsPlainFile (found_file blocks file)
found_plain blocks file is zero_past = record {
  blocks = length_each (blocks_of_size file.size) f;
  whole = λ k. ap (λ (block : PlainBlock). length (bytes_of_block block)) (block_by_place (each (blocks_of_size file.size) f) k) ∙ at k;
  zero_past = zero_past;
}
  where
    f : ℕ → PlainBlock
    f k = found_block blocks (value_at k file.slots)

    whole_block : (slot : Option Ptr) → ((ptr : Ptr) → slot ≡ Some ptr → length (bytes_at blocks ptr.device ptr.place) ≡ 4096) → length (bytes_of_block (found_block blocks slot)) ≡ 4096
    whole_block None whole = length_zeros
    whole_block (Some ptr) whole = whole ptr refl

    at : (k : ℕ) → length (bytes_of_block (get_or (each (blocks_of_size file.size) (λ n. found_block blocks (value_at n file.slots))) k Hole)) ≡ 4096
    at k =
        let g : ℕ → PlainBlock = λ n. found_block blocks (value_at n file.slots) in
        ⊎_elim
        (λ (within : k < blocks_of_size file.size).
        ap (λ (block : PlainBlock). length (bytes_of_block block)) (item_of_each (blocks_of_size file.size) g k Hole within)
        ∙ whole_block (value_at k file.slots) (λ ptr there. value_has (λ (one : Ptr). length (bytes_at blocks one.device one.place) ≡ 4096) k file.slots ptr
        (each_of (ReadSlot blocks file.size) (λ (slot : ℕ × Ptr). length (bytes_at blocks slot.1.device slot.1.place) ≡ 4096) file.slots (λ slot one. one.whole) is.slots) there))
        (λ (past : blocks_of_size file.size ≤ k).
        ap (λ (block : PlainBlock). length (bytes_of_block block)) (get_or_past (each (blocks_of_size file.size) g) k Hole (let long = length_each (blocks_of_size file.size) g in omega (arith, long, past))) ∙ length_zeros)
        (cases_lt k (blocks_of_size file.size))

-- no entry made a block of it
stamped_file : (blocks : List HeartBlock) (file : File) → AllByRecursion (IsMadeBy 0) (found_file blocks file).blocks
stamped_file blocks file = each_holds (blocks_of_size file.size) where
  made_first : (slot : Option Ptr) → IsMadeBy 0 (found_block blocks slot)
  made_first None = tt
  made_first (Some ptr) = omega arith

  each_holds : (n : ℕ) → AllByRecursion (IsMadeBy 0) (each n (λ k. found_block blocks (value_at k file.slots)))
  each_holds n = all_standing (IsMadeBy 0) (each n (λ k. found_block blocks (value_at k file.slots))) (λ place block stands.
      let within = slice_get_within (each n (λ k. found_block blocks (value_at k file.slots))) place block stands in
      let long = length_each n (λ k. found_block blocks (value_at k file.slots)) in
      subst (IsMadeBy 0) (sym (item_of_each n (λ k. found_block blocks (value_at k file.slots)) place block (omega (arith, within, long))) ∙ get_or_from_slice_get (each n (λ k. found_block blocks (value_at k file.slots))) place block block stands)
      (made_first (value_at place file.slots)))

-- ---- the files of a dataset

files_read : (blocks : List HeartBlock) (found : List (ℕ × List ℕ)) (files : List File) → HasRead found blocks → AllByRecursion (ReadFile blocks) files → map plain_file (map (read_named found) files) ≡ map (found_file blocks) files
files_read blocks found [] read are = refl
files_read blocks found (file ∷ files) read are = λ i. file_read blocks found file read are.0 i ∷ files_read blocks found files read are.1 i

stamps_of_files : (blocks : List HeartBlock) (files : List File) → AllByRecursion (ReadFile blocks) files
    → flat_map (λ (file : PlainFile). flat_map stamp_of file.blocks) (map (found_file blocks) files) ≡ map stamp_at_ptr (pointers_of_files files)
stamps_of_files blocks [] are = refl
stamps_of_files blocks (file ∷ files) are =
    (λ i. stamps_found blocks file are.0 i ++ stamps_of_files blocks files are.1 i) ∙ sym (map-append stamp_at_ptr (pointers_of_file file) (pointers_of_files files))

pointers_of_read : (blocks : List HeartBlock) (found : List (ℕ × List ℕ)) (files : List File) → HasRead found blocks → AllByRecursion (ReadFile blocks) files
    → length (pointers_of_files files) ≡ sum_by (λ (file : PlainFile). made_count file.blocks) (map plain_file (map (read_named found) files))
pointers_of_read blocks found [] read are = refl
pointers_of_read blocks found (file ∷ files) read are =
    let first : length file.slots ≡ made_count (plain_blocks (read_file found file)) = (heart_file_read blocks found file read are.0).pointers in
    let rest = pointers_of_read blocks found files read are.1 in
    omega (
      arith,
      first,
      rest,
      length-append (pointers_of_file file) (pointers_of_files files),
      length-map file.slots (λ (slot : ℕ × Ptr). slot.1),
      sum_by-cons (λ (one : PlainFile). made_count one.blocks) (plain_file (read_named found file)) (map plain_file (map (read_named found) files)),
    )

dataset_read : (blocks : List HeartBlock) (found : List (ℕ × List ℕ)) (dataset : Dataset) → HasRead found blocks → AllByRecursion (ReadFile blocks) dataset.files → plain_dataset (read_dataset found dataset) ≡ found_dataset blocks dataset
dataset_read blocks found dataset read are = λ i. record { id = dataset.id; name = dataset.name; next_file = dataset.next_file; files = files_read blocks found dataset.files read are i }

untouched_read : (found : List (ℕ × List ℕ)) (files : List File) → AllByRecursion IsUntouched (map (read_named found) files)
untouched_read found [] = tt
untouched_read found (file ∷ files) = ((refl, λ k. refl), untouched_read found files)

dataset_of_core : (devices places group next : ℕ) (blocks : List HeartBlock) (found : List (ℕ × List ℕ)) (dataset : Dataset) → HasRead found blocks → IsDataset devices places group next dataset → AllByRecursion (ReadFile blocks) dataset.files
    → IsDatasetOfCore (read_dataset found dataset)
unfolding pointers_in
dataset_of_core devices places group next blocks found dataset read is are = record {
  area = is.in_slot;
  pointers = pointers_of_read blocks found dataset.files read are;
  listed = each_of IsUntouched (λ (file : Named HeartFile). holds_number file.id [] ≡ false → IsUntouched file) (map (read_named found) dataset.files) (λ file untouched none. untouched) (untouched_read found dataset.files);
  files = all_mapped (λ (file : Named HeartFile). IsHeartFile file.value) (read_named found) dataset.files (each_of (ReadFile blocks) (λ (file : File). IsHeartFile (read_file found file)) dataset.files (λ file one. heart_file_read blocks found file read one) are);
}

-- ---- the whole

module _ (limits : Limits) (tree : Tree) (blocks : List HeartBlock) (may : MayOpen limits tree blocks) (whole : AreWhole blocks) where
  are_datasets : AllByRecursion (IsDataset limits.devices limits.places tree.group tree.next_dataset) tree.datasets
  are_datasets = each_dataset limits.devices limits.places tree.group tree.next_dataset [] tree.datasets may.datasets

  -- each block of the tree is there, and whole
  pointers_whole : AllByRecursion (λ (ptr : Ptr). length (bytes_at blocks ptr.device ptr.place) ≡ 4096) (pointers_of_tree tree)
  pointers_whole =
      each_of (λ (ptr : Ptr). list_any (λ (block : HeartBlock). (block.device == ptr.device) && (block.place == ptr.place)) blocks ≡ true) (λ (ptr : Ptr). length (bytes_at blocks ptr.device ptr.place) ≡ 4096) (pointers_of_tree tree)
      (λ ptr there. whole_at blocks ptr.device ptr.place whole there) may.there

  are_read : AllByRecursion (λ (dataset : Dataset). AllByRecursion (ReadFile blocks) dataset.files) tree.datasets
  are_read =
      each_of_two (IsDataset limits.devices limits.places tree.group tree.next_dataset) (λ (dataset : Dataset). AllByRecursion (OfSlots (λ (ptr : Ptr). length (bytes_at blocks ptr.device ptr.place) ≡ 4096)) dataset.files)
      (λ (dataset : Dataset). AllByRecursion (ReadFile blocks) dataset.files) tree.datasets
      (λ dataset is slots. each_of_two (IsFile limits.devices limits.places dataset.next_file) (OfSlots (λ (ptr : Ptr). length (bytes_at blocks ptr.device ptr.place) ≡ 4096)) (ReadFile blocks) dataset.files
      (λ file fits bytes. read_it limits.devices limits.places dataset.next_file blocks file fits bytes) is.files slots)
      are_datasets (of_datasets (λ (ptr : Ptr). length (bytes_at blocks ptr.device ptr.place) ≡ 4096) tree.datasets pointers_whole)

  few_pointers : (dataset : Dataset) → IsDataset limits.devices limits.places tree.group tree.next_dataset dataset → length (pointers_of_files dataset.files) < 2 ^ 63
  few_pointers dataset is = let few = is.few_pointers in let most = limits.are_limits.few_places in omega (arith, few, most)

  pub may_read : (found : List (ℕ × List ℕ)) → HasRead found blocks → AllByRecursion (MayRead found) tree.datasets
  may_read found read =
      each_of_two (IsDataset limits.devices limits.places tree.group tree.next_dataset) (λ (dataset : Dataset). AllByRecursion (ReadFile blocks) dataset.files) (MayRead found) tree.datasets
      (λ dataset is files. record {
        there = each_of (ReadFile blocks) (HasBlocks found) dataset.files (λ file one. has_blocks blocks found file read one) files;
        follow = may_follow found [] dataset.files tt (files_in_order 1 [] dataset.files is.files_ascend is.names_differ);
        few = few_pointers dataset is;
      }) are_datasets are_read

  -- the pool that was found is plain
  abbrev IsRead : Dataset → Type 0
  IsRead dataset = IsDataset limits.devices limits.places tree.group tree.next_dataset dataset × AllByRecursion (ReadFile blocks) dataset.files × AllByRecursion IsZeroPast (found_dataset blocks dataset).files

  all_read : AllByRecursion IsRead tree.datasets
  all_read =
      each_of_two (λ (dataset : Dataset). IsDataset limits.devices limits.places tree.group tree.next_dataset dataset × AllByRecursion (ReadFile blocks) dataset.files) (λ (dataset : Dataset). AllByRecursion IsZeroPast (found_dataset blocks dataset).files) IsRead tree.datasets
      (λ dataset both zeros. (both.0, both.1, zeros))
      (each_of_two (IsDataset limits.devices limits.places tree.group tree.next_dataset) (λ (dataset : Dataset). AllByRecursion (ReadFile blocks) dataset.files)
      (λ (dataset : Dataset). IsDataset limits.devices limits.places tree.group tree.next_dataset dataset × AllByRecursion (ReadFile blocks) dataset.files) tree.datasets (λ dataset is files. (is, files)) are_datasets are_read)
      (all_back (λ (dataset : PlainDataset). AllByRecursion IsZeroPast dataset.files) (found_dataset blocks) tree.datasets may.zero_past)

  dataset_plain : (dataset : Dataset) → IsRead dataset → IsPlainDataset (most_files (found_pool limits tree blocks)) (most_bytes (found_pool limits tree blocks)) (found_dataset blocks dataset)
  dataset_plain dataset is = record {
    numbered = numbered_images (found_file blocks) (λ (file : PlainFile). file.id) (λ (file : PlainFile). file.name) dataset.next_file dataset.files is.0.some_next_file
        (each_of (IsFile limits.devices limits.places dataset.next_file) (λ (file : File). (1 ≤ file.id) × (file.id < dataset.next_file)) dataset.files (λ file fits. (fits.made, fits.before_next)) is.0.files)
        (files_in_order 1 [] dataset.files is.0.files_ascend is.0.names_differ);
    few = let few = is.0.few_files in let long = length-map dataset.files (found_file blocks) in omega (arith, few, long);
    files = λ place file stands. all_at IsPlainFile (map (found_file blocks) dataset.files) place file
        (all_mapped IsPlainFile (found_file blocks) dataset.files (each_of_two (ReadFile blocks) (λ (one : File). IsZeroPast (found_file blocks one)) (λ (one : File). IsPlainFile (found_file blocks one)) dataset.files
        (λ one read zero_past. found_plain blocks one read zero_past) is.1 (all_back IsZeroPast (found_file blocks) dataset.files is.2))) stands;
    sizes = λ place file stands. all_at (λ (one : PlainFile). one.size ≤ most_bytes (found_pool limits tree blocks)) (map (found_file blocks) dataset.files) place file
        (all_mapped (λ (one : PlainFile). one.size ≤ most_bytes (found_pool limits tree blocks)) (found_file blocks) dataset.files
        (each_of (IsFile limits.devices limits.places dataset.next_file) (λ (one : File). one.size ≤ most_bytes (found_pool limits tree blocks)) dataset.files (λ one fits. fits.few_bytes) is.0.files)) stands;
  }

  found_is_plain : IsPlain (found_pool limits tree blocks)
  found_is_plain = record {
    numbered = numbered_images (found_dataset blocks) (λ (dataset : PlainDataset). dataset.id) (λ (dataset : PlainDataset). dataset.name) tree.next_dataset tree.datasets may.some_next_dataset
        (each_of (IsDataset limits.devices limits.places tree.group tree.next_dataset) (λ (dataset : Dataset). (1 ≤ dataset.id) × (dataset.id < tree.next_dataset)) tree.datasets (λ dataset is. (is.made, is.before_next)) are_datasets)
        (datasets_in_order limits.devices limits.places tree.group tree.next_dataset [] tree.datasets may.datasets);
    few = let few = may.few in let long = length-map tree.datasets (found_dataset blocks) in omega (arith, few, long);
    datasets = λ place dataset stands. all_at (IsPlainDataset (most_files (found_pool limits tree blocks)) (most_bytes (found_pool limits tree blocks))) (map (found_dataset blocks) tree.datasets) place dataset
        (all_mapped (IsPlainDataset (most_files (found_pool limits tree blocks)) (most_bytes (found_pool limits tree blocks))) (found_dataset blocks) tree.datasets
        (each_of IsRead (λ (one : Dataset). IsPlainDataset (most_files (found_pool limits tree blocks)) (most_bytes (found_pool limits tree blocks)) (found_dataset blocks one)) tree.datasets (λ one is. dataset_plain one is) all_read)) stands;
  }

  -- its stamps are those of the tree's pointers
  stamps_of_datasets : (datasets : List Dataset) → AllByRecursion (λ (dataset : Dataset). AllByRecursion (ReadFile blocks) dataset.files) datasets
      → flat_map (λ (dataset : PlainDataset). flat_map (λ (file : PlainFile). flat_map stamp_of file.blocks) dataset.files) (map (found_dataset blocks) datasets) ≡ map stamp_at_ptr (pointers_of_datasets datasets)
  stamps_of_datasets [] are = refl
  stamps_of_datasets (dataset ∷ datasets) are =
      (λ i. stamps_of_files blocks dataset.files are.0 i ++ stamps_of_datasets datasets are.1 i) ∙ sym (map-append stamp_at_ptr (pointers_of_files dataset.files) (pointers_of_datasets datasets))

  stamps_of_found : stamps_of (found_pool limits tree blocks) ≡ map stamp_at_ptr (pointers_of_tree tree)
  unfolding stamps_of
  stamps_of_found = stamps_of_datasets tree.datasets are_read

  -- no entry made a block of it
  found_stamped : AllByRecursion (IsStamped 0) (found_pool limits tree blocks).datasets
  found_stamped = all_mapped (IsStamped 0) (found_dataset blocks) tree.datasets (every tree.datasets) where
    every_file : (files : List File) → AllByRecursion (λ (file : PlainFile). AllByRecursion (IsMadeBy 0) file.blocks) (map (found_file blocks) files)
    every_file [] = tt
    every_file (file ∷ files) = (stamped_file blocks file, every_file files)

    every : (datasets : List Dataset) → AllByRecursion (λ (dataset : Dataset). IsStamped 0 (found_dataset blocks dataset)) datasets
    every [] = tt
    every (dataset ∷ datasets) = (every_file dataset.files, every datasets)

  module _ (found : List (ℕ × List ℕ)) (read : HasRead found blocks) (stamps : Stamps) (held : ℕ)
      (files : (stamp : ℕ × ℕ) → files_at stamps stamp ≡ count_by (is_stamp stamp) (map stamp_at_ptr (pointers_of_tree tree)))
      (distinct : AreCounted stamps (stamps_of (found_pool limits tree blocks)) → held ≡ length (with_each is_stamp [] (stamps_of (found_pool limits tree blocks)))) where
    abbrev core : Core
    core = read_core found limits tree stamps held

    datasets_read : (datasets : List Dataset) → AllByRecursion (λ (dataset : Dataset). AllByRecursion (ReadFile blocks) dataset.files) datasets → map plain_dataset (map (read_dataset found) datasets) ≡ map (found_dataset blocks) datasets
    datasets_read [] are = refl
    datasets_read (dataset ∷ datasets) are = λ i. dataset_read blocks found dataset read are.0 i ∷ datasets_read datasets are.1 i

    pool_read : pool_of core ≡ found_pool limits tree blocks
    pool_read = λ i. record { limits = limits; next_dataset = tree.next_dataset; datasets = datasets_read tree.datasets are_read i }

    areas_read : (datasets : List Dataset) → map (λ (dataset : HeartDataset). dataset.area) (map (read_dataset found) datasets) ≡ map (λ (dataset : Dataset). dataset.slot) datasets
    areas_read [] = refl
    areas_read (dataset ∷ datasets) = ap (λ (areas : List ℕ). dataset.slot ∷ areas) (areas_read datasets)

    counted : AreCounted stamps (stamps_of (found_pool limits tree blocks))
    counted stamp = files stamp ∙ ap (count_by (is_stamp stamp)) (sym stamps_of_found)

    held_is : held ≡ held_by (found_pool limits tree blocks)
    unfolding held_by
    held_is = distinct counted

    few_held : held ≤ 2 ^ 62
    few_held = let few = few_stamps (found_pool limits tree blocks) found_is_plain in let is = distinct counted in omega (arith, few, is)

    untouched_all : (datasets : List Dataset) → AllByRecursion (λ (dataset : HeartDataset). AllByRecursion IsUntouched dataset.files) (map (read_dataset found) datasets)
    untouched_all [] = tt
    untouched_all (dataset ∷ datasets) = (untouched_read found dataset.files, untouched_all datasets)

    pub read_is_core : IsCore core
    read_is_core = record {
      plain = subst IsPlain (sym pool_read) found_is_plain;
      datasets = all_mapped IsDatasetOfCore (read_dataset found) tree.datasets
          (each_of_two (IsDataset limits.devices limits.places tree.group tree.next_dataset) (λ (dataset : Dataset). AllByRecursion (ReadFile blocks) dataset.files) (λ (dataset : Dataset). IsDatasetOfCore (read_dataset found dataset)) tree.datasets
          (λ dataset is files. dataset_of_core limits.devices limits.places tree.group tree.next_dataset blocks found dataset read is files) are_datasets are_read);
      apart = subst AreApart (sym (areas_read tree.datasets)) (slots_apart limits.devices limits.places tree.group tree.next_dataset [] tree.datasets may.datasets);
      counted = subst (λ (pool : PlainPool). AreCounted stamps (stamps_of pool)) (sym pool_read) counted;
      stamped = subst (λ (pool : PlainPool). AllByRecursion (IsStamped 0) pool.datasets) (sym pool_read) found_stamped;
      logged = tt;
      held = few_held;
      few = omega arith;
    }

    pub read_is_opened : ((placing : Where) → AllByRecursion (λ (ptr : Ptr). placing 0 (number_of ptr) ≡ ptr) (pointers_of_tree tree) → AreWhere placing stamps) → IsAllKnown stamps → IsOpened limits tree blocks core
    read_is_opened places known = record {
      pool = pool_read;
      areas = areas_read tree.datasets;
      agrees = record {
        held = sym held_is;
        finished = [];
        sealed = refl;
        apart = tt;
        below = tt;
        made = refl;
        whole = refl;
        marks = λ place dataset at file k stands there.
            let untouched = all_at IsUntouched dataset.files at file (all_at (λ (one : HeartDataset). AllByRecursion IsUntouched one.files) (map (read_dataset found) tree.datasets) place dataset (untouched_all tree.datasets) stands) there in
            not_made (value_at k file.value.marks) (untouched.1 k);
        no_dataset = tt;
        no_file = λ place dataset stands. tt;
      };
      leads = record {
        before = pool_of core;
        next_dataset = refl;
        datasets = datasets_before_themselves (map (read_dataset found) tree.datasets);
        made = λ group placing. refl;
      };
      knows = λ placing placed. places placing (all_contained (λ (ptr : Ptr). placing 0 (number_of ptr) ≡ ptr) (pointers_of_tree tree) placed);
      known = known;
      group = refl;
      waiting = refl;
      last = refl;
    }

-- ---- by what a call held

pub core_opened : (limits : Limits) (tree : Tree) (blocks : List HeartBlock) (found : List (ℕ × List ℕ)) (result : Result Core AllocError) → MayOpen limits tree blocks → AreWhole blocks → HasRead found blocks
    → IfOk result (λ core. core ≡ read_core found limits tree core.stamps core.held)
    → IfOk result (λ core. (stamp : ℕ × ℕ) → files_at core.stamps stamp ≡ count_by (is_stamp stamp) (map stamp_at_ptr (pointers_of_tree tree)))
    → IfOk result (λ core. AreCounted core.stamps (stamps_of (found_pool limits tree blocks)) → core.held ≡ length (with_each is_stamp [] (stamps_of (found_pool limits tree blocks)))) → IfOk result (λ core. IsCore core)
core_opened limits tree blocks found (Err fault) may whole read is files distinct = tt
core_opened limits tree blocks found (Ok core) may whole read is files distinct = subst IsCore (sym is) (read_is_core limits tree blocks may whole found read core.stamps core.held files distinct)

pub is_opened : (limits : Limits) (tree : Tree) (blocks : List HeartBlock) (found : List (ℕ × List ℕ)) (result : Result Core AllocError) → MayOpen limits tree blocks → AreWhole blocks → HasRead found blocks
    → IfOk result (λ core. core ≡ read_core found limits tree core.stamps core.held)
    → IfOk result (λ core. (stamp : ℕ × ℕ) → files_at core.stamps stamp ≡ count_by (is_stamp stamp) (map stamp_at_ptr (pointers_of_tree tree)))
    → IfOk result (λ core. AreCounted core.stamps (stamps_of (found_pool limits tree blocks)) → core.held ≡ length (with_each is_stamp [] (stamps_of (found_pool limits tree blocks))))
    → ((placing : Where) → AllByRecursion (λ (ptr : Ptr). placing 0 (number_of ptr) ≡ ptr) (pointers_of_tree tree) → IfOk result (λ core. AreWhere placing core.stamps)) → IfOk result (λ core. IsAllKnown core.stamps)
    → IfOk result (λ core. IsOpened limits tree blocks core)
is_opened limits tree blocks found (Err fault) may whole read is files distinct places known = tt
is_opened limits tree blocks found (Ok core) may whole read is files distinct places known =
    subst (IsOpened limits tree blocks) (sym is) (read_is_opened limits tree blocks may whole found read core.stamps core.held files distinct places known)
