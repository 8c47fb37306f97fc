-- The files of a plain pool, with pointers that a pool may have, are such as a dataset may have.
use Rattle.std.proofs.Common.{◌≡◌, ◌∙◌, ℕ, suc, ◌+◌, ◌*◌, ◌^◌, ◌<◌, ◌≤◌, cond, List, [], ◌∷◌, length, map, refl, sym, ap, subst, arith}
use Rattle.std.specs.Prelude.{sum_by}
use Rattle.std.specs.List.{AllByRecursion}
use Rattle.std.proofs.lemmas.List.Sums.{sum_by-cons}
use Rattle.zc_num.specs.Limits.{AreLimits, file_bytes_of}
use Rattle.zc_command.specs.Names.{IsName}
use Rattle.zc_blkptr.specs.Ptr.{IsPtr}
use Rattle.zc_blkptr.specs.declared.ptr.Ptr.{Ptr}
use Rattle.zc_tree.specs.declared.tree.File.{File}
use Rattle.zc_tree.specs.Reach.{pointers_of_files}
use Rattle.zc_tree.specs.Spelling.{AscendFrom, IsEntry, IsFile}
use Rattle.zc_tree.proofs.FileLaws.{pointers_more}
use Rattle.zc_plain.specs.declared.plain_pool.PlainBlock.{PlainBlock}
use Rattle.zc_plain.specs.declared.plain_pool.PlainBlock.TheVariants.{Hole, Made}
use Rattle.zc_plain.specs.declared.plain_pool.PlainFile.{PlainFile}
use Rattle.zc_plain.specs.PlainPool.{blocks_of_size, is_made, made_count}
use Rattle.zc_plain.specs.IsPlain.{StandsAt, AreNumbered, IsPlainFile}
use Rattle.zc_heart.specs.Changes.{Placing, slots_from, file_of}
use Rattle.zc_apply.specs.Alike.{AreSlotsAlike, IsFileAlike, AreFilesAlike}
use Rattle.zc_apply.proofs.NumberLaws.{ascend_lower, numbered_after}

-- ---- blocks that were made

none_made : made_count [] ≡ 0
unfolding made_count
none_made = refl

hole_in_front : (blocks : List PlainBlock) → made_count (Hole ∷ blocks) ≡ made_count blocks
unfolding made_count
hole_in_front blocks = omega (arith, sum_by-cons (λ (block : PlainBlock). cond (is_made block) 1 0) Hole blocks)

made_in_front : (entry index : ℕ) (bytes : List ℕ) (blocks : List PlainBlock) → made_count (Made entry index bytes ∷ blocks) ≡ suc (made_count blocks)
unfolding made_count
made_in_front entry index bytes blocks = omega (arith, sum_by-cons (λ (block : PlainBlock). cond (is_made block) 1 0) (Made entry index bytes) blocks)

-- a block of those that a size takes begins before it
block_before : (k more size : ℕ) → k + suc more ≡ blocks_of_size size → k * 4096 < size
block_before k more size count = omega (arith, count)

-- and in a file of a pool its number fits its field
number_fits : (devices places k size : ℕ) → AreLimits devices places → size ≤ file_bytes_of devices places → k * 4096 < size → k < 2 ^ 32
number_fits devices places k size limits few before =
    let most : devices * places ≤ 131072 = limits.few_places in omega (arith, few, before, most)

-- ---- files

module _ (devices places : ℕ) (limits : AreLimits devices places) (P : Ptr → Ptr → Type 0) (ptrs : (ptr other : Ptr) → P ptr other → IsPtr devices places ptr) (placing : Placing) where
  -- the slots of a file of this size from a block's number on
  pub record AreSlots (least size count : ℕ) (slots : List (ℕ × Ptr)) : Type 0 where
    pub ascend : AscendFrom least (map (λ entry. entry.0) slots)
    pub entries : AllByRecursion (IsEntry devices places size) slots
    pub number : length slots ≡ count

  slots_are : (k size : ℕ) (blocks : List PlainBlock) (slots : List (ℕ × Ptr)) → k + length blocks ≡ blocks_of_size size → size ≤ file_bytes_of devices places
      → AreSlotsAlike P slots (slots_from placing k blocks) → AreSlots k size (made_count blocks) slots
  slots_are k size [] [] count few are = record { ascend = tt; entries = tt; number = sym none_made }
  slots_are k size [] (slot ∷ slots) count few are = absurd are
  slots_are k size (Hole ∷ blocks) slots count few are =
      let rest = slots_are (k + 1) size blocks slots (omega (arith, count)) few are in
      record {
        ascend = ascend_lower k (k + 1) (map (λ entry. entry.0) slots) (omega arith) rest.ascend;
        entries = rest.entries;
        number = rest.number ∙ sym (hole_in_front blocks);
      }
  slots_are k size (Made entry index bytes ∷ blocks) [] count few are = absurd are
  slots_are k size (Made entry index bytes ∷ blocks) (slot ∷ slots) count few are =
      let rest = slots_are (k + 1) size blocks slots (omega (arith, count)) few are.2 in
      let before : k * 4096 < size = block_before k (length blocks) size count in
      let width : k < 2 ^ 32 = number_fits devices places k size limits few before in
      record {
        ascend = (omega (arith, are.0), subst (λ (n : ℕ). AscendFrom (n + 1) (map (λ entry. entry.0) slots)) (sym are.0) rest.ascend);
        entries = (record { before_size = omega (arith, are.0, before); width = omega (arith, are.0, width); pointer = ptrs slot.1 (placing entry index bytes) are.1 }, rest.entries);
        number = ap (λ (n : ℕ). suc n) rest.number ∙ sym (made_in_front entry index bytes blocks);
      }

  file_is : (next : ℕ) (plain : PlainFile) (file : File) → 1 ≤ plain.id → plain.id < next → IsName plain.name → plain.size ≤ file_bytes_of devices places → IsPlainFile plain
      → IsFileAlike P file (file_of placing plain) → IsFile devices places next file × (length file.slots ≡ made_count plain.blocks)
  file_is next plain file some below named few plain_is is =
      let count : 0 + length plain.blocks ≡ blocks_of_size plain.size = omega (arith, plain_is.blocks) in
      let slots = slots_are 0 plain.size plain.blocks file.slots count few is.slots in (
        record {
          made = omega (arith, is.id, some);
          before_next = omega (arith, is.id, below);
          name = subst IsName (sym is.name) named;
          few_bytes = subst (λ (size : ℕ). size ≤ file_bytes_of devices places) (sym is.size) few;
          blocks_ascend = slots.ascend;
          entries = subst (λ (size : ℕ). AllByRecursion (IsEntry devices places size) file.slots) (sym is.size) slots.entries;
        },
        slots.number,
      )

  abbrev pub AreNumberedFiles : ℕ → List PlainFile → Type 0
  AreNumberedFiles next plains = AreNumbered (λ (file : PlainFile). file.id) (λ (file : PlainFile). file.name) next plains

  pub record AreFiles (next : ℕ) (plains : List PlainFile) (files : List File) : Type 0 where
    pub count : length files ≡ length plains
    pub each : AllByRecursion (IsFile devices places next) files
    pub ids : map (λ (file : File). file.id) files ≡ map (λ (file : PlainFile). file.id) plains
    pub names : map (λ (file : File). file.name) files ≡ map (λ (file : PlainFile). file.name) plains
    pub pointers : length (pointers_of_files files) ≡ sum_by (λ (file : PlainFile). made_count file.blocks) plains

  pub files_are : (next : ℕ) (plains : List PlainFile) (files : List File) → AreNumberedFiles next plains → AllByRecursion (λ (file : PlainFile). IsName file.name) plains
      → ((place : ℕ) (file : PlainFile) → StandsAt plains place file → IsPlainFile file)
      → ((place : ℕ) (file : PlainFile) → StandsAt plains place file → file.size ≤ file_bytes_of devices places)
      → AreFilesAlike P files (map (file_of placing) plains) → AreFiles next plains files
  files_are next [] [] numbered named plain_are few are = record { count = refl; each = tt; ids = refl; names = refl; pointers = refl }
  files_are next [] (file ∷ files) numbered named plain_are few are = absurd are
  files_are next (plain ∷ plains) [] numbered named plain_are few are = absurd are
  files_are next (plain ∷ plains) (file ∷ files) numbered named plain_are few are =
      let first = file_is next plain file (numbered.from_one 0 plain refl) (numbered.below_next 0 plain refl) named.0 (few 0 plain refl) (plain_are 0 plain refl) are.0 in
      let rest = files_are next plains files (numbered_after (λ (f : PlainFile). f.id) (λ (f : PlainFile). f.name) next plain plains numbered) named.1
      (λ place other stands. plain_are (suc place) other stands) (λ place other stands. few (suc place) other stands) are.1 in
      record {
        count = ap (λ (n : ℕ). suc n) rest.count;
        each = (first.0, rest.each);
        ids = ap (λ (id : ℕ). id ∷ map (λ (f : File). f.id) files) are.0.id ∙ ap (λ (ids : List ℕ). plain.id ∷ ids) rest.ids;
        names = ap (λ (name : List ℕ). name ∷ map (λ (f : File). f.name) files) are.0.name ∙ ap (λ (names : List (List ℕ)). plain.name ∷ names) rest.names;
        pointers = omega (arith, pointers_more file files, sum_by-cons (λ (f : PlainFile). made_count f.blocks) plain plains, first.1, rest.pointers);
      }
