-- Trees that a heart may be opened from: one without datasets, and one whose two files share their only block.
use Rattle.std.proofs.Common.{◌≡◌, ◌∙◌, ℕ, zero, suc, ◌-◌, ◌/◌, ◌%◌, ◌^◌, ◌<◌, ◌≤◌, ◌==◌, ◌&&◌, true, List, [], ◌∷◌, replicate, get_or, refl, sym, ap, subst, ⊎_elim, arith}
use Rattle.std.specs.Prelude.{Contains}
use Rattle.std.specs.List.{list_any}
use Rattle.std.proofs.lemmas.Bool.{cases_lt}
use Rattle.std.proofs.lemmas.List.{get_or_past, get_or-replicate, length-replicate}
use Rattle.zc_num.specs.declared.limits.Limits.{Limits}
use Rattle.zc_num.specs.Ordered.{value_at}
use Rattle.zc_num.specs.Words.{each}
use Rattle.zc_num.proofs.Each.{length_each}
use Rattle.zc_command.specs.Names.{IsName}
use Rattle.zc_blkptr.specs.declared.ptr.Ptr.{Ptr}
use Rattle.zc_blkptr.specs.Ptr.{IsPtr}
use Rattle.zc_tree.specs.declared.tree.LogState.TheVariants.{Normal}
use Rattle.zc_tree.specs.declared.tree.File.{File}
use Rattle.zc_tree.specs.declared.tree.Dataset.{Dataset}
use Rattle.zc_tree.specs.declared.tree.Tree.{Tree}
use Rattle.zc_tree.specs.Spelling.{IsFile}
use Rattle.zc_tree.specs.Catalogue.{AreDatasets}
use Rattle.zc_tree.specs.Reach.{pointers_of_tree}
use Rattle.zc_plain.specs.declared.plain_pool.PlainBlock.{PlainBlock}
use Rattle.zc_plain.specs.declared.plain_pool.PlainBlock.TheVariants.{Hole}
use Rattle.zc_plain.specs.PlainPool.{bytes_of_block, byte_of}
use Rattle.zc_plain.proofs.Bytes.{zero_of_zeros}
use Rattle.zc_plain.proofs.Together.{block_by_place}
use Rattle.zc_heart.specs.declared.opening.HeartBlock.{HeartBlock}
use Rattle.zc_heart.specs.Meaning.{found_block, found_file, IsZeroPast, MayOpen}

-- ---- no datasets

-- a tree without datasets
abbrev pub bare : ℕ → Tree
bare group = record { group = group; next_dataset = 1; datasets = [] }

pub bare_may_open : (limits : Limits) (blocks : List HeartBlock) (group : ℕ) → group < 2 ^ 64 - 1 → MayOpen limits (bare group) blocks
bare_may_open limits blocks group fits = record {
  group = fits;
  some_next_dataset = omega arith;
  next_dataset = omega arith;
  next_files = tt;
  few = omega arith;
  datasets = tt;
  one_block = λ a b a_in b_in device place. absurd (omega (arith, a_in.1));
  there = tt;
  zero_past = tt;
}

-- ---- two files that share a block

-- their pointer
abbrev pub shared : Ptr
shared = record { device = 0; place = 68; logical = 3; physical = 2; digest = replicate 16 0 }

-- a file of one block
abbrev pub single : ℕ → List ℕ → File
single id name = record { id = id; name = name; size = 4096; slots = (0, shared) ∷ [] }

-- the files `f` and `g` in the dataset `d`
abbrev pub pair : Dataset
pair = record { id = 1; slot = 3; name = 100 ∷ []; next_file = 3; log = Normal; files = single 1 (102 ∷ []) ∷ single 2 (103 ∷ []) ∷ [] }

abbrev pub pair_tree : Tree
pair_tree = record { group = 6; next_dataset = 2; datasets = pair ∷ [] }

abbrev zeros16 : List ℕ
zeros16 = replicate 16 0

zero_digest : (i : ℕ) → get_or zeros16 i 0 ≡ 0
zero_digest i =
    ⊎_elim
    (λ (within : i < 16). get_or-replicate 16 i 0 0 within)
    (λ (past : 16 ≤ i). get_or_past zeros16 i 0 (rw length-replicate past))
    (cases_lt i 16)

is_shared : IsPtr 1 1024 shared
is_shared = record {
  on_device = omega arith;
  in_places = omega arith;
  not_fixed = λ fixed. omega (arith, fixed.1);
  written = omega arith;
  in_order = omega arith;
  widths = record { device = omega arith; place = omega arith; logical = omega arith; physical = omega arith; digest = refl; digest_fits = λ i. omega (arith, zero_digest i) };
}

is_single : (id : ℕ) (name : List ℕ) → 1 ≤ id → id < 3 → IsName name → IsFile 1 1024 3 (single id name)
is_single id name some below named = record {
  made = some;
  before_next = below;
  name = named;
  few_bytes = omega arith;
  blocks_ascend = (omega arith, tt);
  entries = (record { before_size = omega arith; width = omega arith; pointer = is_shared }, tt);
}

is_pair : AreDatasets 1 1024 6 2 [] (pair ∷ [])
is_pair = (
  record {
    made = omega arith;
    before_next = omega arith;
    in_slot = omega arith;
    name = record { some_byte = omega arith; few_bytes = omega arith; name_bytes = refl };
    some_next_file = omega arith;
    next_file_width = omega arith;
    log = tt;
    few_files = omega arith;
    files = (is_single 1 (102 ∷ []) (omega arith) (omega arith) (record { some_byte = omega arith; few_bytes = omega arith; name_bytes = refl }), (is_single 2 (103 ∷ []) (omega arith) (omega arith) (record { some_byte = omega arith; few_bytes = omega arith; name_bytes = refl }), tt));
    files_ascend = (omega arith, (omega arith, tt));
    names_differ = (refl, (refl, tt));
    few_pointers = omega arith;
  },
  record { above = refl; other_slot = refl; other_name = refl },
  tt,
)

-- a pointer of the tree is this one
is_it : (a : Ptr) → Contains (pointers_of_tree pair_tree) a → shared ≡ a
is_it a (zero, within, is) = is
is_it a (suc zero, within, is) = is
is_it a (suc (suc k), within, is) = absurd (omega (arith, within))

-- a file whose blocks are whole has no bytes past its size
whole_file : (blocks : List HeartBlock) (id : ℕ) (name : List ℕ) → IsZeroPast (found_file blocks (single id name))
unfolding byte_of
whole_file blocks id name i past =
    ap (λ (block : PlainBlock). get_or (bytes_of_block block) (i % 4096) 0)
    (block_by_place (each 1 f) (i / 4096) ∙ get_or_past (each 1 f) (i / 4096) Hole (rw length_each (omega (arith, past))))
    ∙ zero_of_zeros (i % 4096)
  where
    f : ℕ → PlainBlock
    f k = found_block blocks (value_at k (single id name).slots)

pub pair_may_open : (limits : Limits) (blocks : List HeartBlock) → limits.devices ≡ 1 → limits.places ≡ 1024 → list_any (λ (block : HeartBlock). (block.device == 0) && (block.place == 68)) blocks ≡ true → MayOpen limits pair_tree blocks
pair_may_open limits blocks devices places there = record {
  group = omega arith;
  some_next_dataset = omega arith;
  next_dataset = omega arith;
  next_files = (omega arith, tt);
  few = omega arith;
  datasets = subst (λ (n : ℕ). AreDatasets n limits.places 6 2 [] (pair ∷ [])) (sym devices) (subst (λ (n : ℕ). AreDatasets 1 n 6 2 [] (pair ∷ [])) (sym places) is_pair);
  one_block = λ a b a_in b_in device place. (ap (λ (ptr : Ptr). ptr.physical) (sym (is_it a a_in) ∙ is_it b b_in), ap (λ (ptr : Ptr). ptr.digest) (sym (is_it a a_in) ∙ is_it b b_in));
  there = (there, (there, tt));
  zero_past = ((whole_file blocks 1 (102 ∷ []), (whole_file blocks 2 (103 ∷ []), tt)), tt);
}
