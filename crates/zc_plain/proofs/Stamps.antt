-- The stamps of a pool, each once, as they are met one after another.
use Rattle.std.proofs.Common.{◌≡◌, ℕ, ◌+◌, ◌*◌, ◌≤◌, Bool, List, [], ◌∷◌, ◌++◌, take, length, sym, ap, ◌∙◌, arith}
use Rattle.std.specs.Prelude.{flat_map}
use Rattle.std.proofs.lemmas.List.Sums.{fold-append}
use Rattle.std.proofs.lemmas.List.Concat.{length-flat_map, flat_map-cons}
use Rattle.std.proofs.lemmas.List.{append-nil}
use Rattle.std.proofs.lemmas.Grind.{flat_map-append}
use Rattle.zc_plain.specs.declared.plain_pool.PlainBlock.{PlainBlock}
use Rattle.zc_plain.specs.declared.plain_pool.PlainBlock.TheVariants.{Hole, Made}
use Rattle.zc_plain.specs.declared.plain_pool.PlainFile.{PlainFile}
use Rattle.zc_plain.specs.declared.plain_pool.PlainDataset.{PlainDataset}
use Rattle.zc_plain.specs.declared.plain_pool.PlainPool.{PlainPool}
use Rattle.zc_plain.specs.Charge.{with_one, with_each, is_stamp, stamp_of, stamps_of}
use Rattle.zc_plain.specs.IsPlain.{StandsAt, IsPlainFile, IsPlainDataset, IsPlain}
use Rattle.zc_plain.specs.Answer.{most_files, most_bytes}
use Rattle.zc_plain.proofs.Counted.{pushed_item}
use Rattle.zc_plain.proofs.ChargeLaws.{as_many_each}
use Rattle.zc_plain.proofs.FewBlocks.{summed_few, few_blocks, few_files}

-- the items that come of one more item of a list, each once
pub added_from : {X Y : Type 0} (same : Y → Y → Bool) (items : List Y) (f : X → List Y) (xs : List X) (k : ℕ) (x : X) (before after : List Y) → before ≡ with_each same items (flat_map f (take k xs)) → after ≡ with_each same before (f x)
    → StandsAt xs k x → after ≡ with_each same items (flat_map f (take (k + 1) xs))
unfolding with_each
added_from {Y = Y} same items f xs k x before after so_far added stands =
    added ∙ ap (λ (from : List Y). with_each same from (f x)) so_far ∙ sym (fold-append (with_one same) items (flat_map f (take k xs)) (f x))
    ∙ ap (λ (more : List Y). with_each same items more)
    (ap (λ (more : List Y). flat_map f (take k xs) ++ more) (sym (flat_map-cons f x [] ∙ append-nil (f x))) ∙ sym (flat_map-append f (take k xs) (x ∷ [])) ∙ ap (flat_map f) (sym (pushed_item xs k x stands)))

-- where each item gives so many at most, all give at most as many times that as there are
mapped_few : {X Y : Type 0} (f : X → List Y) (most : ℕ) (xs : List X) → ((place : ℕ) (x : X) → StandsAt xs place x → length (f x) ≤ most) → length (flat_map f xs) ≤ length xs * most
mapped_few f most xs few = rw length-flat_map (summed_few (λ x. length (f x)) most xs few)

-- a block has one stamp at most
one_stamp : (block : PlainBlock) → length (stamp_of block) ≤ 1
one_stamp Hole = omega arith
one_stamp (Made entry index bytes) = omega arith

-- so a file has as many as blocks at most
stamps_in_file : (pool : PlainPool) (file : PlainFile) → IsPlainFile file → file.size ≤ most_bytes pool → length (flat_map stamp_of file.blocks) ≤ 65536
stamps_in_file pool file plain short =
    let stamps = mapped_few stamp_of 1 file.blocks (λ place block stands. one_stamp block) in
    omega (arith, stamps, few_blocks pool file plain short)

stamps_in_dataset : (pool : PlainPool) (dataset : PlainDataset) → IsPlainDataset (most_files pool) (most_bytes pool) dataset → length (flat_map (λ (file : PlainFile). flat_map stamp_of file.blocks) dataset.files) ≤ 67108864
stamps_in_dataset pool dataset plain =
    let stamps = mapped_few (λ (file : PlainFile). flat_map stamp_of file.blocks) 65536 dataset.files (λ place file stands. stamps_in_file pool file (plain.files place file stands) (plain.sizes place file stands)) in
    omega (arith, stamps, few_files pool dataset plain)

-- a plain pool has few stamps
pub few_stamps : (pool : PlainPool) → IsPlain pool → length (with_each is_stamp [] (stamps_of pool)) ≤ 536870912
unfolding stamps_of
few_stamps pool plain =
    let stamps = mapped_few (λ (dataset : PlainDataset). flat_map (λ (file : PlainFile). flat_map stamp_of file.blocks) dataset.files) 67108864 pool.datasets (λ place dataset stands. stamps_in_dataset pool dataset (plain.datasets place dataset stands)) in
    omega (arith, stamps, plain.few, (as_many_each is_stamp [] (stamps_of pool)).1)
