-- A plain pool has few blocks and pointers: its limits say how many files a dataset may have, and how long each may be.
use Rattle.std.proofs.Common.{◌≡◌, ℕ, suc, ◌+◌, ◌*◌, ◌≤◌, Bool, true, false, cond, List, [], ◌∷◌, length, refl, arith}
use Rattle.std.specs.Prelude.{sum_by, count_by}
use Rattle.std.proofs.Math.Nat.{suc-mul}
use Rattle.std.proofs.lemmas.List.Sums.{sum_by-cons}
use Rattle.zc_num.specs.Words.{each}
use Rattle.zc_num.proofs.Each.{length_each}
use Rattle.zc_plain.specs.declared.plain_pool.PlainBlock.{PlainBlock}
use Rattle.zc_plain.specs.declared.plain_pool.PlainFile.{PlainFile}
use Rattle.zc_plain.specs.declared.plain_pool.PlainDataset.{PlainDataset}
use Rattle.zc_plain.specs.declared.plain_pool.PlainPool.{PlainPool}
use Rattle.zc_plain.specs.PlainPool.{block_at, is_made, is_hole, made_count, dataset_at, pointers_in}
use Rattle.zc_plain.specs.Putting.{first_touched, touched_count}
use Rattle.zc_plain.specs.IsPlain.{StandsAt, IsPlainFile, IsPlainDataset, IsPlain}
use Rattle.zc_plain.specs.Answer.{most_files, most_bytes, holes_touched}
use Rattle.zc_plain.proofs.PlainLaws.{plain_dataset_at}

-- where each item gives so much at most, all give at most as many times that as there are
pub summed_few : {X : Type 0} (f : X → ℕ) (most : ℕ) (xs : List X) → ((place : ℕ) (x : X) → StandsAt xs place x → f x ≤ most) → sum_by f xs ≤ length xs * most
summed_few f most [] few = omega arith
summed_few f most (x ∷ xs) few =
    let first = few 0 x refl in
    let rest = summed_few f most xs (λ place y stands. few (suc place) y stands) in
    rw sum_by-cons (omega (arith, first, rest, suc-mul (length xs) most))

-- no more items pass than there are
counted_within : {X : Type 0} (p : X → Bool) (xs : List X) → count_by p xs ≤ length xs
counted_within {X} p xs =
    let all = summed_few (λ (x : X). cond (p x) 1 0) 1 xs (λ place x stands. one (p x)) in
    omega (arith, all)
  where
    one : (passes : Bool) → cond {A = ℕ} passes 1 0 ≤ 1
    one true = omega arith
    one false = omega arith

-- the blocks of a file, and its pointers
pub few_blocks : (pool : PlainPool) (file : PlainFile) → IsPlainFile file → file.size ≤ most_bytes pool → length file.blocks ≤ 65536
few_blocks pool file plain short = omega (arith, plain.blocks, short, pool.limits.are_limits.few_places)

few_in_file : (pool : PlainPool) (file : PlainFile) → IsPlainFile file → file.size ≤ most_bytes pool → made_count file.blocks ≤ 65536
unfolding made_count
few_in_file pool file plain short = omega (arith, counted_within is_made file.blocks, few_blocks pool file plain short)

-- the files of a dataset, and their pointers
pub few_files : (pool : PlainPool) (dataset : PlainDataset) → IsPlainDataset (most_files pool) (most_bytes pool) dataset → length dataset.files ≤ 1024
few_files pool dataset plain = omega (arith, plain.few, pool.limits.are_limits.few_places)

few_in_dataset : (pool : PlainPool) (dataset : PlainDataset) → IsPlainDataset (most_files pool) (most_bytes pool) dataset → pointers_in dataset ≤ 67108864
unfolding pointers_in
few_in_dataset pool dataset plain =
    let files = summed_few (λ (file : PlainFile). made_count file.blocks) 65536 dataset.files (λ place file stands. few_in_file pool file (plain.files place file stands) (plain.sizes place file stands)) in
    omega (arith, files, few_files pool dataset plain)

pub few_pointers : (pool : PlainPool) (place : ℕ) → IsPlain pool → pointers_in (dataset_at place pool) ≤ 67108864
few_pointers pool place plain = few_in_dataset pool (dataset_at place pool) (plain_dataset_at pool place plain)

-- no more holes are touched than blocks
pub few_holes : (offset len : ℕ) (blocks : List PlainBlock) → holes_touched offset len blocks ≤ touched_count offset len
unfolding holes_touched
few_holes offset len blocks =
    let all = each (touched_count offset len) (λ k. block_at (first_touched offset + k) blocks) in
    let many : length all ≡ touched_count offset len = length_each (touched_count offset len) (λ k. block_at (first_touched offset + k) blocks) in
    omega (arith, counted_within is_hole all, many)
