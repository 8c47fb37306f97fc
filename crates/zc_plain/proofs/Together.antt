-- A file into which bytes are written, put together from its blocks.
use Rattle.std.proofs.Common.{◌≡◌, ℕ, ◌+◌, ◌-◌, ◌*◌, ◌/◌, ◌<◌, ◌≤◌, max, nat_lt, true, false, List, length, replicate, get_or, refl, sym, ap, ◌∙◌, ⊎_elim, arith}
use Rattle.std.proofs.lemmas.Bool.{cases_lt, lt-ltb, le-ltb}
use Rattle.std.proofs.Math.Bool.{and-false}
use Rattle.std.proofs.lemmas.List.{places, get_or_append_left, get_or-append_right, get_or-replicate, get_or_past, length-append, length-replicate}
use Rattle.std.proofs.lemmas.Option.{unwrap_or-slice_get}
use Rattle.zc_num.proofs.Each.{length_each, item_of_each, each_from_items}
use Rattle.zc_plain.specs.declared.plain_pool.PlainBlock.{PlainBlock}
use Rattle.zc_plain.specs.declared.plain_pool.PlainBlock.TheVariants.{Hole}
use Rattle.zc_plain.specs.declared.plain_pool.PlainFile.{PlainFile}
use Rattle.zc_plain.specs.PlainPool.{blocks_of_size, block_at}
use Rattle.zc_plain.specs.Written.{touches, made_block, written_block, written}
use Rattle.zc_plain.specs.Putting.{grown, replaced, first_touched, touched_count, made_blocks}
use Rattle.zc_plain.specs.IsPlain.{IsPlainFile}

-- a block after the last is a hole
pub block_by_place : (blocks : List PlainBlock) (k : ℕ) → block_at k blocks ≡ get_or blocks k Hole
block_by_place blocks k = unwrap_or-slice_get blocks k Hole

-- blocks with holes after them have the blocks that they had
pub grown_block : (count : ℕ) (blocks : List PlainBlock) (k : ℕ) → get_or (grown count blocks) k Hole ≡ block_at k blocks
unfolding grown
grown_block count blocks k =
    ⊎_elim
    (λ (within : k < length blocks). get_or_append_left blocks (replicate (count - length blocks) Hole) Hole k within)
    (λ (behind : length blocks ≤ k).
    get_or-append_right blocks (replicate (count - length blocks) Hole) (length blocks) k Hole refl behind
    ∙ holes (count - length blocks) (k - length blocks)
    ∙ sym (get_or_past blocks k Hole behind))
    (cases_lt k (length blocks))
    ∙ sym (block_by_place blocks k)
  where
    holes : (n i : ℕ) → get_or (replicate n Hole) i Hole ≡ Hole
    holes n i = ⊎_elim (λ (within : i < n). get_or-replicate n i Hole Hole within) (λ (past : n ≤ i). get_or_past (replicate n Hole) i Hole (rw length-replicate past)) (cases_lt i n)

-- and there are at least so many
pub length_grown : (count : ℕ) (blocks : List PlainBlock) → length (grown count blocks) ≡ max (length blocks) count
unfolding grown
length_grown count blocks = simp (length-append, length-replicate) (omega arith)

-- blocks in the place of others
replaced_inside : (first : ℕ) (others blocks : List PlainBlock) (k : ℕ) → first + length others ≤ length blocks → first ≤ k → k < first + length others → get_or (replaced first others blocks) k Hole ≡ get_or others (k - first) Hole
unfolding replaced
replaced_inside first others blocks k fits from until = grind (arith, places)

replaced_before : (first : ℕ) (others blocks : List PlainBlock) (k : ℕ) → first + length others ≤ length blocks → k < first → get_or (replaced first others blocks) k Hole ≡ get_or blocks k Hole
unfolding replaced
replaced_before first others blocks k fits before = grind (arith, places)

replaced_after : (first : ℕ) (others blocks : List PlainBlock) (k : ℕ) → first + length others ≤ length blocks → first + length others ≤ k → get_or (replaced first others blocks) k Hole ≡ get_or blocks k Hole
unfolding replaced
replaced_after first others blocks k fits behind = grind (arith, places)

length_replaced : (first : ℕ) (others blocks : List PlainBlock) → first + length others ≤ length blocks → length (replaced first others blocks) ≡ length blocks
unfolding replaced
length_replaced first others blocks fits = grind (arith, places)

-- which blocks the bytes touch
pub touched : (offset len k : ℕ) → 0 < len → first_touched offset ≤ k → k < blocks_of_size (offset + len) → touches offset len k ≡ true
touched offset len k some from until =
    let begins : k * 4096 < offset + len = omega arith in
    let ends : offset < k * 4096 + 4096 = omega arith in
    rw (lt-ltb (k * 4096) (offset + len) begins, lt-ltb offset (k * 4096 + 4096) ends) refl

pub untouched_before : (offset len k : ℕ) → k < first_touched offset → touches offset len k ≡ false
untouched_before offset len k before =
    let ends : k * 4096 + 4096 ≤ offset = omega arith in
    rw (le-ltb offset (k * 4096 + 4096) ends) (and-false (nat_lt (k * 4096) (offset + len)))

pub untouched_after : (offset len k : ℕ) → blocks_of_size (offset + len) ≤ k → touches offset len k ≡ false
untouched_after offset len k behind =
    let begins : offset + len ≤ k * 4096 = omega arith in
    rw (le-ltb (k * 4096) (offset + len) begins) refl

-- each block once the made ones are put in their place
put_block : (number offset : ℕ) (bytes : List ℕ) (blocks : List PlainBlock) (k : ℕ) → 0 < length bytes
    → get_or (replaced (offset / 4096) (made_blocks number offset bytes blocks) (grown (offset / 4096 + length (made_blocks number offset bytes blocks)) blocks)) k Hole ≡ written_block number offset bytes blocks k
unfolding made_blocks written_block
put_block number offset bytes blocks k some =
    let made = made_blocks number offset bytes blocks in
    let first = offset / 4096 in
    let count : length made ≡ touched_count offset (length bytes) = length_each (touched_count offset (length bytes)) (λ j. made_block number offset bytes blocks (first_touched offset + j)) in
    let all = grown (first + length made) blocks in
    let fits : first + length made ≤ length all = rw length_grown (omega arith) in
    ⊎_elim
    (λ (before : k < first).
    replaced_before first made all k fits before ∙ grown_block (first + length made) blocks k
    ∙ sym (rw (untouched_before offset (length bytes) k before) refl))
    (λ (from : first ≤ k).
    ⊎_elim
    (λ (until : k < first + length made).
    let place : first + (k - first) ≡ k = omega arith in
    let is_touched : touches offset (length bytes) k ≡ true = touched offset (length bytes) k some from (omega arith) in
    replaced_inside first made all k fits from until
    ∙ item_of_each (touched_count offset (length bytes)) (λ j. made_block number offset bytes blocks (first_touched offset + j)) (k - first) Hole (omega arith)
    ∙ ap (made_block number offset bytes blocks) place
    ∙ sym (rw is_touched refl))
    (λ (behind : first + length made ≤ k).
    replaced_after first made all k fits behind ∙ grown_block (first + length made) blocks k
    ∙ sym (rw (untouched_after offset (length bytes) k (omega arith)) refl))
    (cases_lt k (first + length made)))
    (cases_lt k first)

-- the blocks that were made, put among the others, are those of the file with the bytes written
pub put_together : (number offset : ℕ) (bytes : List ℕ) (file : PlainFile) → IsPlainFile file → 0 < length bytes
    → record file { size = max file.size (offset + length bytes); blocks = replaced (offset / 4096) (made_blocks number offset bytes file.blocks) (grown (offset / 4096 + length (made_blocks number offset bytes file.blocks)) file.blocks) }
    ≡ written number offset bytes file
unfolding written made_blocks
put_together number offset bytes file plain some =
    let made = made_blocks number offset bytes file.blocks in
    let first = offset / 4096 in
    let size = max file.size (offset + length bytes) in
    let count : length made ≡ touched_count offset (length bytes) = length_each (touched_count offset (length bytes)) (λ j. made_block number offset bytes file.blocks (first_touched offset + j)) in
    let all = grown (first + length made) file.blocks in
    let long : length all ≡ max (length file.blocks) (first + length made) = length_grown (first + length made) file.blocks in
    let as_many : length (replaced first made all) ≡ blocks_of_size size = length_replaced first made all (omega arith) ∙ omega (arith, plain.blocks) in
    ap (λ (blocks : List PlainBlock). record file { size = size; blocks = blocks })
    (each_from_items (written_block number offset bytes file.blocks) (replaced first made all) (blocks_of_size size) Hole as_many
    (λ k within. put_block number offset bytes file.blocks k some))
