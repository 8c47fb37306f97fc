-- A file after bytes were written into it, byte by byte.
use Rattle.std.proofs.Common.{◌≡◌, ℕ, ◌+◌, ◌-◌, ◌*◌, ◌/◌, ◌%◌, ◌<◌, ◌≤◌, max, min, nat_lt, true, false, List, drop, length, get_or, ◌⊎◌, inl, inr, refl, sym, ap, ◌∙◌, ⊎_elim, arith}
use Rattle.std.proofs.lemmas.Bool.{cases_lt, cases_Bool, and_parts, ltb-true}
use Rattle.std.proofs.lemmas.List.{get_or_past, get_or-take, get_or-drop, length-take, length-drop}
use Rattle.zc_num.specs.Words.{each}
use Rattle.zc_num.proofs.Each.{length_each, item_of_each, each_from_items, each_same}
use Rattle.zc_num.proofs.Edits.{length_edited, byte_before_edit, byte_in_edit, byte_after_edit}
use Rattle.zc_plain.specs.declared.plain_pool.PlainBlock.{PlainBlock}
use Rattle.zc_plain.specs.declared.plain_pool.PlainBlock.TheVariants.{Hole}
use Rattle.zc_plain.specs.declared.plain_pool.PlainFile.{PlainFile}
use Rattle.zc_plain.specs.PlainPool.{blocks_of_size, bytes_of_block, block_at, byte_of, bytes_from}
use Rattle.zc_plain.specs.Written.{touches, start_in, part_in, made_block, written_block, written}
use Rattle.zc_plain.specs.IsPlain.{IsPlainFile}
use Rattle.zc_plain.proofs.Bytes.{zero_of_zeros, length_zeros, bytes_from_each}
use Rattle.zc_plain.proofs.Together.{block_by_place, touched}

-- the part of the bytes that stands in a block ends where the block or the bytes end
length_part : (index offset : ℕ) (bytes : List ℕ) → length (part_in index offset bytes) ≡ min (4096 - start_in index offset) (length bytes - (index * 4096 - offset))
length_part index offset bytes = simp (length-take, length-drop) refl

part_fits : (index offset : ℕ) (bytes : List ℕ) → offset < index * 4096 + 4096 → start_in index offset + length (part_in index offset bytes) ≤ 4096
part_fits index offset bytes ends = omega (arith, length_part index offset bytes)

-- a block that is made anew has as many bytes as before
pub length_of_made : (number offset : ℕ) (bytes : List ℕ) (blocks : List PlainBlock) (index : ℕ) → length (bytes_of_block (block_at index blocks)) ≡ 4096 → offset < index * 4096 + 4096
    → length (bytes_of_block (made_block number offset bytes blocks index)) ≡ 4096
unfolding made_block
length_of_made number offset bytes blocks index whole ends =
    length_edited (bytes_of_block (block_at index blocks)) (start_in index offset) (part_in index offset bytes) (omega (arith, part_fits index offset bytes ends)) ∙ whole

-- its bytes: those that were written
byte_in_made : (number offset : ℕ) (bytes : List ℕ) (blocks : List PlainBlock) (index j : ℕ) → length (bytes_of_block (block_at index blocks)) ≡ 4096 → j < 4096
    → offset ≤ index * 4096 + j → index * 4096 + j < offset + length bytes → get_or (bytes_of_block (made_block number offset bytes blocks index)) j 0 ≡ get_or bytes (index * 4096 + j - offset) 0
unfolding made_block
byte_in_made number offset bytes blocks index j whole inside from until =
    let start = start_in index offset in
    let skipped = index * 4096 - offset in
    let part = part_in index offset bytes in
    let fits : start + length part ≤ length (bytes_of_block (block_at index blocks)) = omega (arith, part_fits index offset bytes (omega arith)) in
    let place : skipped + (j - start) ≡ index * 4096 + j - offset = omega arith in
    byte_in_edit (bytes_of_block (block_at index blocks)) start part j 0 fits (omega arith) (omega (arith, length_part index offset bytes))
    ∙ get_or-take (4096 - start) (drop skipped bytes) (j - start) 0 (omega arith)
    ∙ get_or-drop skipped bytes (j - start) 0
    ∙ ap (λ (k : ℕ). get_or bytes k 0) place

-- and those before and after
byte_before_made : (number offset : ℕ) (bytes : List ℕ) (blocks : List PlainBlock) (index j : ℕ) → length (bytes_of_block (block_at index blocks)) ≡ 4096 → offset < index * 4096 + 4096
    → index * 4096 + j < offset → get_or (bytes_of_block (made_block number offset bytes blocks index)) j 0 ≡ get_or (bytes_of_block (block_at index blocks)) j 0
unfolding made_block
byte_before_made number offset bytes blocks index j whole ends before =
    let fits : start_in index offset + length (part_in index offset bytes) ≤ length (bytes_of_block (block_at index blocks)) = omega (arith, part_fits index offset bytes ends) in
    byte_before_edit (bytes_of_block (block_at index blocks)) (start_in index offset) (part_in index offset bytes) j 0 fits (omega arith)

byte_after_made : (number offset : ℕ) (bytes : List ℕ) (blocks : List PlainBlock) (index j : ℕ) → length (bytes_of_block (block_at index blocks)) ≡ 4096 → offset < index * 4096 + 4096
    → offset + length bytes ≤ index * 4096 + j → get_or (bytes_of_block (made_block number offset bytes blocks index)) j 0 ≡ get_or (bytes_of_block (block_at index blocks)) j 0
unfolding made_block
byte_after_made number offset bytes blocks index j whole ends behind =
    let fits : start_in index offset + length (part_in index offset bytes) ≤ length (bytes_of_block (block_at index blocks)) = omega (arith, part_fits index offset bytes ends) in
    byte_after_edit (bytes_of_block (block_at index blocks)) (start_in index offset) (part_in index offset bytes) j 0 fits (omega (arith, length_part index offset bytes))

-- the blocks of the file with the bytes written
pub block_of_written : (number offset : ℕ) (bytes : List ℕ) (file : PlainFile) (k : ℕ) → k < blocks_of_size (max file.size (offset + length bytes))
    → block_at k (written number offset bytes file).blocks ≡ written_block number offset bytes file.blocks k
unfolding written
block_of_written number offset bytes file k within =
    let size = max file.size (offset + length bytes) in
    let f = written_block number offset bytes file.blocks in
    block_by_place (each (blocks_of_size size) f) k ∙ item_of_each (blocks_of_size size) f k Hole within

block_past_written : (number offset : ℕ) (bytes : List ℕ) (file : PlainFile) (k : ℕ) → blocks_of_size (max file.size (offset + length bytes)) ≤ k → block_at k (written number offset bytes file).blocks ≡ Hole
unfolding written
block_past_written number offset bytes file k past =
    let size = max file.size (offset + length bytes) in
    let f = written_block number offset bytes file.blocks in
    block_by_place (each (blocks_of_size size) f) k ∙ get_or_past (each (blocks_of_size size) f) k Hole (rw length_each past)

made_where_touched : (number offset : ℕ) (bytes : List ℕ) (blocks : List PlainBlock) (k : ℕ) → touches offset (length bytes) k ≡ true → written_block number offset bytes blocks k ≡ made_block number offset bytes blocks k
unfolding written_block
made_where_touched number offset bytes blocks k is = rw is refl

kept_where_untouched : (number offset : ℕ) (bytes : List ℕ) (blocks : List PlainBlock) (k : ℕ) → touches offset (length bytes) k ≡ false → written_block number offset bytes blocks k ≡ block_at k blocks
unfolding written_block
kept_where_untouched number offset bytes blocks k is = rw is refl

-- a byte that was written
pub byte_written : (number offset : ℕ) (bytes : List ℕ) (file : PlainFile) (i : ℕ) → IsPlainFile file → offset ≤ i → i < offset + length bytes → byte_of (written number offset bytes file) i ≡ get_or bytes (i - offset) 0
unfolding byte_of
byte_written number offset bytes file i plain from until =
    let k = i / 4096 in
    let j = i % 4096 in
    let whole : k * 4096 + j ≡ i = omega arith in
    let is_touched : touches offset (length bytes) k ≡ true = touched offset (length bytes) k (omega arith) (omega arith) (omega arith) in
    ap (λ (block : PlainBlock). get_or (bytes_of_block block) j 0)
    (block_of_written number offset bytes file k (omega arith) ∙ made_where_touched number offset bytes file.blocks k is_touched)
    ∙ byte_in_made number offset bytes file.blocks k j (plain.whole k) (omega arith) (omega arith) (omega arith)
    ∙ ap (λ (n : ℕ). get_or bytes (n - offset) 0) whole

-- a byte of a block that is touched, where the byte isn't written
in_touched : (number offset : ℕ) (bytes : List ℕ) (file : PlainFile) (i : ℕ) → IsPlainFile file → (i < offset) ⊎ (offset + length bytes ≤ i) → touches offset (length bytes) (i / 4096) ≡ true
    → get_or (bytes_of_block (made_block number offset bytes file.blocks (i / 4096))) (i % 4096) 0 ≡ get_or (bytes_of_block (block_at (i / 4096) file.blocks)) (i % 4096) 0
in_touched number offset bytes file i plain apart is =
    let k = i / 4096 in
    let parts = and_parts (nat_lt (k * 4096) (offset + length bytes)) (nat_lt offset (k * 4096 + 4096)) is in
    let ends : offset < k * 4096 + 4096 = ltb-true offset (k * 4096 + 4096) parts.1 in
    ⊎_elim
    (λ (before : i < offset). byte_before_made number offset bytes file.blocks k (i % 4096) (plain.whole k) ends (omega arith))
    (λ (behind : offset + length bytes ≤ i). byte_after_made number offset bytes file.blocks k (i % 4096) (plain.whole k) ends (omega arith))
    apart

-- a byte is one of its block
by_byte : (number offset : ℕ) (bytes : List ℕ) (file : PlainFile) (i : ℕ) (block : PlainBlock) → block_at (i / 4096) (written number offset bytes file).blocks ≡ block
    → get_or (bytes_of_block block) (i % 4096) 0 ≡ get_or (bytes_of_block (block_at (i / 4096) file.blocks)) (i % 4096) 0 → byte_of (written number offset bytes file) i ≡ byte_of file i
unfolding byte_of
by_byte number offset bytes file i block is same = ap (λ (b : PlainBlock). get_or (bytes_of_block b) (i % 4096) 0) is ∙ same

-- a byte after all blocks is 0
after_all : (number offset : ℕ) (bytes : List ℕ) (file : PlainFile) (i : ℕ) → blocks_of_size (max file.size (offset + length bytes)) ≤ i / 4096 → byte_of (written number offset bytes file) i ≡ 0
unfolding byte_of
after_all number offset bytes file i past =
    ap (λ (block : PlainBlock). get_or (bytes_of_block block) (i % 4096) 0) (block_past_written number offset bytes file (i / 4096) past) ∙ zero_of_zeros (i % 4096)

-- every other byte is as it was; after the old end it is 0
pub byte_not_written : (number offset : ℕ) (bytes : List ℕ) (file : PlainFile) (i : ℕ) → IsPlainFile file → (i < offset) ⊎ (offset + length bytes ≤ i) → byte_of (written number offset bytes file) i ≡ byte_of file i
byte_not_written number offset bytes file i plain apart =
    let k = i / 4096 in
    ⊎_elim
    (λ (within : k < blocks_of_size (max file.size (offset + length bytes))).
    by_byte number offset bytes file i (written_block number offset bytes file.blocks k) (block_of_written number offset bytes file k within)
    (⊎_elim
    (λ (is : touches offset (length bytes) k ≡ true).
    ap (λ (block : PlainBlock). get_or (bytes_of_block block) (i % 4096) 0) (made_where_touched number offset bytes file.blocks k is) ∙ in_touched number offset bytes file i plain apart is)
    (λ (is : touches offset (length bytes) k ≡ false).
    ap (λ (block : PlainBlock). get_or (bytes_of_block block) (i % 4096) 0) (kept_where_untouched number offset bytes file.blocks k is))
    (cases_Bool (touches offset (length bytes) k))))
    (λ (past : blocks_of_size (max file.size (offset + length bytes)) ≤ k).
    after_all number offset bytes file i past ∙ sym (plain.zero_past i (omega arith)))
    (cases_lt k (blocks_of_size (max file.size (offset + length bytes))))

-- the size of the file with the bytes written
pub size_of_written : (number offset : ℕ) (bytes : List ℕ) (file : PlainFile) → (written number offset bytes file).size ≡ max file.size (offset + length bytes)
unfolding written
size_of_written number offset bytes file = refl

-- it keeps its number and its name
pub id_of_written : (number offset : ℕ) (bytes : List ℕ) (file : PlainFile) → (written number offset bytes file).id ≡ file.id
unfolding written
id_of_written number offset bytes file = refl

pub name_of_written : (number offset : ℕ) (bytes : List ℕ) (file : PlainFile) → (written number offset bytes file).name ≡ file.name
unfolding written
name_of_written number offset bytes file = refl

-- it has the blocks that its size takes
pub count_of_written : (number offset : ℕ) (bytes : List ℕ) (file : PlainFile) → length (written number offset bytes file).blocks ≡ blocks_of_size (max file.size (offset + length bytes))
unfolding written
count_of_written number offset bytes file = length_each (blocks_of_size (max file.size (offset + length bytes))) (written_block number offset bytes file.blocks)

-- each of its blocks has 4,096 bytes
whole_written : (number offset : ℕ) (bytes : List ℕ) (file : PlainFile) (k : ℕ) → IsPlainFile file → length (bytes_of_block (block_at k (written number offset bytes file).blocks)) ≡ 4096
whole_written number offset bytes file k plain =
    ⊎_elim
    (λ (within : k < blocks_of_size (max file.size (offset + length bytes))).
    ap (λ (block : PlainBlock). length (bytes_of_block block)) (block_of_written number offset bytes file k within)
    ∙ ⊎_elim
    (λ (is : touches offset (length bytes) k ≡ true).
    let parts = and_parts (nat_lt (k * 4096) (offset + length bytes)) (nat_lt offset (k * 4096 + 4096)) is in
    ap (λ (block : PlainBlock). length (bytes_of_block block)) (made_where_touched number offset bytes file.blocks k is)
    ∙ length_of_made number offset bytes file.blocks k (plain.whole k) (ltb-true offset (k * 4096 + 4096) parts.1))
    (λ (is : touches offset (length bytes) k ≡ false).
    ap (λ (block : PlainBlock). length (bytes_of_block block)) (kept_where_untouched number offset bytes file.blocks k is) ∙ plain.whole k)
    (cases_Bool (touches offset (length bytes) k)))
    (λ (past : blocks_of_size (max file.size (offset + length bytes)) ≤ k).
    ap (λ (block : PlainBlock). length (bytes_of_block block)) (block_past_written number offset bytes file k past) ∙ length_zeros)
    (cases_lt k (blocks_of_size (max file.size (offset + length bytes))))

-- a plain file stays one
pub plain_once_written : (number offset : ℕ) (bytes : List ℕ) (file : PlainFile) → IsPlainFile file → IsPlainFile (written number offset bytes file)
plain_once_written number offset bytes file plain =
    let size = size_of_written number offset bytes file in
    record {
      blocks = count_of_written number offset bytes file ∙ ap blocks_of_size (sym size);
      whole = λ k. whole_written number offset bytes file k plain;
      zero_past = λ i past. let far : max file.size (offset + length bytes) ≤ i = rw size at past in byte_not_written number offset bytes file i plain (inr (omega arith)) ∙ plain.zero_past i (omega arith);
    }

-- a read of the range that was written gives the bytes
pub read_of_written : (number offset : ℕ) (bytes : List ℕ) (file : PlainFile) → IsPlainFile file → bytes_from offset (length bytes) (written number offset bytes file) ≡ bytes
read_of_written number offset bytes file plain =
    let after = written number offset bytes file in
    let count : min (length bytes) (after.size - offset) ≡ length bytes = omega (arith, size_of_written number offset bytes file) in
    bytes_from_each offset (length bytes) after
    ∙ ap (λ (n : ℕ). each n (λ i. byte_of after (offset + i))) count
    ∙ sym (each_from_items (λ i. byte_of after (offset + i)) bytes (length bytes) 0 refl
    (λ k within.
    let place : offset + k - offset ≡ k = omega arith in
    sym (byte_written number offset bytes file (offset + k) plain (omega arith) (omega arith) ∙ ap (λ (n : ℕ). get_or bytes n 0) place)))

-- a read of bytes of the old file, of which none was written, gives the old bytes
pub read_beside_written : (number offset : ℕ) (bytes : List ℕ) (file : PlainFile) (from len : ℕ) → IsPlainFile file → from + len ≤ file.size → (from + len ≤ offset) ⊎ (offset + length bytes ≤ from)
    → bytes_from from len (written number offset bytes file) ≡ bytes_from from len file
read_beside_written number offset bytes file from len plain inside apart =
    let after = written number offset bytes file in
    let count : min len (after.size - from) ≡ len = omega (arith, size_of_written number offset bytes file) in
    let before : min len (file.size - from) ≡ len = omega arith in
    bytes_from_each from len after
    ∙ ap (λ (n : ℕ). each n (λ i. byte_of after (from + i))) count
    ∙ each_same len (λ i. byte_of after (from + i)) (λ i. byte_of file (from + i)) (λ i within. byte_not_written number offset bytes file (from + i) plain (beside i within))
    ∙ ap (λ (n : ℕ). each n (λ i. byte_of file (from + i))) (sym before)
    ∙ sym (bytes_from_each from len file)
  where
    beside : (i : ℕ) → i < len → (from + i < offset) ⊎ (offset + length bytes ≤ from + i)
    beside i within = ⊎_elim (λ (front : from + len ≤ offset). inl (omega arith)) (λ (back : offset + length bytes ≤ from). inr (omega arith)) apart
