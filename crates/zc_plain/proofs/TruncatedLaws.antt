-- A file after its size was set, byte by byte.
use Rattle.std.proofs.Common.{◌≡◌, ℕ, ◌+◌, ◌-◌, ◌*◌, ◌/◌, ◌%◌, ◌&&◌, ◌<◌, ◌≤◌, nat_lt, true, false, List, length, replicate, get_or, refl, sym, ap, ◌∙◌, ⊎_elim, arith}
use Rattle.std.proofs.lemmas.Bool.{cases_lt, cases_Bool, and_parts, ltb-true, ltb-false}
use Rattle.std.proofs.lemmas.List.{get_or_past, get_or-replicate, length-replicate}
use Rattle.zc_num.specs.Words.{each}
use Rattle.zc_num.proofs.Each.{length_each, item_of_each}
use Rattle.zc_num.proofs.Edits.{length_edited, byte_before_edit, byte_in_edit}
use Rattle.zc_plain.specs.declared.plain_pool.PlainBlock.{PlainBlock}
use Rattle.zc_plain.specs.declared.plain_pool.PlainBlock.TheVariants.{Hole, Made}
use Rattle.zc_plain.specs.declared.plain_pool.PlainFile.{PlainFile}
use Rattle.zc_plain.specs.PlainPool.{blocks_of_size, bytes_of_block, block_at, byte_of, is_made}
use Rattle.zc_plain.specs.Truncated.{is_inside, is_trimmed, kept_in, trimmed_block, truncated_block, truncated}
use Rattle.zc_plain.specs.IsPlain.{IsPlainFile}
use Rattle.zc_plain.proofs.Bytes.{zero_of_zeros, length_zeros}
use Rattle.zc_plain.proofs.Together.{block_by_place}

-- it keeps its number and its name, and has the size
pub id_of_truncated : (number size : ℕ) (file : PlainFile) → (truncated number size file).id ≡ file.id
unfolding truncated
id_of_truncated number size file = refl

pub name_of_truncated : (number size : ℕ) (file : PlainFile) → (truncated number size file).name ≡ file.name
unfolding truncated
name_of_truncated number size file = refl

pub size_of_truncated : (number size : ℕ) (file : PlainFile) → (truncated number size file).size ≡ size
unfolding truncated
size_of_truncated number size file = refl

-- it has the blocks that its size takes
pub count_of_truncated : (number size : ℕ) (file : PlainFile) → length (truncated number size file).blocks ≡ blocks_of_size size
unfolding truncated
count_of_truncated number size file = length_each (blocks_of_size size) (truncated_block number file.size size file.blocks)

-- its blocks
block_of_truncated : (number size : ℕ) (file : PlainFile) (k : ℕ) → k < blocks_of_size size → block_at k (truncated number size file).blocks ≡ truncated_block number file.size size file.blocks k
unfolding truncated
block_of_truncated number size file k within =
    let f = truncated_block number file.size size file.blocks in
    block_by_place (each (blocks_of_size size) f) k ∙ item_of_each (blocks_of_size size) f k Hole within

block_past_truncated : (number size : ℕ) (file : PlainFile) (k : ℕ) → blocks_of_size size ≤ k → block_at k (truncated number size file).blocks ≡ Hole
unfolding truncated
block_past_truncated number size file k past =
    let f = truncated_block number file.size size file.blocks in
    block_by_place (each (blocks_of_size size) f) k ∙ get_or_past (each (blocks_of_size size) f) k Hole (rw length_each past)

pub made_where_trimmed : (number old size : ℕ) (blocks : List PlainBlock) (k : ℕ) → is_trimmed old size blocks k ≡ true → truncated_block number old size blocks k ≡ trimmed_block number size blocks k
unfolding truncated_block
made_where_trimmed number old size blocks k is = rw is refl

pub kept_where_uncut : (number old size : ℕ) (blocks : List PlainBlock) (k : ℕ) → is_trimmed old size blocks k ≡ false → truncated_block number old size blocks k ≡ block_at k blocks
unfolding truncated_block
kept_where_uncut number old size blocks k is = rw is refl

-- where a file is trimmed
pub trimmed_lies : (old size : ℕ) (blocks : List PlainBlock) (k : ℕ) → is_trimmed old size blocks k ≡ true → (size < old) × (k * 4096 < size) × (size < k * 4096 + 4096)
trimmed_lies old size blocks k is =
    let parts = and_parts (nat_lt size old) (is_inside size k && is_made (block_at k blocks)) is in
    let inner = and_parts (is_inside size k) (is_made (block_at k blocks)) parts.1 in
    let sides = and_parts (nat_lt (k * 4096) size) (nat_lt size (k * 4096 + 4096)) inner.0 in
    (ltb-true size old parts.0, ltb-true (k * 4096) size sides.0, ltb-true size (k * 4096 + 4096) sides.1)

-- the zeros of a trimmed block end where it does
zeros_fit : (k size : ℕ) → size < k * 4096 + 4096 → kept_in k size + length {A = ℕ} (replicate (4096 - kept_in k size) 0) ≤ 4096
zeros_fit k size ends = let many = length-replicate {A = ℕ} (4096 - kept_in k size) 0 in omega (arith, many)

-- a block that is trimmed has as many bytes as before
length_of_trimmed : (number size : ℕ) (blocks : List PlainBlock) (k : ℕ) → length (bytes_of_block (block_at k blocks)) ≡ 4096 → size < k * 4096 + 4096 → length (bytes_of_block (trimmed_block number size blocks k)) ≡ 4096
unfolding trimmed_block
length_of_trimmed number size blocks k whole ends =
    length_edited (bytes_of_block (block_at k blocks)) (kept_in k size) (replicate (4096 - kept_in k size) 0) (omega (arith, whole, zeros_fit k size ends)) ∙ whole

-- its bytes from the size on are 0
byte_past_trimmed : (number size : ℕ) (blocks : List PlainBlock) (k j : ℕ) → length (bytes_of_block (block_at k blocks)) ≡ 4096 → size < k * 4096 + 4096 → j < 4096 → size ≤ k * 4096 + j
    → get_or (bytes_of_block (trimmed_block number size blocks k)) j 0 ≡ 0
unfolding trimmed_block
byte_past_trimmed number size blocks k j whole ends inside past =
    let kept = kept_in k size in
    let zeros_there : List ℕ = replicate (4096 - kept) 0 in
    let fits : kept + length zeros_there ≤ length (bytes_of_block (block_at k blocks)) = omega (arith, whole, zeros_fit k size ends) in
    let many : length zeros_there ≡ 4096 - kept = length-replicate {A = ℕ} (4096 - kept) 0 in
    byte_in_edit (bytes_of_block (block_at k blocks)) kept zeros_there j 0 fits (omega arith) (omega (arith, many))
    ∙ get_or-replicate (4096 - kept) (j - kept) 0 0 (omega arith)

-- and those before are as they were
byte_before_trimmed : (number size : ℕ) (blocks : List PlainBlock) (k j : ℕ) → length (bytes_of_block (block_at k blocks)) ≡ 4096 → size < k * 4096 + 4096 → k * 4096 + j < size
    → get_or (bytes_of_block (trimmed_block number size blocks k)) j 0 ≡ get_or (bytes_of_block (block_at k blocks)) j 0
unfolding trimmed_block
byte_before_trimmed number size blocks k j whole ends before =
    let kept = kept_in k size in
    let zeros_there : List ℕ = replicate (4096 - kept) 0 in
    let fits : kept + length zeros_there ≤ length (bytes_of_block (block_at k blocks)) = omega (arith, whole, zeros_fit k size ends) in
    byte_before_edit (bytes_of_block (block_at k blocks)) kept zeros_there j 0 fits (omega arith)

-- a byte is one of its block
by_block : (file : PlainFile) (i : ℕ) (block : PlainBlock) → block_at (i / 4096) file.blocks ≡ block → byte_of file i ≡ get_or (bytes_of_block block) (i % 4096) 0
unfolding byte_of
by_block file i block is = ap (λ (b : PlainBlock). get_or (bytes_of_block b) (i % 4096) 0) is

-- a byte before the size is as it was
pub byte_before_size : (number size : ℕ) (file : PlainFile) (i : ℕ) → IsPlainFile file → i < size → byte_of (truncated number size file) i ≡ byte_of file i
byte_before_size number size file i plain before =
    let k = i / 4096 in
    let j = i % 4096 in
    ⊎_elim
    (λ (is : is_trimmed file.size size file.blocks k ≡ true).
    let lies = trimmed_lies file.size size file.blocks k is in
    by_block (truncated number size file) i (trimmed_block number size file.blocks k) (block_of_truncated number size file k (omega arith) ∙ made_where_trimmed number file.size size file.blocks k is)
    ∙ byte_before_trimmed number size file.blocks k j (plain.whole k) lies.2 (omega arith)
    ∙ sym (by_block file i (block_at k file.blocks) refl))
    (λ (is : is_trimmed file.size size file.blocks k ≡ false).
    by_block (truncated number size file) i (block_at k file.blocks) (block_of_truncated number size file k (omega arith) ∙ kept_where_uncut number file.size size file.blocks k is)
    ∙ sym (by_block file i (block_at k file.blocks) refl))
    (cases_Bool (is_trimmed file.size size file.blocks k))

-- a hole has zeros alone
zero_in_hole : (block : PlainBlock) (j : ℕ) → is_made block ≡ false → get_or (bytes_of_block block) j 0 ≡ 0
zero_in_hole Hole j is = zero_of_zeros j
zero_in_hole (Made entry index bytes) j is = cc

-- a byte that is past the size, in the block inside which the size lies, where the file isn't trimmed there
zero_where_uncut : (size : ℕ) (file : PlainFile) (i : ℕ) → IsPlainFile file → size ≤ i → i / 4096 < blocks_of_size size → is_trimmed file.size size file.blocks (i / 4096) ≡ false
    → byte_of file i ≡ 0
zero_where_uncut size file i plain past within is =
    let k = i / 4096 in
    ⊎_elim
    (λ (longer : size < file.size).
    ⊎_elim
    (λ (made : is_made (block_at k file.blocks) ≡ true).
    let first : nat_lt size file.size ≡ true = is_less size file.size longer in
    let low : nat_lt (k * 4096) size ≡ true = is_less (k * 4096) size (omega arith) in
    let high : nat_lt size (k * 4096 + 4096) ≡ true = is_less size (k * 4096 + 4096) (omega arith) in
    let trimmed : is_trimmed file.size size file.blocks k ≡ true = rw (first, low, high, made) refl in
    let both : true ≡ false = sym trimmed ∙ is in
    cc)
    (λ (hole : is_made (block_at k file.blocks) ≡ false).
    by_block file i (block_at k file.blocks) refl ∙ zero_in_hole (block_at k file.blocks) (i % 4096) hole)
    (cases_Bool (is_made (block_at k file.blocks))))
    (λ (shorter : file.size ≤ size). plain.zero_past i (omega arith))
    (cases_lt size file.size)
  where
    is_less : (a b : ℕ) → a < b → nat_lt a b ≡ true
    is_less a b less =
        ⊎_elim (λ (yes' : nat_lt a b ≡ true). yes')
        (λ (no' : nat_lt a b ≡ false). let not_less = ltb-false a b no' in absurd (omega arith))
        (cases_Bool (nat_lt a b))

-- every byte from the size on is 0
pub zero_past_size : (number size : ℕ) (file : PlainFile) (i : ℕ) → IsPlainFile file → size ≤ i → byte_of (truncated number size file) i ≡ 0
zero_past_size number size file i plain past =
    let k = i / 4096 in
    ⊎_elim
    (λ (within : k < blocks_of_size size).
    ⊎_elim
    (λ (is : is_trimmed file.size size file.blocks k ≡ true).
    let lies = trimmed_lies file.size size file.blocks k is in
    by_block (truncated number size file) i (trimmed_block number size file.blocks k) (block_of_truncated number size file k within ∙ made_where_trimmed number file.size size file.blocks k is)
    ∙ byte_past_trimmed number size file.blocks k (i % 4096) (plain.whole k) lies.2 (omega arith) (omega arith))
    (λ (is : is_trimmed file.size size file.blocks k ≡ false).
    by_block (truncated number size file) i (block_at k file.blocks) (block_of_truncated number size file k within ∙ kept_where_uncut number file.size size file.blocks k is)
    ∙ sym (by_block file i (block_at k file.blocks) refl)
    ∙ zero_where_uncut size file i plain past within is)
    (cases_Bool (is_trimmed file.size size file.blocks k)))
    (λ (behind : blocks_of_size size ≤ k).
    by_block (truncated number size file) i Hole (block_past_truncated number size file k behind) ∙ zero_of_zeros (i % 4096))
    (cases_lt k (blocks_of_size size))

-- each of its blocks has 4,096 bytes
whole_truncated : (number size : ℕ) (file : PlainFile) (k : ℕ) → IsPlainFile file → length (bytes_of_block (block_at k (truncated number size file).blocks)) ≡ 4096
whole_truncated number size file k plain =
    ⊎_elim
    (λ (within : k < blocks_of_size size).
    ap (λ (block : PlainBlock). length (bytes_of_block block)) (block_of_truncated number size file k within)
    ∙ ⊎_elim
    (λ (is : is_trimmed file.size size file.blocks k ≡ true).
    let lies = trimmed_lies file.size size file.blocks k is in
    ap (λ (block : PlainBlock). length (bytes_of_block block)) (made_where_trimmed number file.size size file.blocks k is) ∙ length_of_trimmed number size file.blocks k (plain.whole k) lies.2)
    (λ (is : is_trimmed file.size size file.blocks k ≡ false).
    ap (λ (block : PlainBlock). length (bytes_of_block block)) (kept_where_uncut number file.size size file.blocks k is) ∙ plain.whole k)
    (cases_Bool (is_trimmed file.size size file.blocks k)))
    (λ (past : blocks_of_size size ≤ k). ap (λ (block : PlainBlock). length (bytes_of_block block)) (block_past_truncated number size file k past) ∙ length_zeros)
    (cases_lt k (blocks_of_size size))

-- a plain file stays one
pub plain_once_truncated : (number size : ℕ) (file : PlainFile) → IsPlainFile file → IsPlainFile (truncated number size file)
plain_once_truncated number size file plain =
    let is = size_of_truncated number size file in
    record {
      blocks = count_of_truncated number size file ∙ ap blocks_of_size (sym is);
      whole = λ k. whole_truncated number size file k plain;
      zero_past = λ i past. let far : size ≤ i = rw is at past in zero_past_size number size file i plain far;
    }
