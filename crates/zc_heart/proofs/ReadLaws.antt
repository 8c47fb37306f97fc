-- The bytes of a file by runs of its blocks, and whether it is trimmed.
use Rattle.std.proofs.Common.{◌≡◌, ◌≢◌, ℕ, ◌+◌, ◌*◌, ◌/◌, ◌%◌, ◌<◌, ◌≤◌, ◌&&◌, nat_lt, true, false, List, [], ◌++◌, take, drop, length, get_or, refl, sym, ap, ◌∙◌, ⊎_elim, arith}
use Rattle.std.proofs.lemmas.Bool.{cases_Bool, lt-ltb, le-ltb, and_left}
use Rattle.std.proofs.lemmas.List.{get_or-take, get_or-drop, length-take, length-drop}
use Rattle.zc_num.specs.Words.{each}
use Rattle.zc_num.proofs.Each.{length_each, item_of_each, each_none, each_from_items, each_same, each_append}
use Rattle.zc_plain.specs.declared.plain_pool.PlainBlock.{PlainBlock}
use Rattle.zc_plain.specs.declared.plain_pool.PlainBlock.TheVariants.{Hole}
use Rattle.zc_plain.specs.PlainPool.{is_made as is_held}
use Rattle.zc_plain.specs.PlainPool.{blocks_of_size, bytes_of_block, block_at, byte_of}
use Rattle.zc_plain.specs.Truncated.{is_trimmed, is_inside}
use Rattle.zc_plain.proofs.Together.{block_by_place}
use Rattle.zc_plain.proofs.TruncatedLaws.{trimmed_lies}
use Rattle.zc_heart.specs.declared.file.HeartFile.{HeartFile}
use Rattle.zc_heart.specs.Core.{plain_blocks}
use Rattle.zc_heart.specs.File.{bare}
use Rattle.zc_heart.specs.Steps.{held_at}

-- a block before the end is the one that is held
block_within : (file : HeartFile) (k : ℕ) → k < blocks_of_size file.size → block_at k (plain_blocks file) ≡ held_at k file
block_within file k within = block_by_place (plain_blocks file) k ∙ item_of_each (blocks_of_size file.size) (λ j. held_at j file) k Hole within

-- a byte of it
byte_within : (file : HeartFile) (k start i : ℕ) → start + i < 4096 → k * 4096 + start + i < file.size → get_or (bytes_of_block (held_at k file)) (start + i) 0 ≡ byte_of (bare file) (k * 4096 + start + i)
unfolding byte_of
byte_within file k start i inside within =
    let block : (k * 4096 + start + i) / 4096 ≡ k = omega (arith, inside) in
    let place : (k * 4096 + start + i) % 4096 ≡ start + i = omega (arith, inside) in
    let here : k < blocks_of_size file.size = omega (arith, within) in
    sym
    (ap (λ (n : ℕ). get_or (bytes_of_block (block_at n (plain_blocks file))) ((k * 4096 + start + i) % 4096) 0) block
    ∙ ap (λ (n : ℕ). get_or (bytes_of_block (block_at k (plain_blocks file))) n 0) place
    ∙ ap (λ (held : PlainBlock). get_or (bytes_of_block held) (start + i) 0) (block_within file k here))

-- a run of a block's bytes
run_of_block : (file : HeartFile) (k start count : ℕ) → length (bytes_of_block (held_at k file)) ≡ 4096 → start + count ≤ 4096 → k * 4096 + start + count ≤ file.size
    → take count (drop start (bytes_of_block (held_at k file))) ≡ each count (λ i. byte_of (bare file) (k * 4096 + start + i))
run_of_block file k start count whole inside within =
    let block = bytes_of_block (held_at k file) in
    let run = take count (drop start block) in
    let long : length run ≡ count = simp (length-take, length-drop) (omega (arith, whole, inside)) in
    each_from_items (λ i. byte_of (bare file) (k * 4096 + start + i)) run count 0 long
    (λ i below. get_or-take count (drop start block) i 0 below ∙ get_or-drop start block i 0 ∙ byte_within file k start i (omega (arith, below, inside)) (omega (arith, below, within)))

-- the bytes that were read, and a run more
pub read_more : (file : HeartFile) (offset n count : ℕ) (before behind : List ℕ) → length (bytes_of_block (held_at ((offset + n) / 4096) file)) ≡ 4096 → (offset + n) % 4096 + count ≤ 4096 → offset + n + count ≤ file.size
    → before ≡ each n (λ i. byte_of (bare file) (offset + i)) → behind ≡ before ++ take count (drop ((offset + n) % 4096) (bytes_of_block (held_at ((offset + n) / 4096) file)))
    → behind ≡ each (n + count) (λ i. byte_of (bare file) (offset + i))
read_more file offset n count before behind whole inside within so_far more =
    let k = (offset + n) / 4096 in
    let start = (offset + n) % 4096 in
    let at : k * 4096 + start ≡ offset + n = omega arith in
    let run : take count (drop start (bytes_of_block (held_at k file))) ≡ each count (λ i. byte_of (bare file) (offset + (n + i))) =
    run_of_block file k start count whole inside (omega (arith, at, within))
    ∙ each_same count (λ i. byte_of (bare file) (k * 4096 + start + i)) (λ i. byte_of (bare file) (offset + (n + i)))
    (λ i below. let place : k * 4096 + start + i ≡ offset + (n + i) = omega (arith, at) in ap (byte_of (bare file)) place) in
    more ∙ ap (λ (front : List ℕ). front ++ take count (drop start (bytes_of_block (held_at k file)))) so_far
    ∙ ap (λ (back : List ℕ). each n (λ i. byte_of (bare file) (offset + i)) ++ back) run
    ∙ sym (each_append n count (λ i. byte_of (bare file) (offset + i)))

-- a file that gets no shorter isn't trimmed
pub uncut_past : (old size : ℕ) (blocks : List PlainBlock) (k : ℕ) → old ≤ size → is_trimmed old size blocks k ≡ false
uncut_past old size blocks k past = and_left (nat_lt size old) (is_inside size k && is_held (block_at k blocks)) (le-ltb size old past)

-- nor is one at a block's end
pub uncut_between : (old size : ℕ) (blocks : List PlainBlock) → size % 4096 ≡ 0 → is_trimmed old size blocks (size / 4096) ≡ false
uncut_between old size blocks whole =
    ⊎_elim
    (λ (is : is_trimmed old size blocks (size / 4096) ≡ true). let lies = trimmed_lies old size blocks (size / 4096) is in absurd (omega (arith, lies.1, whole)))
    (λ (no : is_trimmed old size blocks (size / 4096) ≡ false). no)
    (cases_Bool (is_trimmed old size blocks (size / 4096)))

-- any other is trimmed where there is a block
pub trimmed_where_held : (old size : ℕ) (blocks : List PlainBlock) → size < old → size % 4096 ≢ 0 → is_trimmed old size blocks (size / 4096) ≡ is_held (block_at (size / 4096) blocks)
trimmed_where_held old size blocks shorter inside =
    let begins : size / 4096 * 4096 < size = omega (arith, inside) in
    let ends : size < size / 4096 * 4096 + 4096 = omega arith in
    rw (lt-ltb size old shorter, lt-ltb (size / 4096 * 4096) size begins, lt-ltb size (size / 4096 * 4096 + 4096) ends) refl

-- at first no byte was read, and what was read tells how many there are
pub read_none : (bytes : List ℕ) (f : ℕ → ℕ) → bytes ≡ [] → bytes ≡ each (length bytes) f
read_none bytes f is = is ∙ sym (each_none f) ∙ ap (λ (n : ℕ). each n f) (sym (ap length is))

pub read_again : (bytes : List ℕ) (n : ℕ) (f : ℕ → ℕ) → bytes ≡ each n f → bytes ≡ each (length bytes) f
read_again bytes n f is = is ∙ ap (λ (k : ℕ). each k f) (sym (ap length is ∙ length_each n f))
