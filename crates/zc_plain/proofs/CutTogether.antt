-- A file whose size was set, put together from its blocks.
use Rattle.std.proofs.Common.{◌≡◌, ◌≢◌, ℕ, ◌/◌, ◌<◌, true, false, List, length, set, get_or, Option, Some, None, refl, sym, ap, subst, ◌∙◌, ⊎_elim, arith}
use Rattle.std.specs.Prelude.{if◌then◌else◌}
use Rattle.std.proofs.lemmas.Bool.{cases_Bool, cases_eq}
use Rattle.std.proofs.lemmas.List.{get_or-take, get_or-set_same, get_or-set_other, length-take, length-set}
use Rattle.zc_num.proofs.Each.{each_from_items}
use Rattle.zc_plain.specs.declared.plain_pool.PlainBlock.{PlainBlock}
use Rattle.zc_plain.specs.declared.plain_pool.PlainBlock.TheVariants.{Hole}
use Rattle.zc_plain.specs.declared.plain_pool.PlainFile.{PlainFile}
use Rattle.zc_plain.specs.PlainPool.{blocks_of_size, block_at}
use Rattle.zc_plain.specs.Truncated.{is_trimmed, trimmed_block, truncated_block, truncated}
use Rattle.zc_plain.specs.Putting.{grown, resized}
use Rattle.zc_plain.proofs.Together.{grown_block, length_grown}
use Rattle.zc_plain.proofs.TruncatedLaws.{trimmed_lies, made_where_trimmed, kept_where_uncut}

-- there are so many blocks
pub length_resized : (count : ℕ) (blocks : List PlainBlock) → length (resized count blocks) ≡ count
unfolding resized
length_resized count blocks = simp length-take (omega (arith, length_grown count blocks))

-- and those that were there are
resized_block : (count : ℕ) (blocks : List PlainBlock) (k : ℕ) → k < count → get_or (resized count blocks) k Hole ≡ block_at k blocks
unfolding resized
resized_block count blocks k within = get_or-take count (grown count blocks) k Hole within ∙ grown_block count blocks k

-- a file is trimmed in the block of its last byte alone
trimmed_there_alone : (old size : ℕ) (blocks : List PlainBlock) (k : ℕ) → k ≢ size / 4096 → is_trimmed old size blocks k ≡ false
trimmed_there_alone old size blocks k apart =
    ⊎_elim
    (λ (is : is_trimmed old size blocks k ≡ true).
    let lies = trimmed_lies old size blocks k is in
    let same : k ≡ size / 4096 = omega (arith, lies.1, lies.2) in
    absurd (apart same))
    (λ (not : is_trimmed old size blocks k ≡ false). not)
    (cases_Bool (is_trimmed old size blocks k))

-- a block that is trimmed is one of those that stay
pub trimmed_within : (old size : ℕ) (blocks : List PlainBlock) → is_trimmed old size blocks (size / 4096) ≡ true → size / 4096 < blocks_of_size size
trimmed_within old size blocks is = let lies = trimmed_lies old size blocks (size / 4096) is in omega (arith, lies.1)

-- a file that is trimmed in no block
pub truncated_uncut : (number size : ℕ) (file : PlainFile) → is_trimmed file.size size file.blocks (size / 4096) ≡ false
    → record file { size = size; blocks = resized (blocks_of_size size) file.blocks } ≡ truncated number size file
unfolding truncated
truncated_uncut number size file uncut =
    ap (λ (blocks : List PlainBlock). record file { size = size; blocks = blocks })
    (each_from_items (truncated_block number file.size size file.blocks) (resized (blocks_of_size size) file.blocks) (blocks_of_size size) Hole (length_resized (blocks_of_size size) file.blocks)
    (λ k within. resized_block (blocks_of_size size) file.blocks k within ∙ sym (kept_where_uncut number file.size size file.blocks k (nowhere k))))
  where
    nowhere : (k : ℕ) → is_trimmed file.size size file.blocks k ≡ false
    nowhere k =
        ⊎_elim
        (λ (same : k ≡ size / 4096). subst (λ (n : ℕ). is_trimmed file.size size file.blocks n ≡ false) (sym same) uncut)
        (λ (apart : k ≢ size / 4096). trimmed_there_alone file.size size file.blocks k apart)
        (cases_eq k (size / 4096))

-- a file that is trimmed in a block
pub truncated_trimmed : (number size : ℕ) (file : PlainFile) → is_trimmed file.size size file.blocks (size / 4096) ≡ true
    → record file { size = size; blocks = set (resized (blocks_of_size size) file.blocks) (size / 4096) (trimmed_block number size file.blocks (size / 4096)) } ≡ truncated number size file
unfolding truncated
truncated_trimmed number size file is =
    let count = blocks_of_size size in
    let at = size / 4096 in
    let all = resized count file.blocks in
    let block = trimmed_block number size file.blocks at in
    let within : at < length all = rw length_resized (trimmed_within file.size size file.blocks is) in
    ap (λ (blocks : List PlainBlock). record file { size = size; blocks = blocks })
    (each_from_items (truncated_block number file.size size file.blocks) (set all at block) count Hole (length-set all at block ∙ length_resized count file.blocks)
    (λ k inside.
    ⊎_elim
    (λ (same : k ≡ at).
    subst (λ (n : ℕ). get_or (set all at block) n Hole ≡ truncated_block number file.size size file.blocks n) (sym same)
    (get_or-set_same all at block Hole within ∙ sym (made_where_trimmed number file.size size file.blocks at is)))
    (λ (apart : k ≢ at).
    get_or-set_other all at k block Hole apart ∙ resized_block count file.blocks k inside
    ∙ sym (kept_where_uncut number file.size size file.blocks k (trimmed_there_alone file.size size file.blocks k apart)))
    (cases_eq k at)))

-- the block in which a file is trimmed, made anew, where there is one
abbrev pub trimmed_of : ℕ → ℕ → PlainFile → Option PlainBlock
trimmed_of number size file = if is_trimmed file.size size file.blocks (size / 4096) then Some (trimmed_block number size file.blocks (size / 4096)) else None

abbrev some_block : PlainBlock → Option PlainBlock
some_block block = Some block

-- where there is one, it is one of those that stay
pub trimmed_fits : (number size count : ℕ) (file : PlainFile) (blocks : List PlainBlock) (trimmed : Option PlainBlock) (block : PlainBlock) → count ≡ blocks_of_size size → blocks ≡ resized count file.blocks
    → trimmed ≡ trimmed_of number size file → trimmed ≡ Some block → size / 4096 < length blocks
trimmed_fits number size count file blocks trimmed block many put is there =
    ⊎_elim
    (λ (trims : is_trimmed file.size size file.blocks (size / 4096) ≡ true). rw (put, length_resized, many) (trimmed_within file.size size file.blocks trims))
    (λ (leaves : is_trimmed file.size size file.blocks (size / 4096) ≡ false). nothing block (sym there ∙ is ∙ rw leaves refl))
    (cases_Bool (is_trimmed file.size size file.blocks (size / 4096)))
  where
    nothing : {A : Type 0} (block : PlainBlock) → some_block block ≡ None → A
    nothing block e = cc

-- the file with that block put into its place
pub truncated_with : (number size count : ℕ) (file : PlainFile) (trimmed : Option PlainBlock) (block : PlainBlock) → count ≡ blocks_of_size size → trimmed ≡ trimmed_of number size file → trimmed ≡ Some block
    → record file { size = size; blocks = set (resized count file.blocks) (size / 4096) block } ≡ truncated number size file
truncated_with number size count file trimmed block many is there =
    ⊎_elim
    (λ (trims : is_trimmed file.size size file.blocks (size / 4096) ≡ true).
    let same : block ≡ trimmed_block number size file.blocks (size / 4096) = one block (trimmed_block number size file.blocks (size / 4096)) (sym there ∙ is ∙ rw trims refl) in
    rw (many, same) (truncated_trimmed number size file trims))
    (λ (leaves : is_trimmed file.size size file.blocks (size / 4096) ≡ false). nothing block (sym there ∙ is ∙ rw leaves refl))
    (cases_Bool (is_trimmed file.size size file.blocks (size / 4096)))
  where
    nothing : {A : Type 0} (block : PlainBlock) → some_block block ≡ None → A
    nothing block e = cc

    one : (a b : PlainBlock) → some_block a ≡ some_block b → a ≡ b
    one a b e = cc

-- the file without one
pub truncated_without : (number size count : ℕ) (file : PlainFile) (trimmed : Option PlainBlock) → count ≡ blocks_of_size size → trimmed ≡ trimmed_of number size file → trimmed ≡ None
    → record file { size = size; blocks = resized count file.blocks } ≡ truncated number size file
truncated_without number size count file trimmed many is there =
    ⊎_elim
    (λ (trims : is_trimmed file.size size file.blocks (size / 4096) ≡ true). nothing (trimmed_block number size file.blocks (size / 4096)) (sym (sym there ∙ is ∙ rw trims refl)))
    (λ (leaves : is_trimmed file.size size file.blocks (size / 4096) ≡ false). rw many (truncated_uncut number size file leaves))
    (cases_Bool (is_trimmed file.size size file.blocks (size / 4096)))
  where
    nothing : {A : Type 0} (block : PlainBlock) → some_block block ≡ None → A
    nothing block e = cc
