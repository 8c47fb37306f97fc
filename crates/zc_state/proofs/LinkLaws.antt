-- The blocks of a chain: a block that names a next place, or none, is a link over the bytes after the name.
use Rattle.std.proofs.Common.{◌≡◌, ◌∙◌, ℕ, zero, suc, ◌+◌, ◌-◌, ◌≤◌, Bool, true, false, eqb, List, [], ◌∷◌, ◌++◌, length, take, drop, replicate, Option, Some, None, refl, sym, ap, length-append, arith}
use Rattle.std.specs.List.{list_all}
use Rattle.std.proofs.lemmas.Bool.{eqb-true, and_parts}
use Rattle.std.proofs.lemmas.List.{take_at, drop_at, drop-drop, length-take, length-drop, take-append-le, take-append-drop}
use Rattle.zc_num.specs.declared.numbers.PlaceAt.{PlaceAt}
use Rattle.zc_wire.specs.Numbers.{u32_bytes, IsBytes}
use Rattle.zc_wire.proofs.Numbers.{u32_bytes_length}
use Rattle.zc_catalog.specs.Chain.{place_bytes, end_mark, last_link, inner_link, next_in}
use Rattle.zc_catalog.proofs.ChainLaws.{last_names_none, inner_again, last_again}
use Rattle.zc_state.specs.Reading.{is_last}

-- 4,096 bytes
abbrev pub IsBlock : List ℕ → Type 0
IsBlock block = (length block ≡ 4096) × IsBytes block

-- ---- zeros

-- only zeros
zeros : (bytes : List ℕ) → list_all (λ byte. eqb byte 0) bytes ≡ true → bytes ≡ replicate (length bytes) 0
zeros [] e = refl
zeros (byte ∷ bytes) e =
    let both = and_parts (eqb byte 0) (list_all (λ other. eqb other 0) bytes) e in
    let first : byte ≡ 0 = eqb-true byte 0 both.0 in
    let rest : bytes ≡ replicate (length bytes) 0 = zeros bytes both.1 in
    λ i. first i ∷ rest i

are_zeros : (n : ℕ) → list_all (λ byte. eqb byte 0) (replicate n 0) ≡ true
are_zeros zero = refl
are_zeros (suc n) = are_zeros n

-- ---- a block is a link

-- a block that ends a chain names no place, and its zeros are zeros
ends_parts : (next : Option PlaceAt) (test : Bool) → elim next [ None ↦ test | Some at ↦ false ] ≡ true → (next ≡ None) × (test ≡ true)
ends_parts None test e = (refl, e)
ends_parts (Some at) test e = absurd cc

ends_again : (next : Option PlaceAt) (test : Bool) → next ≡ None → test ≡ true → elim next [ None ↦ test | Some at ↦ false ] ≡ true
ends_again None test e holds = holds
ends_again (Some at) test e holds = absurd cc

-- a block that ends a chain is the last link of its bytes
pub last_is_link : (count : ℕ) (block : List ℕ) → IsBlock block → count ≤ 4088 → is_last count block ≡ true → block ≡ last_link (take count (drop 8 block))
unfolding last_link
last_is_link count block is few e =
    let parts = ends_parts (next_in block) (list_all (λ byte. eqb byte 0) (drop (8 + count) block)) e in
    let behind : List ℕ = drop 8 block in
    let long : length behind ≡ 4088 = omega (arith, length-drop 8 block, is.0) in
    let rest_is : drop count behind ≡ replicate (4088 - length (take count behind)) 0 =
    drop-drop count 8 block ∙ zeros (drop (8 + count) block) parts.1
    ∙ ap (λ (n : ℕ). replicate n 0) (omega (arith, length-drop (8 + count) block, length-take count behind, is.0, long)) in
    let back : behind ≡ take count behind ++ replicate (4088 - length (take count behind)) 0 =
    sym (take-append-drop count behind) ∙ ap (λ (t : List ℕ). take count behind ++ t) rest_is in
    last_again block is.0 is.1 parts.0 ∙ ap (λ (t : List ℕ). end_mark ++ t) back

-- a block that names a next place is a link before others
pub inner_is_link : (block rest : List ℕ) (next : PlaceAt) → IsBlock block → next_in block ≡ Some next → block ≡ inner_link next (drop 8 block ++ rest)
unfolding inner_link
inner_is_link block rest next is e =
    inner_again block next is.0 is.1 e
    ∙ ap (λ (t : List ℕ). place_bytes next ++ t) (sym (take-append-le 4088 (drop 8 block) rest (omega (arith, length-drop 8 block, is.0))))

-- ---- a link is such a block

-- what stands after the name of the last link
after_mark : (bytes : List ℕ) → drop 8 (last_link bytes) ≡ bytes ++ replicate (4088 - length bytes) 0
unfolding last_link end_mark
after_mark bytes = drop_at end_mark (bytes ++ replicate (4088 - length bytes) 0) 8 (omega (arith, length-append (u32_bytes 4294967295) (u32_bytes 4294967295), u32_bytes_length 4294967295))

-- the last link ends a chain
pub link_is_last : (bytes : List ℕ) → is_last (length bytes) (last_link bytes) ≡ true
link_is_last bytes =
    let behind : List ℕ = replicate (4088 - length bytes) 0 in
    let back : drop (8 + length bytes) (last_link bytes) ≡ behind =
    sym (drop-drop (length bytes) 8 (last_link bytes)) ∙ ap (drop (length bytes)) (after_mark bytes) ∙ drop_at bytes behind (length bytes) refl in
    ends_again (next_in (last_link bytes)) _ (last_names_none bytes) (ap (list_all (λ byte. eqb byte 0)) back ∙ are_zeros (4088 - length bytes))

-- its bytes
pub bytes_of_last : (bytes : List ℕ) → take (length bytes) (drop 8 (last_link bytes)) ≡ bytes
bytes_of_last bytes = ap (take (length bytes)) (after_mark bytes) ∙ take_at bytes (replicate (4088 - length bytes) 0) (length bytes) refl

-- the bytes of a link before others
pub bytes_of_inner : (next : PlaceAt) (bytes : List ℕ) → drop 8 (inner_link next bytes) ≡ take 4088 bytes
unfolding inner_link
bytes_of_inner next bytes =
    drop_at (place_bytes next) (take 4088 bytes) 8 (omega (arith, length-append (u32_bytes next.device) (u32_bytes next.place), u32_bytes_length next.device, u32_bytes_length next.place))
