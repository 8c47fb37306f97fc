-- The blocks of a chain: how they are written, what they name, and that the bytes after their names are the catalogue's.
use Rattle.std.proofs.Common.{min, ◌≡◌, ◌∙◌, ℕ, suc, ◌+◌, ◌-◌, ◌*◌, ◌^◌, ◌<◌, ◌≤◌, Bool, true, false, cond, ◌&&◌, eqb, List, [], ◌∷◌, ◌++◌, length, take, drop, replicate, get_or, Option, Some, None, refl, sym, ap, append_assoc, length-append, arith, ⊎_elim, lit<}
use Rattle.std.specs.List.{flat_map, AllByRecursion}
use Rattle.std.proofs.lemmas.Bool.{cases_lt, cases_Bool, eqb-true, eq-eqb, and_parts, and_from}
use Rattle.std.proofs.lemmas.List.{append-nil, nil_from_length, take_all, take_at, drop_at, drop_all, drop-replicate, length-replicate, length-take, length-drop, take-append-drop, drop_more, drop-drop}
use Rattle.zc_num.specs.declared.numbers.PlaceAt.{PlaceAt}
use Rattle.zc_num.specs.Blocks.{edited}
use Rattle.zc_wire.specs.Numbers.{u32_bytes, u32_of, IsBytes}
use Rattle.zc_wire.proofs.Numbers.{u32_bytes_length, u32_read_back, u32_front}
use Rattle.zc_wire.proofs.Bytes.{bytes_dropped}
use Rattle.zc_catalog.specs.Chain.{chain_length, place_bytes, end_mark, last_link, inner_link, mark_before, link_before, blank, links, next_in}

-- ---- how a block is written

-- a text over the zeros after a front
over_zeros : (front text : List ℕ) (from n : ℕ) → length front ≡ from → edited (front ++ replicate n 0) from text ≡ (front ++ text) ++ replicate (n - length text) 0
over_zeros front text from n len =
    let before : take from (front ++ replicate n 0) ≡ front = take_at front (replicate n 0) from len in
    let behind : drop (from + length text) (front ++ replicate n 0) ≡ replicate (n - length text) 0 =
    sym (drop-drop (length text) from (front ++ replicate n 0)) ∙ ap (drop (length text)) (drop_at front (replicate n 0) from len) ∙ drop-replicate (length text) n 0 in
    (λ i. before i ++ (text ++ behind i)) ∙ sym (append_assoc front text (replicate (n - length text) 0))

-- three texts, each after the one before
pub three_written : (first second third b1 b2 b3 : List ℕ) → length first ≡ 4 → length second ≡ 4
    → b1 ≡ edited blank 0 first → b2 ≡ edited b1 4 second → b3 ≡ edited b2 8 third → b3 ≡ (first ++ second) ++ (third ++ replicate (4088 - length third) 0)
unfolding blank
three_written first second third b1 b2 b3 first_len second_len e1 e2 e3 =
    let f1 : b1 ≡ first ++ replicate 4092 0 = e1 ∙ over_zeros [] first 0 4096 refl ∙ ap (λ (k : ℕ). first ++ replicate (4096 - k) 0) first_len in
    let f2 : b2 ≡ (first ++ second) ++ replicate 4088 0 =
    e2 ∙ ap (λ (b : List ℕ). edited b 4 second) f1 ∙ over_zeros first second 4 4092 first_len ∙ ap (λ (k : ℕ). (first ++ second) ++ replicate (4092 - k) 0) second_len in
    e3 ∙ ap (λ (b : List ℕ). edited b 8 third) f2 ∙ over_zeros (first ++ second) third 8 4088 (length-append first second ∙ (λ i. first_len i + second_len i))
    ∙ append_assoc (first ++ second) third (replicate (4088 - length third) 0)

-- a place and the first bytes, written over zeros
pub link_written : (next : PlaceAt) (bytes device place front b1 b2 b3 : List ℕ) → device ≡ u32_bytes next.device → place ≡ u32_bytes next.place → front ≡ take 4088 bytes
    → b1 ≡ edited blank 0 device → b2 ≡ edited b1 4 place → b3 ≡ edited b2 8 front → b3 ≡ place_bytes next ++ (take 4088 bytes ++ replicate (4088 - length bytes) 0)
link_written next bytes device place front b1 b2 b3 device_is place_is front_is e1 e2 e3 =
    let written = three_written device place front b1 b2 b3 (ap length device_is ∙ u32_bytes_length next.device) (ap length place_is ∙ u32_bytes_length next.place) e1 e2 e3 in
    let zeros : 4088 - length front ≡ 4088 - length bytes = omega (arith, ap length front_is, length-take 4088 bytes) in
    written ∙ (λ i. (device_is i ++ place_is i) ++ (front_is i ++ replicate (zeros i) 0))

-- the bytes that a block holds, and those after them
pub taken_block : (bytes : List ℕ) (k : ℕ) → k ≡ min (length bytes) 4088 → take k bytes ≡ take 4088 bytes
taken_block bytes k is =
    ⊎_elim
    (λ (short : length bytes < 4088).
    let all : length bytes ≤ k = omega (arith, is) in
    take_all k bytes all ∙ sym (take_all 4088 bytes (omega arith)))
    (λ (long : 4088 ≤ length bytes). let same : k ≡ 4088 = omega (arith, is) in ap (λ (n : ℕ). take n bytes) same)
    (cases_lt (length bytes) 4088)

pub dropped_block : (bytes : List ℕ) (k : ℕ) → k ≡ min (length bytes) 4088 → drop k bytes ≡ drop 4088 bytes
dropped_block bytes k is =
    ⊎_elim
    (λ (short : length bytes < 4088).
    let all : length bytes ≤ k = omega (arith, is) in
    drop_all k bytes all ∙ sym (drop_all 4088 bytes (omega arith)))
    (λ (long : 4088 ≤ length bytes). let same : k ≡ 4088 = omega (arith, is) in ap (λ (n : ℕ). drop n bytes) same)
    (cases_lt (length bytes) 4088)

-- what is written is the block with these places after its own
pub written_before : (places : List PlaceAt) (bytes : List ℕ) → length places + 1 ≡ chain_length (length bytes)
    → place_bytes (mark_before places) ++ (take 4088 bytes ++ replicate (4088 - length bytes) 0) ≡ link_before places bytes
unfolding last_link inner_link end_mark
written_before [] bytes fits = ap (λ (t : List ℕ). end_mark ++ (t ++ replicate (4088 - length bytes) 0)) (take_all 4088 bytes (omega (arith, fits)))
written_before (next ∷ places) bytes fits =
    let none : 4088 - length bytes ≡ 0 = omega (arith, fits) in
    ap (λ (k : ℕ). place_bytes next ++ (take 4088 bytes ++ replicate k 0)) none ∙ ap (λ (t : List ℕ). place_bytes next ++ t) (append-nil (take 4088 bytes))

-- ---- the blocks one after the other

-- one more block is made
pub links_go_on : (i : ℕ) (at : List PlaceAt) (made : List (List ℕ)) (block rest back : List ℕ) (behind : List PlaceAt) (total : List (List ℕ)) → i < length at
    → behind ≡ drop (i + 1) at → back ≡ drop 4088 rest → block ≡ link_before behind rest
    → made ++ links (drop i at) rest ≡ total → (made ++ block ∷ []) ++ links (drop (i + 1) at) back ≡ total
links_go_on i [] made block rest back behind total lt later_is back_is block_is so_far = absurd (omega arith)
links_go_on i (first ∷ at) made block rest back behind total lt later_is back_is block_is so_far =
    let here : PlaceAt = get_or (first ∷ at) i first in
    let one : links (drop i (first ∷ at)) rest ≡ link_before (drop (i + 1) (first ∷ at)) rest ∷ links (drop (i + 1) (first ∷ at)) (drop 4088 rest) =
    ap (λ (ps : List PlaceAt). links ps rest) (drop_more (first ∷ at) i first lt) in
    let block_now : block ≡ link_before (drop (i + 1) (first ∷ at)) rest = block_is ∙ ap (λ (ps : List PlaceAt). link_before ps rest) later_is in
    append_assoc made (block ∷ []) (links (drop (i + 1) (first ∷ at)) back)
    ∙ (λ j. made ++ block_now j ∷ links (drop (i + 1) (first ∷ at)) (back_is j))
    ∙ ap (λ (bs : List (List ℕ)). made ++ bs) (sym one) ∙ so_far

-- all blocks are made
pub links_done : (i : ℕ) (at : List PlaceAt) (made : List (List ℕ)) (rest : List ℕ) (total : List (List ℕ)) → length at ≤ i → made ++ links (drop i at) rest ≡ total → made ≡ total
links_done i at made rest total past so_far =
    sym (append-nil made) ∙ ap (λ (ps : List PlaceAt). made ++ links ps rest) (sym (drop_all i at past)) ∙ so_far

-- the bytes after a block take the places after its own
after_fits : (places : List PlaceAt) (bytes : List ℕ) → length places + 1 ≡ chain_length (length bytes) → length places ≡ chain_length (length (drop 4088 bytes))
after_fits places bytes fits = omega (arith, length-drop 4088 bytes)

-- there are as many blocks as places
pub links_length : (at : List PlaceAt) (bytes : List ℕ) → length (links at bytes) ≡ length at
links_length [] bytes = refl
links_length (first ∷ places) bytes = ap suc (links_length places (drop 4088 bytes))

place_bytes_length : (at : PlaceAt) → length (place_bytes at) ≡ 8
place_bytes_length at = omega (arith, length-append (u32_bytes at.device) (u32_bytes at.place), u32_bytes_length at.device, u32_bytes_length at.place)

-- a block of a chain has 4,096 bytes
pub link_length : (places : List PlaceAt) (bytes : List ℕ) → length places + 1 ≡ chain_length (length bytes) → length (link_before places bytes) ≡ 4096
link_length places bytes fits =
    let mark : List ℕ = place_bytes (mark_before places) in
    let back : List ℕ = replicate (4088 - length bytes) 0 in
    let whole : length (mark ++ (take 4088 bytes ++ back)) ≡ 4096 =
    omega (arith, length-append mark (take 4088 bytes ++ back), length-append (take 4088 bytes) back, place_bytes_length (mark_before places), length-take 4088 bytes, length-replicate {A = ℕ} (4088 - length bytes) 0) in
    ap length (sym (written_before places bytes fits)) ∙ whole

-- each block of a chain has 4,096 bytes
pub links_whole : (at : List PlaceAt) (bytes : List ℕ) → length at ≡ chain_length (length bytes) → AllByRecursion (λ (block : List ℕ). length block ≡ 4096) (links at bytes)
links_whole [] bytes fits = tt
links_whole (first ∷ places) bytes fits =
    let one : length places + 1 ≡ chain_length (length bytes) = omega (arith, fits) in
    (link_length places bytes one, links_whole places (drop 4088 bytes) (after_fits places bytes one))

-- what a block holds after the place that it names
pub link_holds : (places : List PlaceAt) (bytes : List ℕ) → length places + 1 ≡ chain_length (length bytes) → drop 8 (link_before places bytes) ≡ take 4088 bytes ++ replicate (4088 - length bytes) 0
link_holds places bytes fits =
    ap (drop 8) (sym (written_before places bytes fits))
    ∙ drop_at (place_bytes (mark_before places)) (take 4088 bytes ++ replicate (4088 - length bytes) 0) 8 (place_bytes_length (mark_before places))

-- what the blocks hold, one after the other, is the catalogue and zeros after it
pub joined : (at : List PlaceAt) (bytes : List ℕ) → length at ≡ chain_length (length bytes) → flat_map (drop 8) (links at bytes) ≡ bytes ++ replicate (4088 * length at - length bytes) 0
joined [] bytes fits =
    let none : bytes ≡ [] = nil_from_length bytes (omega (arith, fits)) in
    ap (λ (t : List ℕ). t ++ replicate (0 - length t) 0) (sym none)
joined (first ∷ []) bytes fits =
    let one : length {A = PlaceAt} [] + 1 ≡ chain_length (length bytes) = omega (arith, fits) in
    let all : take 4088 bytes ≡ bytes = take_all 4088 bytes (omega (arith, fits)) in
    append-nil (drop 8 (link_before [] bytes)) ∙ link_holds [] bytes one ∙ ap (λ (t : List ℕ). t ++ replicate (4088 - length bytes) 0) all
joined (first ∷ (next ∷ places)) bytes fits =
    let one : length (next ∷ places) + 1 ≡ chain_length (length bytes) = omega (arith, fits) in
    let more = joined (next ∷ places) (drop 4088 bytes) (after_fits (next ∷ places) bytes one) in
    let none : 4088 - length bytes ≡ 0 = omega (arith, fits) in
    let zeros : 4088 * length (next ∷ places) - length (drop 4088 bytes) ≡ 4088 * length (first ∷ (next ∷ places)) - length bytes = omega (arith, length-drop 4088 bytes, fits) in
    let held : drop 8 (link_before (next ∷ places) bytes) ≡ take 4088 bytes =
    link_holds (next ∷ places) bytes one ∙ ap (λ (k : ℕ). take 4088 bytes ++ replicate k 0) none ∙ append-nil (take 4088 bytes) in
    (λ i. held i ++ more i)
    ∙ sym (append_assoc (take 4088 bytes) (drop 4088 bytes) (replicate (4088 * length (next ∷ places) - length (drop 4088 bytes)) 0))
    ∙ (λ i. take-append-drop 4088 bytes i ++ replicate (zeros i) 0)

-- ---- what a block names

-- the place of two numbers, or none at the end mark
abbrev named : (device place : ℕ) → Option PlaceAt
named device place = cond (eqb device 4294967295 && eqb place 4294967295) None (Some (record { device = device; place = place }))

named_in : (block : List ℕ) → next_in block ≡ named (u32_of block) (u32_of (drop 4 block))
unfolding next_in
named_in block = refl

-- the two numbers are the end mark
pub next_is_none : (block : List ℕ) (device place : ℕ) → device ≡ u32_of block → place ≡ u32_of (drop 4 block) → device ≡ 4294967295 → place ≡ 4294967295 → None ≡ next_in block
next_is_none block device place device_is place_is device_end place_end =
    let both : (eqb device 4294967295 && eqb place 4294967295) ≡ true = and_from (eqb device 4294967295) (eqb place 4294967295) (eq-eqb device 4294967295 device_end) (eq-eqb place 4294967295 place_end) in
    sym (named_in block ∙ (λ i. named (sym device_is i) (sym place_is i)) ∙ ap (λ (b : Bool). cond b None (Some (record { device = device; place = place }))) both)

-- the end mark is two numbers
not_end : (device place : ℕ) → ((device ≡ 4294967295) × (place ≡ 4294967295) → ⊥) → (eqb device 4294967295 && eqb place 4294967295) ≡ false
not_end device place other =
    ⊎_elim
    (λ (both : (eqb device 4294967295 && eqb place 4294967295) ≡ true).
    let parts = and_parts (eqb device 4294967295) (eqb place 4294967295) both in
    absurd (other (eqb-true device 4294967295 parts.0, eqb-true place 4294967295 parts.1)))
    (λ (not_both : (eqb device 4294967295 && eqb place 4294967295) ≡ false). not_both)
    (cases_Bool (eqb device 4294967295 && eqb place 4294967295))

-- they are not
pub next_is_some : (block : List ℕ) (device place : ℕ) → device ≡ u32_of block → place ≡ u32_of (drop 4 block) → ((device ≡ 4294967295) × (place ≡ 4294967295) → ⊥)
    → Some (record { device = device; place = place }) ≡ next_in block
next_is_some block device place device_is place_is other =
    sym (named_in block ∙ (λ i. named (sym device_is i) (sym place_is i)) ∙ ap (λ (b : Bool). cond b None (Some (record { device = device; place = place }))) (not_end device place other))

-- the numbers that a block begins with
begun : (at : PlaceAt) (back : List ℕ) → at.device < 2 ^ 32 → at.place < 2 ^ 32 → (at.device ≡ u32_of (place_bytes at ++ back)) × (at.place ≡ u32_of (drop 4 (place_bytes at ++ back)))
begun at back device_fits place_fits =
    let parts : place_bytes at ++ back ≡ u32_bytes at.device ++ (u32_bytes at.place ++ back) = append_assoc (u32_bytes at.device) (u32_bytes at.place) back in
    let behind : drop 4 (place_bytes at ++ back) ≡ u32_bytes at.place ++ back = ap (drop 4) parts ∙ drop_at (u32_bytes at.device) (u32_bytes at.place ++ back) 4 (u32_bytes_length at.device) in (
      sym (ap u32_of parts ∙ u32_read_back at.device (u32_bytes at.place ++ back) device_fits),
      sym (ap u32_of behind ∙ u32_read_back at.place back place_fits),
    )

-- the last block names none
pub last_names_none : (bytes : List ℕ) → next_in (last_link bytes) ≡ None
unfolding last_link end_mark
last_names_none bytes =
    let end : PlaceAt = mark_before [] in
    let back : List ℕ = bytes ++ replicate (4088 - length bytes) 0 in
    let numbers = begun end back (lit< tt) (lit< tt) in
    sym (next_is_none (place_bytes end ++ back) 4294967295 4294967295 numbers.0 numbers.1 refl refl)

-- a block before others names the next place
pub inner_names_next : (next : PlaceAt) (bytes : List ℕ) → next.device < 2 ^ 32 → next.place < 2 ^ 32 → ((next.device ≡ 4294967295) × (next.place ≡ 4294967295) → ⊥) → next_in (inner_link next bytes) ≡ Some next
unfolding inner_link
inner_names_next next bytes device_fits place_fits other =
    let numbers = begun next (take 4088 bytes) device_fits place_fits in
    sym (next_is_some (place_bytes next ++ take 4088 bytes) next.device next.place numbers.0 numbers.1 other)

-- a block begins with the two numbers that are read there
begins : (block : List ℕ) → 8 ≤ length block → IsBytes block → block ≡ place_bytes (record { device = u32_of block; place = u32_of (drop 4 block) }) ++ drop 8 block
begins block long fits =
    let back : List ℕ = drop 4 block in
    let second : back ≡ u32_bytes (u32_of back) ++ drop 4 back = u32_front back (omega (arith, length-drop 4 block)) (bytes_dropped 4 block fits) in
    u32_front block (omega arith) fits ∙ ap (λ (t : List ℕ). u32_bytes (u32_of block) ++ t) (second ∙ ap (λ (t : List ℕ). u32_bytes (u32_of back) ++ t) (drop-drop 4 4 block))
    ∙ sym (append_assoc (u32_bytes (u32_of block)) (u32_bytes (u32_of back)) (drop 8 block))

-- where a block names a next place, it is the block that names that place and holds the bytes after the name
pub inner_again : (block : List ℕ) (next : PlaceAt) → length block ≡ 4096 → IsBytes block → next_in block ≡ Some next → block ≡ inner_link next (drop 8 block)
unfolding inner_link
inner_again block next whole fits e =
    let device : ℕ = u32_of block in
    let place : ℕ = u32_of (drop 4 block) in
    let there : PlaceAt = record { device = device; place = place } in
    let is : there ≡ next = named_is device place next (sym (named_in block) ∙ e) in
    let held : take 4088 (drop 8 block) ≡ drop 8 block = take_all 4088 (drop 8 block) (omega (arith, length-drop 8 block)) in
    begins block (omega arith) fits ∙ (λ i. place_bytes (is i) ++ sym held i)
  where
    named_is : (device place : ℕ) (next : PlaceAt) → named device place ≡ Some next → record { device = device; place = place } ≡ next
    named_is device place next e = chosen (eqb device 4294967295 && eqb place 4294967295) (record { device = device; place = place }) next e
      where
        chosen : (b : Bool) (x y : PlaceAt) → cond b None (Some x) ≡ Some y → x ≡ y
        chosen true x y e = absurd cc
        chosen false x y e = cc

-- where a block names none, it begins with the end mark
pub last_again : (block : List ℕ) → length block ≡ 4096 → IsBytes block → next_in block ≡ None → block ≡ end_mark ++ drop 8 block
unfolding end_mark
last_again block whole fits e =
    let device : ℕ = u32_of block in
    let place : ℕ = u32_of (drop 4 block) in
    let both : (eqb device 4294967295 && eqb place 4294967295) ≡ true = chosen (eqb device 4294967295 && eqb place 4294967295) (record { device = device; place = place }) (sym (named_in block) ∙ e) in
    let parts = and_parts (eqb device 4294967295) (eqb place 4294967295) both in
    let device_end : device ≡ 4294967295 = eqb-true device 4294967295 parts.0 in
    let place_end : place ≡ 4294967295 = eqb-true place 4294967295 parts.1 in
    begins block (omega arith) fits ∙ (λ i. (u32_bytes (device_end i) ++ u32_bytes (place_end i)) ++ drop 8 block)
  where
    chosen : (b : Bool) (x : PlaceAt) → cond b None (Some x) ≡ None → b ≡ true
    chosen true x e = refl
    chosen false x e = absurd cc
