-- The laws of the spelling of slots.
use Rattle.std.proofs.Common.{◌≡◌, ℕ, zero, suc, ◌+◌, ◌≤◌, List, [], ◌++◌, length, take, replicate, refl, sym, ap, subst, ◌∙◌, append_assoc, length-append, arith, lit<}
use Rattle.std.proofs.lemmas.List.{append-nil, nil_from_length}
use Rattle.zc_wire.specs.Numbers.{u32_bytes, u64_bytes, IsBytes}
use Rattle.zc_wire.proofs.Bytes.{bytes_joined, fronts_agree}
use Rattle.zc_wire.proofs.Numbers.{u32_agree, u64_agree, u32_bytes_length, u64_bytes_length, u32_bytes_fit, u64_bytes_fit}
use Rattle.zc_blkptr.specs.declared.ptr.Ptr.{Ptr}
use Rattle.zc_blkptr.specs.declared.ptr.Slot.{Slot}
use Rattle.zc_blkptr.specs.declared.ptr.Slot.TheVariants.{Hole, At}
use Rattle.zc_blkptr.specs.Ptr.{ptr_bytes, hole_bytes, slot_bytes, HasWidths, IsPtr, IsSlot}

-- two pointers with one spelling are one pointer
pub one_ptr : (ptr other : Ptr) → HasWidths ptr → HasWidths other → ptr_bytes ptr ≡ ptr_bytes other → ptr ≡ other
unfolding ptr_bytes
one_ptr ptr other fits other_fits same =
    let device = u32_agree ptr.device other.device (u32_bytes ptr.place ++ (u64_bytes ptr.logical ++ (u64_bytes ptr.physical ++ ptr.digest))) (u32_bytes other.place ++ (u64_bytes other.logical ++ (u64_bytes other.physical ++ other.digest))) fits.device other_fits.device same in
    let place = u32_agree ptr.place other.place (u64_bytes ptr.logical ++ (u64_bytes ptr.physical ++ ptr.digest)) (u64_bytes other.logical ++ (u64_bytes other.physical ++ other.digest)) fits.place other_fits.place device.1 in
    let logical = u64_agree ptr.logical other.logical (u64_bytes ptr.physical ++ ptr.digest) (u64_bytes other.physical ++ other.digest) fits.logical other_fits.logical place.1 in
    let physical = u64_agree ptr.physical other.physical ptr.digest other.digest fits.physical other_fits.physical logical.1 in
    λ i. record { device = device.0 i; place = place.0 i; logical = logical.0 i; physical = physical.0 i; digest = physical.1 i }

zeros_fit : (n : ℕ) → IsBytes (replicate n 0)
zeros_fit zero index = lit< tt
zeros_fit (suc n) zero = lit< tt
zeros_fit (suc n) (suc index) = zeros_fit n index

-- the pointer of which each byte is zero, which no pool has
no_ptr : Ptr
no_ptr = record { device = 0; place = 0; logical = 0; physical = 0; digest = replicate 16 0 }

-- a hole is spelled as that pointer would be
hole_is_no_ptr : ptr_bytes no_ptr ≡ hole_bytes
unfolding ptr_bytes hole_bytes u32_bytes u64_bytes no_ptr
hole_is_no_ptr = refl

no_ptr_fits : HasWidths no_ptr
unfolding no_ptr
no_ptr_fits = record { device = lit< tt; place = lit< tt; logical = lit< tt; physical = lit< tt; digest = refl; digest_fits = zeros_fit 16 }

-- a pointer whose block some group wrote isn't spelled as a hole
pub ptr_is_no_hole : (ptr : Ptr) → HasWidths ptr → 1 ≤ ptr.physical → ptr_bytes ptr ≡ hole_bytes → ⊥
unfolding no_ptr
ptr_is_no_hole ptr fits written same =
    let none : ptr ≡ no_ptr = one_ptr ptr no_ptr fits no_ptr_fits (same ∙ sym hole_is_no_ptr) in
    let zero : ptr.physical ≡ 0 = ap (λ (p : Ptr). p.physical) none in
    absurd (omega arith)

-- two slots with one spelling are one slot
pub one_slot : (devices places : ℕ) (slot other : Slot) → IsSlot devices places slot → IsSlot devices places other → slot_bytes slot ≡ slot_bytes other → slot ≡ other
one_slot devices places Hole Hole fits other_fits same = refl
one_slot devices places Hole (At other) fits other_fits same = absurd (ptr_is_no_hole other other_fits.widths other_fits.written (sym same))
one_slot devices places (At ptr) Hole fits other_fits same = absurd (ptr_is_no_hole ptr fits.widths fits.written same)
one_slot devices places (At ptr) (At other) fits other_fits same = ap At (one_ptr ptr other fits.widths other_fits.widths same)

-- what is written piece by piece, each after the one before
pub five_written : (ptr : Ptr) (a b c d before first second third fourth : List ℕ)
    → a ≡ u32_bytes ptr.device → b ≡ u32_bytes ptr.place → c ≡ u64_bytes ptr.logical → d ≡ u64_bytes ptr.physical
    → take (0 + length a) first ≡ take 0 before ++ a → take (4 + length b) second ≡ take 4 first ++ b
    → take (8 + length c) third ≡ take 8 second ++ c → take (16 + length d) fourth ≡ take 16 third ++ d
    → take 24 fourth ++ ptr.digest ≡ ptr_bytes ptr
unfolding ptr_bytes
five_written ptr a b c d before first second third fourth a_is b_is c_is d_is at_a at_b at_c at_d =
    let a_len : length a ≡ 4 = ap length a_is ∙ u32_bytes_length ptr.device in
    let b_len : length b ≡ 4 = ap length b_is ∙ u32_bytes_length ptr.place in
    let c_len : length c ≡ 8 = ap length c_is ∙ u64_bytes_length ptr.logical in
    let d_len : length d ≡ 8 = ap length d_is ∙ u64_bytes_length ptr.physical in
    let e1 : take 4 first ≡ a = ap (λ (n : ℕ). take (0 + n) first) (sym a_len) ∙ at_a in
    let e2 : take 8 second ≡ a ++ b = ap (λ (n : ℕ). take (4 + n) second) (sym b_len) ∙ at_b ∙ ap (λ (t : List ℕ). t ++ b) e1 in
    let e3 : take 16 third ≡ (a ++ b) ++ c = ap (λ (n : ℕ). take (8 + n) third) (sym c_len) ∙ at_c ∙ ap (λ (t : List ℕ). t ++ c) e2 in
    let e4 : take 24 fourth ≡ ((a ++ b) ++ c) ++ d = ap (λ (n : ℕ). take (16 + n) fourth) (sym d_len) ∙ at_d ∙ ap (λ (t : List ℕ). t ++ d) e3 in
    let grouped : (((a ++ b) ++ c) ++ d) ++ ptr.digest ≡ a ++ (b ++ (c ++ (d ++ ptr.digest))) = simp append_assoc in
    ap (λ (t : List ℕ). t ++ ptr.digest) e4 ∙ grouped ∙ (λ i. a_is i ++ (b_is i ++ (c_is i ++ (d_is i ++ ptr.digest))))

-- what is read field by field, each from what the one before left
pub five_read : (ptr : Ptr) (bytes after_device after_place after_logical after_physical rest digest : List ℕ)
    → bytes ≡ u32_bytes ptr.device ++ after_device → after_device ≡ u32_bytes ptr.place ++ after_place
    → after_place ≡ u64_bytes ptr.logical ++ after_logical → after_logical ≡ u64_bytes ptr.physical ++ after_physical
    → after_physical ≡ digest ++ rest → ptr.digest ≡ digest → length rest ≡ 0 → bytes ≡ ptr_bytes ptr
unfolding ptr_bytes
five_read ptr bytes after_device after_place after_logical after_physical rest digest device place logical physical last digest_is none =
    let end : rest ≡ [] = nil_from_length rest none in
    let e5 : after_physical ≡ ptr.digest = last ∙ ap (λ (t : List ℕ). digest ++ t) end ∙ append-nil digest ∙ sym digest_is in
    let e4 = physical ∙ ap (λ (t : List ℕ). u64_bytes ptr.physical ++ t) e5 in
    let e3 = logical ∙ ap (λ (t : List ℕ). u64_bytes ptr.logical ++ t) e4 in
    let e2 = place ∙ ap (λ (t : List ℕ). u32_bytes ptr.place ++ t) e3 in
    device ∙ ap (λ (t : List ℕ). u32_bytes ptr.device ++ t) e2

-- where a pointer is spelled that no pool of this size has, no slot of the pool is
pub no_slot : (devices places : ℕ) (ptr : Ptr) (bytes : List ℕ) → HasWidths ptr → bytes ≡ ptr_bytes ptr → (bytes ≡ hole_bytes → ⊥) → (IsPtr devices places ptr → ⊥)
    → (slot : Slot) → IsSlot devices places slot → bytes ≡ slot_bytes slot → ⊥
no_slot devices places ptr bytes widths spelled no_hole refused Hole fits same = no_hole same
no_slot devices places ptr bytes widths spelled no_hole refused (At other) fits same =
    refused (subst (IsPtr devices places) (one_ptr other ptr fits.widths widths (sym same ∙ spelled)) fits)

-- a pointer has 40 bytes
pub ptr_length : (ptr : Ptr) → length ptr.digest ≡ 16 → length (ptr_bytes ptr) ≡ 40
unfolding ptr_bytes
ptr_length ptr digest =
    let device = u32_bytes_length ptr.device in
    let place = u32_bytes_length ptr.place in
    let logical = u64_bytes_length ptr.logical in
    let physical = u64_bytes_length ptr.physical in
    simp length-append (omega arith)

-- a slot has 40 bytes
pub slot_length : (devices places : ℕ) (slot : Slot) → IsSlot devices places slot → length (slot_bytes slot) ≡ 40
unfolding hole_bytes
slot_length devices places Hole fits = refl
slot_length devices places (At ptr) fits = ptr_length ptr fits.widths.digest

-- each of a slot's bytes is one
pub slot_fits : (devices places : ℕ) (slot : Slot) → IsSlot devices places slot → IsBytes (slot_bytes slot)
unfolding ptr_bytes hole_bytes
slot_fits devices places Hole fits = zeros_fit 40
slot_fits devices places (At ptr) fits =
    bytes_joined (u32_bytes ptr.device) (u32_bytes ptr.place ++ (u64_bytes ptr.logical ++ (u64_bytes ptr.physical ++ ptr.digest))) (u32_bytes_fit ptr.device)
    (bytes_joined (u32_bytes ptr.place) (u64_bytes ptr.logical ++ (u64_bytes ptr.physical ++ ptr.digest)) (u32_bytes_fit ptr.place)
    (bytes_joined (u64_bytes ptr.logical) (u64_bytes ptr.physical ++ ptr.digest) (u64_bytes_fit ptr.logical)
    (bytes_joined (u64_bytes ptr.physical) ptr.digest (u64_bytes_fit ptr.physical) fits.widths.digest_fits)))

-- two slots that begin the same bytes are one slot, and the same bytes follow
pub slots_agree : (devices places : ℕ) (slot other : Slot) (rest other_rest : List ℕ) → IsSlot devices places slot → IsSlot devices places other
    → slot_bytes slot ++ rest ≡ slot_bytes other ++ other_rest → (slot ≡ other) × (rest ≡ other_rest)
slots_agree devices places slot other rest other_rest fits other_fits same =
    let parts = fronts_agree 40 (slot_bytes slot) (slot_bytes other) rest other_rest (slot_length devices places slot fits) (slot_length devices places other other_fits) same in
    (one_slot devices places slot other fits other_fits parts.0, parts.1)
