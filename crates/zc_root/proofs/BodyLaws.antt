-- The laws of the bytes of a body: its fields stand in them, so no two bodies are spelled alike, and there are 4,096.
use Rattle.std.proofs.Common.{◌≡◌, ℕ, ◌+◌, List, ◌++◌, length, take, drop, refl, sym, ap, subst, ◌∙◌, append_assoc, length-append, arith}
use Rattle.std.proofs.lemmas.List.{take_at, drop_at, drop-drop, length-replicate}
use Rattle.sha2.specs.Sha256.{sha256}
use Rattle.sha2.proofs.Facts256.{length-sha256}
use Rattle.zc_wire.specs.Numbers.{u32_bytes, u64_bytes, u32_of, u64_of}
use Rattle.zc_wire.proofs.Numbers.{u32_bytes_length, u64_bytes_length, u32_read_back, u64_read_back}
use Rattle.zc_root.specs.declared.body.Body.{Body}
use Rattle.zc_root.specs.Body.{title, head_bytes, padding, body_bytes, HasWidths, IsBody}
use Rattle.zc_root.specs.Reading.{fields_in}
use Rattle.zc_root.specs.Root.{slot_of}
use Rattle.zc_root.specs.Slot.{IsBodyIn}

-- name and version have 12 bytes
pub title_length : length title ≡ 12
unfolding title u32_bytes
title_length = refl

-- what stands after a part that stands from byte `at` on
behind : (bytes part rest : List ℕ) (at n : ℕ) → drop at bytes ≡ part ++ rest → length part ≡ n → drop (at + n) bytes ≡ rest
behind bytes part rest at n here len = sym (drop-drop n at bytes) ∙ ap (drop n) here ∙ drop_at part rest n len

-- the parts of the head in a row, with what stands after them
parts_of_head : (body : Body) (rest : List ℕ) → head_bytes body ++ rest ≡ title ++ (u64_bytes body.pool ++ (u64_bytes body.group ++ (u32_bytes body.devices ++ (u32_bytes body.places ++ (u64_bytes body.next_dataset
    ++ (u32_bytes body.first_device ++ (u32_bytes body.first_place ++ (u32_bytes body.chain ++ (u64_bytes body.length ++ (body.digest ++ rest))))))))))
unfolding head_bytes
parts_of_head body rest = simp append_assoc

-- the fields of bytes that begin with a body's head are the body
fields_of_head : (body : Body) (rest : List ℕ) → HasWidths body → fields_in (head_bytes body ++ rest) ≡ body
unfolding fields_in
fields_of_head body rest fits =
    let bytes : List ℕ = head_bytes body ++ rest in
    let r10 : List ℕ = body.digest ++ rest in
    let r9 : List ℕ = u64_bytes body.length ++ r10 in
    let r8 : List ℕ = u32_bytes body.chain ++ r9 in
    let r7 : List ℕ = u32_bytes body.first_place ++ r8 in
    let r6 : List ℕ = u32_bytes body.first_device ++ r7 in
    let r5 : List ℕ = u64_bytes body.next_dataset ++ r6 in
    let r4 : List ℕ = u32_bytes body.places ++ r5 in
    let r3 : List ℕ = u32_bytes body.devices ++ r4 in
    let r2 : List ℕ = u64_bytes body.group ++ r3 in
    let r1 : List ℕ = u64_bytes body.pool ++ r2 in
    let at_12 : drop 12 bytes ≡ r1 = ap (drop 12) (parts_of_head body rest) ∙ drop_at title r1 12 title_length in
    let at_20 : drop 20 bytes ≡ r2 = behind bytes (u64_bytes body.pool) r2 12 8 at_12 (u64_bytes_length body.pool) in
    let at_28 : drop 28 bytes ≡ r3 = behind bytes (u64_bytes body.group) r3 20 8 at_20 (u64_bytes_length body.group) in
    let at_32 : drop 32 bytes ≡ r4 = behind bytes (u32_bytes body.devices) r4 28 4 at_28 (u32_bytes_length body.devices) in
    let at_36 : drop 36 bytes ≡ r5 = behind bytes (u32_bytes body.places) r5 32 4 at_32 (u32_bytes_length body.places) in
    let at_44 : drop 44 bytes ≡ r6 = behind bytes (u64_bytes body.next_dataset) r6 36 8 at_36 (u64_bytes_length body.next_dataset) in
    let at_48 : drop 48 bytes ≡ r7 = behind bytes (u32_bytes body.first_device) r7 44 4 at_44 (u32_bytes_length body.first_device) in
    let at_52 : drop 52 bytes ≡ r8 = behind bytes (u32_bytes body.first_place) r8 48 4 at_48 (u32_bytes_length body.first_place) in
    let at_56 : drop 56 bytes ≡ r9 = behind bytes (u32_bytes body.chain) r9 52 4 at_52 (u32_bytes_length body.chain) in
    let at_64 : drop 64 bytes ≡ r10 = behind bytes (u64_bytes body.length) r10 56 8 at_56 (u64_bytes_length body.length) in
    let pool : u64_of (drop 12 bytes) ≡ body.pool = ap u64_of at_12 ∙ u64_read_back body.pool r2 fits.pool in
    let group : u64_of (drop 20 bytes) ≡ body.group = ap u64_of at_20 ∙ u64_read_back body.group r3 fits.group in
    let devices : u32_of (drop 28 bytes) ≡ body.devices = ap u32_of at_28 ∙ u32_read_back body.devices r4 fits.devices in
    let places : u32_of (drop 32 bytes) ≡ body.places = ap u32_of at_32 ∙ u32_read_back body.places r5 fits.places in
    let next_dataset : u64_of (drop 36 bytes) ≡ body.next_dataset = ap u64_of at_36 ∙ u64_read_back body.next_dataset r6 fits.next_dataset in
    let first_device : u32_of (drop 44 bytes) ≡ body.first_device = ap u32_of at_44 ∙ u32_read_back body.first_device r7 fits.first_device in
    let first_place : u32_of (drop 48 bytes) ≡ body.first_place = ap u32_of at_48 ∙ u32_read_back body.first_place r8 fits.first_place in
    let chain : u32_of (drop 52 bytes) ≡ body.chain = ap u32_of at_52 ∙ u32_read_back body.chain r9 fits.chain in
    let size : u64_of (drop 56 bytes) ≡ body.length = ap u64_of at_56 ∙ u64_read_back body.length r10 fits.catalogue in
    let digest : take 32 (drop 64 bytes) ≡ body.digest = ap (take 32) at_64 ∙ take_at body.digest rest 32 fits.digest in
    λ i. record {
      pool = pool i;
      group = group i;
      devices = devices i;
      places = places i;
      next_dataset = next_dataset i;
      first_device = first_device i;
      first_place = first_place i;
      chain = chain i;
      length = size i;
      digest = digest i;
    }

-- the fields of a body's bytes are the body
pub fields_of_body : (body : Body) → HasWidths body → fields_in (body_bytes body) ≡ body
unfolding body_bytes
fields_of_body body fits =
    ap fields_in (append_assoc (head_bytes body) padding (sha256 (head_bytes body ++ padding))) ∙ fields_of_head body (padding ++ sha256 (head_bytes body ++ padding)) fits

-- two bodies with one spelling are one body
pub one_body : (body other : Body) → HasWidths body → HasWidths other → body_bytes body ≡ body_bytes other → body ≡ other
one_body body other fits other_fits same = sym (fields_of_body body fits) ∙ ap fields_in same ∙ fields_of_body other other_fits

-- where the bytes aren't those of the body that their fields are, they are no other's
pub no_other_body : (body : Body) (slot : ℕ) (bytes : List ℕ) → body ≡ fields_in bytes → (IsBodyIn slot bytes body → ⊥)
    → (other : Body) → IsBody other → slot_of other.group ≡ slot → bytes ≡ body_bytes other → ⊥
no_other_body body slot bytes read refused other fits at_slot same =
    refused (subst (IsBodyIn slot bytes) (sym (read ∙ ap fields_in same ∙ fields_of_body other fits.widths)) (fits, at_slot, same))

head_length : (body : Body) → length body.digest ≡ 32 → length (head_bytes body) ≡ 96
unfolding head_bytes
head_length body digest =
    let opening = title_length in
    let pool = u64_bytes_length body.pool in
    let group = u64_bytes_length body.group in
    let devices = u32_bytes_length body.devices in
    let places = u32_bytes_length body.places in
    let next_dataset = u64_bytes_length body.next_dataset in
    let first_device = u32_bytes_length body.first_device in
    let first_place = u32_bytes_length body.first_place in
    let chain = u32_bytes_length body.chain in
    let size = u64_bytes_length body.length in
    simp length-append (omega arith)

padding_length : length padding ≡ 3968
unfolding padding
padding_length = length-replicate {A = ℕ} 3968 0

-- a body has 4,096 bytes
pub body_length : (body : Body) → length body.digest ≡ 32 → length (body_bytes body) ≡ 4096
unfolding body_bytes
body_length body digest =
    let head = head_length body digest in
    let zeros = padding_length in
    let hash = length-sha256 (head_bytes body ++ padding) in
    simp length-append (omega arith)
