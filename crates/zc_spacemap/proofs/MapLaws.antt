-- The laws of the bytes of maps: what is read is spelled so, and what is spelled so is read.
use Rattle.std.proofs.Common.{◌≡◌, ◌∙◌, ℕ, zero, suc, ◌+◌, ◌-◌, ◌*◌, ◌/◌, ◌%◌, ◌^◌, ◌<◌, ◌≤◌, Bool, true, false, cond, eqb, List, [], ◌∷◌, ◌++◌, length, get_or, take, drop, Ok, Err, refl, sym, ap, subst, add-one, arith, inl, inr, lit<}
use Rattle.std.specs.Int.{bit_at}
use Rattle.std.proofs.lemmas.Bool.{cases_lt}
use Rattle.std.proofs.Math.Nat.{pow-suc, pow-le-pow_right, mul_comm}
use Rattle.std.proofs.lemmas.Nat.{one_shl}
use Rattle.std.proofs.lemmas.List.{append-nil, append_assoc, get_or-take, get_or-drop, length-take, get_or_past}
use Rattle.std.proofs.lemmas.Nat.Bits.{same_from_bits_below, bit_at-lt}
use Rattle.std.proofs.lemmas.Simd.{mask_l-lt, bit_mask_l}
use lib.Lanes.{mask_l}
use Rattle.zc_num.specs.Words.{each}
use Rattle.zc_num.proofs.Each.{length_each, item_of_each, each_from_items, each_none, each_more}
use Rattle.zc_wire.specs.Numbers.{IsBytes}
use Rattle.zc_wire.specs.Fields.{◌>>=◌, bytes_field, FieldFails, placed_in}
use Rattle.zc_wire.specs.declared.fields.FieldFault.{FieldFault}
use Rattle.zc_wire.specs.declared.fields.FieldFault.TheVariants as field
use Rattle.zc_wire.proofs.FieldLaws.{Takes, takes_length, bytes_take, bytes_again, bind_ok, ok_is}
use Rattle.zc_spacemap.specs.declared.stored.StoredMap.{StoredMap}
use Rattle.zc_spacemap.specs.MapBytes.{number_of, map_byte, map_bytes, is_marked, map_of, map_field, IsRead}

-- ---- one byte

-- the library's name for the number
number_is_mask : (bits : List Bool) → number_of bits ≡ mask_l bits
number_is_mask [] = refl
number_is_mask (bit ∷ bits) = ap (λ n. cond bit 1 0 + 2 * n) (number_is_mask bits)

-- so many bits make a number below that power of two
pub number_below : (bits : List Bool) → number_of bits < 2 ^ length bits
number_below bits = rw number_is_mask (mask_l-lt bits)

-- a bit of the number
pub bit_of_number : (bits : List Bool) (k : ℕ) → bit_at (number_of bits) k ≡ cond (get_or bits k false) 1 0
bit_of_number bits k = ap (λ n. bit_at n k) (number_is_mask bits) ∙ bit_mask_l bits k

-- a byte is below 256
pub byte_below : (allocated : List Bool) (k : ℕ) → map_byte allocated k < 2 ^ 8
byte_below allocated k =
    let bits = take 8 (drop (8 * k) allocated) in
    let few : length bits ≤ 8 = omega (arith, length-take 8 (drop (8 * k) allocated)) in
    let wide : 2 ^ length bits ≤ 2 ^ 8 = pow-le-pow_right (lit< tt) few in
    omega (arith, number_below bits, wide)

-- a bit of a byte of a map
pub bit_of_byte : (allocated : List Bool) (k bit : ℕ) → bit < 8 → bit_at (map_byte allocated k) bit ≡ cond (get_or allocated (8 * k + bit) false) 1 0
bit_of_byte allocated k bit within =
    bit_of_number (take 8 (drop (8 * k) allocated)) bit
    ∙ ap (λ b. cond b 1 0) (get_or-take 8 (drop (8 * k) allocated) bit false within ∙ get_or-drop (8 * k) allocated bit false)

-- one more bit of a number
pub number_more : (bits : List Bool) (k : ℕ) → k < length bits → number_of (take (k + 1) bits) ≡ number_of (take k bits) + cond (get_or bits k false) (2 ^ k) 0
number_more [] k within = absurd (omega arith)
number_more (true ∷ bits) zero within = refl
number_more (false ∷ bits) zero within = refl
number_more (bit ∷ bits) (suc k) within =
    let next : suc k + 1 ≡ suc (k + 1) = omega arith in
    let rest = number_more bits k (omega arith) in
    rw next (omega (arith, rest, twice (get_or bits k false) k))
  where
    twice : (b : Bool) (k : ℕ) → 2 * cond b (2 ^ k) 0 ≡ cond b (2 ^ suc k) 0
    twice true k = sym (pow-suc 2 k ∙ mul_comm (2 ^ k) 2)
    twice false k = refl

-- the number of the first bits with the next one, and without it
pub number_with : (bits : List Bool) (k byte after : ℕ) → k < 8 → k < length bits → get_or bits k false ≡ true → byte ≡ number_of (take k bits) → byte < 2 ^ k → after ≡ byte + (1 * 2 ^ k) % 2 ^ 8
    → (after ≡ number_of (take (k + 1) bits)) × (after < 2 ^ (k + 1))
number_with bits k byte after small within is sofar below next =
    let weight : (1 * 2 ^ k) % 2 ^ 8 ≡ 2 ^ k = one_shl k 8 small in
    let more : number_of (take (k + 1) bits) ≡ number_of (take k bits) + 2 ^ k = number_more bits k within ∙ ap (λ b. number_of (take k bits) + cond b (2 ^ k) 0) is in
    let twice : 2 ^ (k + 1) ≡ 2 ^ k * 2 = ap (λ n. 2 ^ n) (add-one k) ∙ pow-suc 2 k in
    (next ∙ omega (arith, weight, more, sofar), omega (arith, next, weight, twice, below))

pub number_without : (bits : List Bool) (k byte : ℕ) → k < length bits → get_or bits k false ≡ false → byte ≡ number_of (take k bits) → byte < 2 ^ k
    → (byte ≡ number_of (take (k + 1) bits)) × (byte < 2 ^ (k + 1))
number_without bits k byte within is sofar below =
    let more : number_of (take (k + 1) bits) ≡ number_of (take k bits) + 0 = number_more bits k within ∙ ap (λ b. number_of (take k bits) + cond b (2 ^ k) 0) is in
    let twice : 2 ^ (k + 1) ≡ 2 ^ k * 2 = ap (λ n. 2 ^ n) (add-one k) ∙ pow-suc 2 k in
    (omega (arith, more, sofar), omega (arith, twice, below))

-- ---- all bytes

-- a map has a byte for each eight places
pub bytes_length : (allocated : List Bool) → length (map_bytes allocated) ≡ length allocated / 8
unfolding map_bytes
bytes_length allocated = length_each (length allocated / 8) (map_byte allocated)

-- each byte is a byte
pub map_bytes_fit : (allocated : List Bool) → IsBytes (map_bytes allocated)
unfolding map_bytes
map_bytes_fit allocated index =
    elim (cases_lt index (length allocated / 8)) [
      | inl lt ↦ subst (λ (n : ℕ). n < 256) (sym (item_of_each (length allocated / 8) (map_byte allocated) index 0 lt)) (byte_below allocated index)
      | inr le ↦ subst (λ (n : ℕ). n < 256) (sym (get_or_past (map_bytes allocated) index 0 (omega (arith, bytes_length allocated)))) (lit< tt)
    ]

-- the bytes say of each place what the map says
pub marked_as_spelled : (allocated : List Bool) (place : ℕ) → place < length allocated / 8 * 8 → is_marked (map_bytes allocated) place ≡ get_or allocated place false
unfolding map_bytes
marked_as_spelled allocated place within =
    let byte : get_or (map_bytes allocated) (place / 8) 0 ≡ map_byte allocated (place / 8) = item_of_each (length allocated / 8) (map_byte allocated) (place / 8) 0 (omega arith) in
    let there : 8 * (place / 8) + place % 8 ≡ place = omega arith in
    ap (λ n. eqb (bit_at n (place % 8)) 1) byte
    ∙ ap (λ n. eqb n 1) (bit_of_byte allocated (place / 8) (place % 8) (omega arith))
    ∙ one (get_or allocated (8 * (place / 8) + place % 8) false)
    ∙ ap (λ p. get_or allocated p false) there
  where
    one : (b : Bool) → eqb (cond b 1 0) 1 ≡ b
    one true = refl
    one false = refl

-- a map that is read has so many places
pub map_length : (places : ℕ) (bytes : List ℕ) → length (map_of places bytes).allocated ≡ places
unfolding map_of
map_length places bytes = length_each places (is_marked bytes)

-- what is spelled is read
pub spelled_read : (places : ℕ) (stored : StoredMap) → places % 8 ≡ 0 → length stored.allocated ≡ places → map_of places (map_bytes stored.allocated) ≡ stored
unfolding map_of
spelled_read places stored whole as_long =
    let same : each places (is_marked (map_bytes stored.allocated)) ≡ stored.allocated =
    sym (each_from_items (is_marked (map_bytes stored.allocated)) stored.allocated places false as_long (λ place within. sym (marked_as_spelled stored.allocated place (omega arith)))) in
    λ i. record { allocated = same i }

-- the mark of a place is a bit of the byte of its eight
mark_of : (bytes : List ℕ) (k bit : ℕ) → bit < 8 → is_marked bytes (8 * k + bit) ≡ eqb (bit_at (get_or bytes k 0) bit) 1
mark_of bytes k bit below =
    let row : (8 * k + bit) / 8 ≡ k = omega arith in
    let column : (8 * k + bit) % 8 ≡ bit = omega arith in
    λ i. eqb (bit_at (get_or bytes (row i) 0) (column i)) 1

-- a bit of a byte that was read
bit_read : (bytes : List ℕ) (marks : List Bool) (k bit : ℕ) → bit < 8 → get_or marks (8 * k + bit) false ≡ is_marked bytes (8 * k + bit)
    → bit_at (get_or bytes k 0) bit ≡ bit_at (map_byte marks k) bit
bit_read bytes marks k bit below item =
    let held : get_or marks (8 * k + bit) false ≡ eqb (bit_at (get_or bytes k 0) bit) 1 = item ∙ mark_of bytes k bit below in
    let spelled : bit_at (map_byte marks k) bit ≡ cond (eqb (bit_at (get_or bytes k 0) bit) 1) 1 0 = bit_of_byte marks k bit below ∙ ap (λ b. cond b 1 0) held in
    one_or_none (bit_at (get_or bytes k 0) bit) (bit_at-lt (get_or bytes k 0) bit) ∙ sym spelled
  where
    one_or_none : (b : ℕ) → b < 2 → b ≡ cond (eqb b 1) 1 0
    one_or_none zero small = refl
    one_or_none (suc zero) small = refl
    one_or_none (suc (suc b)) small = absurd (omega arith)

-- what is read is spelled so
pub read_spelled : (bytes : List ℕ) → IsBytes bytes → map_bytes (map_of (8 * length bytes) bytes).allocated ≡ bytes
unfolding map_of map_bytes
read_spelled bytes fits =
    let n = length bytes in
    let marks = each (8 * n) (is_marked bytes) in
    let count : length marks / 8 ≡ n = omega (arith, length_each (8 * n) (is_marked bytes)) in
    let items : (k : ℕ) → k < n → get_or bytes k 0 ≡ map_byte marks k =
    λ k within. same_from_bits_below 8 (get_or bytes k 0) (map_byte marks k) (fits k) (byte_below marks k) (λ bit below. bit_read bytes marks k bit below (item_of_each (8 * n) (is_marked bytes) (8 * k + bit) false (omega arith))) in
    ap (λ k. each k (map_byte marks)) count ∙ sym (each_from_items (map_byte marks) bytes n 0 refl items)

-- no byte is put, and one byte more
pub put_none : (before : List ℕ) (byte : ℕ → ℕ) → before ≡ before ++ each 0 byte
put_none before byte = sym (ap (λ (back : List ℕ). before ++ back) (each_none byte) ∙ append-nil before)

pub put_more : (before sofar after : List ℕ) (byte : ℕ → ℕ) (k put : ℕ) → sofar ≡ before ++ each k byte → put ≡ byte k → after ≡ sofar ++ put ∷ [] → after ≡ before ++ each (k + 1) byte
put_more before sofar after byte k put is same next =
    next ∙ (λ i. is i ++ same i ∷ []) ∙ append_assoc before (each k byte) (byte k ∷ []) ∙ ap (λ (back : List ℕ). before ++ back) (sym (each_more k byte))

-- ---- the field

-- a map that was read stands at the front of the bytes
pub map_takes : (places : ℕ) (bytes rest : List ℕ) (stored : StoredMap) → places % 8 ≡ 0 → IsBytes bytes → map_field places bytes ≡ Ok (stored, rest)
    → Takes bytes (map_bytes stored.allocated) rest × (length stored.allocated ≡ places)
unfolding map_field
map_takes places bytes rest stored whole fits e =
    let split = bind_ok (bytes_field (places / 8) bytes) (λ front. Ok (map_of places front.0, front.1)) (stored, rest) e in
    let front = split.0 in
    let taken = bytes_take (places / 8) bytes front.0 front.1 fits split.1 in
    let all : 8 * length front.0 ≡ places = omega (arith, taken.1) in
    let spelled : map_bytes (map_of places front.0).allocated ≡ front.0 = ap (λ n. map_bytes (map_of n front.0).allocated) (sym all) ∙ read_spelled front.0 taken.2 in
    let found : Takes bytes (map_bytes (map_of places front.0).allocated) front.1 × (length (map_of places front.0).allocated ≡ places) =
    (subst (λ (text : List ℕ). Takes bytes text front.1) (sym spelled) taken.0, map_length places front.0) in
    subst (λ (p : StoredMap × List ℕ). Takes bytes (map_bytes p.0.allocated) p.1 × (length p.0.allocated ≡ places)) (ok_is (map_of places front.0, front.1) (stored, rest) split.2) found

-- a map at the front of the bytes is read
pub map_again : (places : ℕ) (stored : StoredMap) (rest : List ℕ) → places % 8 ≡ 0 → length stored.allocated ≡ places → map_field places (map_bytes stored.allocated ++ rest) ≡ Ok (stored, rest)
unfolding map_field
map_again places stored rest whole as_long =
    let front : bytes_field (places / 8) (map_bytes stored.allocated ++ rest) ≡ Ok (map_bytes stored.allocated, rest) =
    bytes_again (places / 8) (map_bytes stored.allocated) rest (bytes_length stored.allocated ∙ ap (λ n. n / 8) as_long) in
    let same = spelled_read places stored whole as_long in
    ap (λ r. r >>= λ (front : List ℕ × List ℕ). Ok (map_of places front.0, front.1)) front ∙ (λ i. Ok (same i, rest))

-- what is said of a map that was read
pub record IsFound (places : ℕ) (bytes rest : List ℕ) (stored : StoredMap) : Type 0 where
  pub as_long : length stored.allocated ≡ places
  pub spelled : bytes ≡ map_bytes stored.allocated ++ rest
  pub taken : length bytes ≡ places / 8 + length rest

pub map_found : (places : ℕ) (bytes rest : List ℕ) (stored : StoredMap) → places % 8 ≡ 0 → IsBytes bytes → map_field places bytes ≡ Ok (stored, rest) → IsFound places bytes rest stored
map_found places bytes rest stored whole fits e =
    let found = map_takes places bytes rest stored whole fits e in
    record {
      as_long = found.1;
      spelled = found.0.parts;
      taken = takes_length bytes (map_bytes stored.allocated) rest found.0 ∙ ap (λ n. n + length rest) (bytes_length stored.allocated ∙ ap (λ n. n / 8) found.1);
    }

-- no other map is read than the one that stands there
pub map_only : (places : ℕ) (bytes rest other_rest : List ℕ) (stored other : StoredMap) → places % 8 ≡ 0 → IsBytes bytes → map_field places bytes ≡ Ok (stored, rest)
    → length other.allocated ≡ places → bytes ≡ map_bytes other.allocated ++ other_rest → IsRead {X = StoredMap × ℕ} (other, places / 8) (Ok (stored, length bytes - length rest))
map_only places bytes rest other_rest stored other whole fits e as_long spelled =
    let found = map_found places bytes rest stored whole fits e in
    let same = ok_is (stored, rest) (other, other_rest) (sym e ∙ ap (map_field places) spelled ∙ map_again places other other_rest whole as_long) in
    let taken : length bytes - length rest ≡ places / 8 = omega (arith, found.taken) in
    λ i. ((same i).0, taken i)

-- where a map stands, it isn't refused
pub map_stands : (places : ℕ) (bytes rest : List ℕ) (stored : StoredMap) (fault : FieldFault) → places % 8 ≡ 0 → FieldFails fault (map_field places bytes)
    → length stored.allocated ≡ places → bytes ≡ map_bytes stored.allocated ++ rest → IsRead {X = StoredMap × ℕ} (stored, places / 8) (Err (placed_in (length bytes) fault))
map_stands places bytes rest stored field.NoMemory whole fails as_long spelled = tt
map_stands places bytes rest stored (field.Bad left) whole fails as_long spelled =
    let e : map_field places bytes ≡ Ok (stored, rest) = ap (map_field places) spelled ∙ map_again places stored rest whole as_long in
    absurd (let f = sym e ∙ fails in cc)
