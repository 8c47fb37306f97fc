-- Where the log areas stand: among the fixed places, and apart from one another.
use Rattle.std.proofs.Common.{◌≡◌, ℕ, ◌+◌, ◌*◌, ◌<◌, ◌≤◌, true, nat_lt, nat_le, ◌==◌, ◌&&◌, ◌⊎◌, ⊎_elim, arith}
use Rattle.std.proofs.lemmas.Bool.{cases_order, and_parts, and_from}
use Rattle.std.proofs.lemmas.Nat.{mul-le}
use borrow.Author.Tests.{eqb-true, ltb-true, lt-ltb, le-leb}
use Rattle.zc_num.specs.Limits.{log_places_of, log_start_of, IsFixed, is_log}

-- a place of a log area is fixed
pub log_is_fixed : (devices places device place : ℕ) → is_log devices places device place ≡ true → IsFixed devices places device place
log_is_fixed devices places device place is =
    let end : ℕ = 4 + 8 * log_places_of devices places in
    let parts = and_parts (device == 0) (nat_le 4 place && nat_lt place end) is in
    (eqb-true device 0 parts.0, ltb-true place end (and_parts (nat_le 4 place) (nat_lt place end) parts.1).1)

-- the area of a slot ends where that of the next one begins, or before a later one
pub log_areas_in_a_row : (devices places slot later : ℕ) → slot < later → log_start_of devices places slot + log_places_of devices places ≤ log_start_of devices places later
log_areas_in_a_row devices places slot later before = row (log_places_of devices places) where
  row : (count : ℕ) → 4 + slot * count + count ≤ 4 + later * count
  row count = let more = mul-le (slot + 1) count later count (omega (arith, before)) (omega arith) in omega (arith, more)

-- a place of a slot's area is a place of a log area
pub in_area_is_log : (devices places slot place : ℕ) → slot < 8 → log_start_of devices places slot ≤ place → place < log_start_of devices places slot + log_places_of devices places
    → is_log devices places 0 place ≡ true
in_area_is_log devices places slot place few from to =
    let end : ℕ = 4 + 8 * log_places_of devices places in
    let within : log_start_of devices places slot + log_places_of devices places ≤ end = log_areas_in_a_row devices places slot 8 few in
    and_from (nat_le 4 place) (nat_lt place end) (le-leb 4 place (omega (arith, from))) (lt-ltb place end (omega (arith, within, to)))

-- a place in the areas of two slots is in that of one slot alone, so the areas are apart
pub log_areas_apart : (devices places slot other place : ℕ)
    → log_start_of devices places slot ≤ place → place < log_start_of devices places slot + log_places_of devices places
    → log_start_of devices places other ≤ place → place < log_start_of devices places other + log_places_of devices places
    → slot ≡ other
log_areas_apart devices places slot other place from to other_from other_to =
    ⊎_elim
    (λ (same : slot ≡ other). same)
    (λ (apart : (slot < other) ⊎ (other < slot)).
    ⊎_elim
    (λ (before : slot < other). absurd (omega (arith, log_areas_in_a_row devices places slot other before, to, other_from)))
    (λ (after : other < slot). absurd (omega (arith, log_areas_in_a_row devices places other slot after, other_to, from)))
    apart)
    (cases_order slot other)
