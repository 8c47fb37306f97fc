-- The size that two words name.
use Rattle.std.proofs.Common.{◌≡◌, ◌∙◌, ℕ, zero, suc, ◌*◌, ◌%◌, ◌<◌, ◌≤◌, Bool, true, false, true≢false, Option, Some, None, refl, sym, ap, arith, leb, eqb}
use Rattle.std.specs.Prelude.{◌↔◌, IsSome, IfSome}
use Rattle.std.proofs.lemmas.Bool.{and_parts, and_from, leb-true, le-leb, eqb-true, eq-eqb}
use Rattle.zc_num.specs.Limits.{AreLimits}
use Rattle.zc_script.specs.Pools.{only_if}
use Rattle.zc_prog.specs.Words.{are_limits}

-- a test that can't hold fails
fails : (test : Bool) → (test ≡ true → ⊥) → test ≡ false
fails true never = absurd (never refl)
fails false never = refl

-- what passes the test is a size of a pool
limits_of_test : (devices places : ℕ) → are_limits devices places ≡ true → AreLimits devices places
limits_of_test devices places passes =
    let one = and_parts (leb 1 devices) _ passes in
    let two = and_parts (leb devices 4) _ one.1 in
    let three = and_parts (eqb (places % 128) 0) _ two.1 in
    let four = and_parts (leb 1024 (devices * places)) (leb (devices * places) 131072) three.1 in
    record {
      some_device = leb-true 1 devices one.0;
      few_devices = leb-true devices 4 two.0;
      whole_regions = eqb-true (places % 128) 0 three.0;
      enough_places = leb-true 1024 (devices * places) four.0;
      few_places = leb-true (devices * places) 131072 four.1;
    }

-- and the other way round
test_of_limits : (devices places : ℕ) → AreLimits devices places → are_limits devices places ≡ true
test_of_limits devices places limits =
    and_from (leb 1 devices) _ (le-leb 1 devices limits.some_device)
    (and_from (leb devices 4) _ (le-leb devices 4 limits.few_devices)
    (and_from (eqb (places % 128) 0) _ (eq-eqb (places % 128) 0 limits.whole_regions)
    (and_from (leb 1024 (devices * places)) (leb (devices * places) 131072) (le-leb 1024 (devices * places) limits.enough_places) (le-leb (devices * places) 131072 limits.few_places))))

-- so many places of one device are too many of more
at_least : (devices places : ℕ) → 1 ≤ devices → places ≤ devices * places
at_least zero places some = absurd (omega (arith, some))
at_least (suc devices) places some = omega arith

-- more devices or places than any pool has
pub size_too_large : (devices places : ℕ) → are_limits devices places ≡ true → (devices ≤ 4) × (places ≤ 131072)
size_too_large devices places passes =
    let limits = limits_of_test devices places passes in
    let least : places ≤ devices * places = at_least devices places limits.some_device in
    (limits.few_devices, omega (arith, least, limits.few_places))

-- the size that was found is the one that the test lets pass
pub size_found : (devices places : ℕ) (found : Option (ℕ × ℕ)) → (IsSome found ↔ AreLimits devices places) → IfSome found (λ size. (size.0 ≡ devices) × (size.1 ≡ places))
    → found ≡ only_if (are_limits devices places) (devices, places)
size_found devices places None exact same = ap (λ (test : Bool). only_if test (devices, places)) (sym (fails (are_limits devices places) (λ passes. true≢false (sym (exact.1 (limits_of_test devices places passes))))))
size_found devices places (Some size) exact same =
    ap Some (λ i. (same.0 i, same.1 i)) ∙ ap (λ (test : Bool). only_if test (devices, places)) (sym (test_of_limits devices places (exact.0 refl)))

-- none where there are too many
size_none : (devices places : ℕ) → ((devices ≤ 4) × (places ≤ 131072) → ⊥) → ◌≡◌ {A = Option (ℕ × ℕ)} None (only_if (are_limits devices places) (devices, places))
size_none devices places many = ap (λ (test : Bool). only_if test (devices, places)) (sym (fails (are_limits devices places) (λ passes. many (size_too_large devices places passes))))

pub too_many_devices : (devices places : ℕ) → 4 < devices → ◌≡◌ {A = Option (ℕ × ℕ)} None (only_if (are_limits devices places) (devices, places))
too_many_devices devices places many = size_none devices places (λ few. omega (arith, many, few.0))

pub too_many_places : (devices places : ℕ) → 131072 < places → ◌≡◌ {A = Option (ℕ × ℕ)} None (only_if (are_limits devices places) (devices, places))
too_many_places devices places many = size_none devices places (λ few. omega (arith, many, few.1))
