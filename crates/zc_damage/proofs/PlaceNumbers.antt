-- The numbers of places, device by device.
use Rattle.std.proofs.Common.{ℕ, zero, suc, ◌+◌, ◌*◌, ◌<◌, mul-zero, arith}
use Rattle.std.proofs.Math.Nat.{mul_comm}
use Rattle.std.proofs.lemmas.Nat.{mul-add-lt}
use Rattle.zc_num.specs.Limits.{AreLimits, total_of}

-- a place of the pool has a number below the number of all places
pub number_below : (devices places device place : ℕ) → device < devices → place < places → device * places + place < total_of devices places
number_below devices places device place on_device in_places =
    omega (arith, mul-add-lt device places place devices on_device in_places, mul_comm devices places)

-- each device has places
pub some_places : (devices places : ℕ) → AreLimits devices places → 0 < places
some_places devices zero limits = absurd (omega (arith, limits.enough_places, mul-zero devices))
some_places devices (suc places) limits = omega arith
