-- Where bytes are not what they should be.
use Rattle.std.specs.Prelude.{ℕ}
use Rattle.zc_wire.specs.declared.fault.WireFault.{WireFault}
use Rattle.zc_wire.specs.declared.fault.WireFault.TheVariants.{Short, Trailing}

-- how many bytes stand before the place where the read failed
abbrev pub fault_place : WireFault → ℕ
fault_place (Short at) = at
fault_place (Trailing at) = at
