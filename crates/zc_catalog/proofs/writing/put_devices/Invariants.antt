use Rattle.std.proofs.Common.{◌≡◌, ◌++◌, drop}
use Rattle.zc_catalog.proofs.Loops.{texts_of}
use Rattle.zc_catalog.proofs.writing.put_devices.Given as goal

-- what is written and what is left are all
abbrev pub invariant-loop-device : goal.invariant-loop-device
invariant-loop-device l = l.out.items ++ texts_of (drop l.device l.tables) (drop l.device l.maps) ≡ l.fn.out.items ++ texts_of l.tables l.maps
