use Rattle.std.proofs.Common.{◌≡◌, ◌≤◌, map, take, length}
use Rattle.zc_tape.specs.Blocks.{made_of}
use Rattle.zc_tape.specs.LastSync.{writes_of}
use Rattle.zc_tape.proofs.memory.leave.count_writes.Given as goal

abbrev pub invariant-loop-entry : goal.invariant-loop-entry
invariant-loop-entry l = (l.writes ≡ length (writes_of (map made_of (take l.entry-index l.entries)))) × (l.writes ≤ l.entry-index)
