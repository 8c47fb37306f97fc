use Rattle.std.proofs.Common.{◌≡◌, ◌≤◌, map, take, length}
use Rattle.zc_tape.specs.Blocks.{image, made_of}
use Rattle.zc_tape.specs.LastSync.{writes_of}
use Rattle.zc_tape.specs.Memory.{kept}
use Rattle.zc_tape.proofs.memory.leave.keep_entries.Given as goal

abbrev pub invariant-loop-entry : goal.invariant-loop-entry
invariant-loop-entry l =
    (image l.places l.blocks ≡ kept (image l.places l.initial.blocks) (writes_of (map made_of (take l.entry-index l.entries))) l.choice)
    × (l.writes ≡ length (writes_of (map made_of (take l.entry-index l.entries))))
    × (l.writes ≤ l.entry-index)
