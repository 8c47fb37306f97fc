use Rattle.std.proofs.Common.{◌≡◌, map, take}
use Rattle.zc_tape.specs.Blocks.{image, made_of}
use Rattle.zc_tape.specs.Crash.{held}
use Rattle.zc_tape.proofs.blocks.replay.Given as goal

abbrev pub invariant-loop-entry : goal.invariant-loop-entry
invariant-loop-entry l = image l.places l.blocks ≡ (held (image l.places l.initial.blocks) (map made_of (take l.entry-index l.entries))).now
