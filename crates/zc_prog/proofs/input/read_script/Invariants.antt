-- What was read so far is the front of what the source had.
use Rattle.std.proofs.Common.{◌≡◌, ◌+◌, ◌-◌, ◌≤◌, vec_len}
use Rattle.zc_io.specs.Stream.{GivesFront}
use Rattle.zc_prog.specs.Input.{most_bytes}
use Rattle.zc_prog.proofs.input.read_script.Given as goal

abbrev pub invariant-loop-source : goal.invariant-loop-source
invariant-loop-source g l = record {
  given : GivesFront (g.S.Source.left l.initial.source) (g.S.Source.left l.source) l.script.items;
  told : (g.S.Source.left l.source).told ≡ (g.S.Source.left l.initial.source).told;
  piece : vec_len l.piece ≡ 65536;
  few : vec_len l.script ≤ most_bytes + 1;
  later : g.S.Source.faults l.initial.source ≤ g.S.Source.faults l.source;
}

abbrev pub decreases-loop-source : goal.decreases-loop-source
decreases-loop-source g l = most_bytes + 1 - vec_len l.script
