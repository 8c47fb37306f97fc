-- What was taken so far is a front of the text.
use Rattle.std.proofs.Common.{◌≡◌, ◌-◌, ◌≤◌, length, take}
use Rattle.zc_io.specs.Stream.{Takes}
use Rattle.zc_prog.proofs.output.write_all.Given as goal

abbrev pub invariant-loop-done : goal.invariant-loop-done
invariant-loop-done g l = record {
  inside : l.done ≤ length l.text;
  taken : Takes (g.K.Sink.taken l.initial.sink) (g.K.Sink.taken l.sink) (take l.done l.text);
  told : (g.K.Sink.taken l.sink).told ≡ (g.K.Sink.taken l.initial.sink).told;
  later : g.K.Sink.faults l.initial.sink ≤ g.K.Sink.faults l.sink;
}

abbrev pub decreases-loop-done : goal.decreases-loop-done
decreases-loop-done g l = length l.text - l.done
