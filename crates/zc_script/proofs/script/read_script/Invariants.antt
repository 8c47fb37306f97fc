-- The lines so far and those of the rest are the lines of all, and none so far is bad.
use Rattle.std.proofs.Common.{◌≡◌, ◌+◌, ◌≤◌, ◌++◌, length}
use Rattle.zc_script.specs.Lines.{texts_of, lines_from, lines_of, bad_from, first_bad}
use Rattle.zc_script.proofs.script.read_script.Given as goal

abbrev pub invariant-loop-rest : goal.invariant-loop-rest
invariant-loop-rest l = record {
  lines : l.lines.items ++ lines_from l.pools l.session (l.count + 1) (texts_of l.rest) ≡ lines_of l.pools (texts_of l.bytes);
  good : bad_from l.pools l.session (l.count + 1) (texts_of l.rest) ≡ first_bad l.pools (texts_of l.bytes);
  counted : length l.lines.items ≤ l.count;
  few : l.count + length l.rest ≤ length l.bytes;
}

abbrev pub decreases-loop-rest : goal.decreases-loop-rest
decreases-loop-rest l = length l.rest
