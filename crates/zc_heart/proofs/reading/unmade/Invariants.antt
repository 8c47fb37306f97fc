use Rattle.std.proofs.Common.{◌≡◌, ◌≤◌}
use Rattle.zc_heart.specs.File.{unmade_in}
use Rattle.zc_heart.proofs.reading.unmade.Given as goal

-- the blocks so far are counted
abbrev pub invariant-loop-k : goal.invariant-loop-k
invariant-loop-k l = record {
  counted : l.unmade ≡ unmade_in l.first l.k l.file;
  few : l.unmade ≤ l.k;
}
