use Rattle.std.proofs.Common.{◌≡◌, drop}
use Rattle.zc_damage.specs.Places.{bytes_in}
use Rattle.zc_damage.specs.Checks.{tail_hit}
use Rattle.zc_damage.proofs.tails.tail_hit.Given as goal

-- the datasets so far are passed by
abbrev pub invariant-loop-dataset : goal.invariant-loop-dataset
invariant-loop-dataset l = tail_hit (bytes_in l.blocks) (drop l.dataset-index l.datasets) ≡ tail_hit (bytes_in l.blocks) l.datasets
