use Rattle.std.proofs.Common.{◌≡◌, drop}
use Rattle.zc_damage.specs.Words.{first_of}
use Rattle.zc_damage.specs.Checks.{log_hit, log_hit_of}
use Rattle.zc_damage.proofs.early.log_hit.Given as goal

-- the datasets so far are passed by
abbrev pub invariant-loop-dataset : goal.invariant-loop-dataset
invariant-loop-dataset l = first_of (log_hit_of l.limits.devices l.limits.places) (drop l.dataset-index l.datasets) ≡ log_hit l.limits.devices l.limits.places l.datasets
