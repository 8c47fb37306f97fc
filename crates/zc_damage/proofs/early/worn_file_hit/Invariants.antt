use Rattle.std.proofs.Common.{◌≡◌, drop}
use Rattle.zc_damage.specs.Words.{first_of}
use Rattle.zc_damage.specs.Checks.{worn_hit_at}
use Rattle.zc_damage.proofs.early.worn_file_hit.Given as goal

-- the datasets so far are passed by
abbrev pub invariant-loop-dataset : goal.invariant-loop-dataset
invariant-loop-dataset l = first_of (λ dataset. worn_hit_at l.group dataset.next_file) (drop l.dataset-index l.datasets) ≡ first_of (λ dataset. worn_hit_at l.group dataset.next_file) l.datasets
