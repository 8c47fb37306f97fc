use Rattle.std.proofs.Common.{◌≡◌, ◌-◌, []}
use Rattle.zc_tree.specs.CatalogueReading.{datasets_field}
use Rattle.zc_tree.proofs.Loops.{with_front}
use Rattle.zc_catalog.proofs.reading.datasets_field.Given as goal

-- what is read and what is left to read are all; each dataset is read after those that were
abbrev pub invariant-loop : goal.invariant-loop
invariant-loop l =
    with_front l.datasets (datasets_field l.limits.devices l.limits.places l.group l.next_dataset (l.number - l.counter) l.datasets l.rest)
    ≡ datasets_field l.limits.devices l.limits.places l.group l.next_dataset l.number [] l.bytes
