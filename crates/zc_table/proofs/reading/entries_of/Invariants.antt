use Rattle.std.proofs.Common.{◌≡◌, ◌-◌}
use Rattle.zc_table.specs.TableBytes.{entries_field}
use Rattle.zc_table.proofs.ReadLoops.{with_front}
use Rattle.zc_table.proofs.reading.entries_of.Given as goal

abbrev pub invariant-loop : goal.invariant-loop
invariant-loop l =
    with_front l.entries (entries_field l.limits.devices l.limits.places l.device (l.number - l.counter) l.least l.rest)
    ≡ entries_field l.limits.devices l.limits.places l.device l.number 0 l.bytes
