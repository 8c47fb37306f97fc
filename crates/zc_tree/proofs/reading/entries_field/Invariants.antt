use Rattle.std.proofs.Common.{◌≡◌, ◌-◌, ◌<◌}
use Rattle.std.specs.List.{AllByRecursion}
use Rattle.zc_tree.specs.Reading.{entries_field}
use Rattle.zc_tree.proofs.Loops.{with_front}
use Rattle.zc_tree.proofs.reading.entries_field.Given as goal

-- what is read and what is left to read are all; each block that is read is below the least that may come
abbrev pub invariant-loop : goal.invariant-loop
invariant-loop l = record {
  joined : with_front l.slots (entries_field l.limits.devices l.limits.places l.size (l.count - l.counter) l.least l.rest) ≡ entries_field l.limits.devices l.limits.places l.size l.count 0 l.bytes;
  below : AllByRecursion (λ entry. entry.0 < l.least) l.slots;
}
