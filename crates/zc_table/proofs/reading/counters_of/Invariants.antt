use Rattle.std.proofs.Common.{◌≡◌, ◌-◌}
use Rattle.zc_table.specs.TableBytes.{counters_field}
use Rattle.zc_table.proofs.ReadLoops.{with_front}
use Rattle.zc_table.proofs.reading.counters_of.Given as goal

abbrev pub invariant-loop : goal.invariant-loop
invariant-loop l = with_front l.counters (counters_field (l.number - l.counter) l.rest) ≡ counters_field l.number l.bytes
