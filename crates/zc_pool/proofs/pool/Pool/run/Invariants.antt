-- What the events so far came to.
use Rattle.std.proofs.Common.{◌≡◌, ◌+◌, ◌≤◌, ◌++◌, length, IsTrue}
use Rattle.std.specs.Vec.Iter.{into_iter_items, into_iter_len}
use Rattle.zc_tape.proofs.Extends.{Extends}
use Rattle.zc_open.specs.Acked.{AreAcks}
use Rattle.zc_pool.specs.Ran.{MakesAll}
use Rattle.zc_pool.specs.Running.{Run, IsPool, IsRunning}
use Rattle.zc_pool.proofs.pool.Pool.run.Given as goal

abbrev pub invariant-loop-event : goal.invariant-loop-event
invariant-loop-event g l =
    let tape = g.D.DiskSet.tape in
    let shape = g.D.DiskSet.shape in
    record {
      parts : l.yielded ++ into_iter_items l.event-iterator ≡ into_iter_items l.initial.event-iterator;
      count : into_iter_len l.event-iterator ≡ length (into_iter_items l.event-iterator);
      place : l.at ≡ length l.yielded;
      number : l.at + into_iter_len l.event-iterator ≡ into_iter_len l.initial.event-iterator;
      makes : MakesAll l.initial.self.kept l.self.kept l.yielded;
      goes_on : (run : Run) → IsRunning (shape l.initial.self.disks) (tape l.initial.self.disks) run l.initial.self.root l.initial.self.kept
          → IsRunning (shape l.initial.self.disks) (tape l.self.disks) run l.self.root l.self.kept;
      acks : AreAcks l.initial.self.kept → AreAcks l.self.kept;
      pool : IsPool (shape l.self.disks) l.self.root l.self.kept;
      same_shape : shape l.self.disks ≡ shape l.initial.self.disks;
      told : (tape l.self.disks).told ≡ (tape l.initial.self.disks).told;
      extends : IsTrue (tape l.initial.self.disks).told → Extends (tape l.initial.self.disks) (tape l.self.disks);
      later : g.D.DiskSet.faults l.initial.self.disks ≤ g.D.DiskSet.faults l.self.disks;
    }
