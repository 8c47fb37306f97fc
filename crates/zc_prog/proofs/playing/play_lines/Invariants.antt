-- What the lines so far came to.
use Rattle.std.proofs.Common.{◌≡◌, ◌++◌, length}
use Rattle.std.specs.List.{AllByRecursion}
use Rattle.std.specs.Vec.Iter.{into_iter_items, into_iter_len}
use Rattle.zc_script.specs.declared.act.Line.{Line}
use Rattle.zc_pool.specs.Running.{IsPool}
use Rattle.zc_prog.specs.Played.{AddsLines}
use Rattle.zc_prog.specs.Midway.{Goes, IsQuiet, MeetsAct, first_mark}
use Rattle.zc_prog.proofs.playing.play_lines.Given as goal

abbrev pub invariant-loop-line : goal.invariant-loop-line
invariant-loop-line g l =
    let tape = g.D.DiskSet.tape in
    let shape = g.D.DiskSet.shape in
    let faults = g.D.DiskSet.faults in
    record {
      parts : l.yielded ++ into_iter_items l.line-iterator ≡ into_iter_items l.initial.line-iterator;
      count : into_iter_len l.line-iterator ≡ length (into_iter_items l.line-iterator);
      conditions : AllByRecursion (λ (line : Line). MeetsAct line.act) (into_iter_items l.line-iterator);
      goes : Goes shape tape faults l.initial.pool l.pool;
      is_pool : IsPool (shape l.pool.disks) l.pool.root l.pool.kept;
      quiet : IsQuiet l.pool.kept;
      adds : AddsLines l.yielded (first_mark l.initial.pool.kept.calls) l.pool.kept.history l.out.items l.pool.kept.acks l.pool.kept.calls;
    }
