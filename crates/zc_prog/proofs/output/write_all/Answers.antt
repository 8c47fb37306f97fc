use Rattle.std.proofs.Common.{rules, refl}
use Rattle.zc_prog.proofs.Streams.{takes_more}
use Rattle.zc_prog.proofs.output.write_all.Goals as goal

pub loop-done-preserved : goal.loop-done-preserved
loop-done-preserved g c =
    let taken = g.K.Sink.taken in
    record {
      inside = search rules;
      taken = takes_more (taken c.args.sink.now) (taken c.loop-done.sink) (taken c.write.new.self) c.args.text.now _ c.loop-done.done c.in-Ok.n c.loop-done.invariant.told c.loop-done.invariant.inside refl c.loop-done.invariant.taken c.in-Ok.ensures.taken;
      told = search rules;
      later = search rules;
    }
