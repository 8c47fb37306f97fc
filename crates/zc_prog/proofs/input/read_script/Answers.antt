use Rattle.std.proofs.Common.{◌+◌, take, arith, rules}
use Rattle.zc_io.specs.Stream.{GivesFront}
use Rattle.zc_prog.specs.Input.{most_bytes}
use Rattle.zc_prog.proofs.Streams.{gives_more, gives_nothing, gave_length}
use Rattle.zc_prog.proofs.input.read_script.Goals as goal

pub returns-then-n-eq0-clause-ok : goal.returns-then-n-eq0-clause-ok
returns-then-n-eq0-clause-ok g c =
    let left = g.S.Source.left in
    let first = left c.args.source.now in
    let old = left c.loop-source.source in
    let new = left c.read_piece.new.source in
    let given : GivesFront old new (take c.in_ok-n.n c.read_piece.new.piece) = c.in_ok-n.ensures.given in
    record {
      given = rw c.in_ok-n.ensures.added (gives_more first old new c.loop-source.script.items _ c.loop-source.invariant.told c.loop-source.invariant.given given);
      end = λ told. gives_nothing old new _ (rw c.loop-source.invariant.told told) (c.in_ok-n.ensures.end c.if-n-eq0.true (rw c.loop-source.invariant.told told)) given;
      fits = omega (arith, c.in_ok-n.ensures.grows, c.read_piece.new.script.ok.0);
    }

pub loop-source-preserved : goal.loop-source-preserved
loop-source-preserved g c =
    let left = g.S.Source.left in
    let first = left c.args.source.now in
    let old = left c.loop-source.source in
    let new = left c.read_piece.new.source in
    record {
      given = rw c.in_ok-n.ensures.added (gives_more first old new c.loop-source.script.items _ c.loop-source.invariant.told c.loop-source.invariant.given c.in_ok-n.ensures.given);
      told = search rules;
      piece = search rules;
      few = c.in_ok-n.ensures.few;
      later = search rules;
    }

pub returns-clause-large : goal.returns-clause-large
returns-clause-large g c = λ e told.
    let left = g.S.Source.left in
    gave_length (left c.args.source.now) (left c.loop-source.source) c.loop-source.script.items (most_bytes + 1) told (omega (arith, c.loop-source.script.ok.0, c.loop-source-test.false)) c.loop-source.invariant.given
