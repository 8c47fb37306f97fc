use Rattle.std.proofs.Common.{List, ℕ, sym, subst}
use Rattle.zc_prog.specs.Input.{WasRead}
use Rattle.zc_prog.specs.Play.{Outside}
use Rattle.zc_prog.proofs.RunLaws.{acts_are, played_cause, script_stopped}
use Rattle.zc_prog.proofs.program.play_script.Goals as goal

pub play_pool-requires-clause-acts : goal.play_pool-requires-clause-acts
play_pool-requires-clause-acts g c κs a = acts_are c.args.name.now c.in-Ok-lines_of.lines c.in-Ok-lines_of.ensures.acts

pub returns-clause-cause : goal.returns-clause-cause
returns-clause-cause g c =
    let old : Outside = record { left = g.S.Source.left c.args.source.now; read_faults = g.S.Source.faults c.args.source.now; stock = g.H.Shelf.stock c.args.shelf.now; shelf_faults = g.H.Shelf.faults c.args.shelf.now } in
    let new : Outside = record {
      left = g.S.Source.left c.read_script.new.source;
      read_faults = g.S.Source.faults c.read_script.new.source;
      stock = g.H.Shelf.stock c.play_pool.new.shelf;
      shelf_faults = g.H.Shelf.faults c.play_pool.new.shelf;
    } in
    let read : WasRead old.left new.left c.deref.result.now = subst (λ (script : List ℕ). WasRead old.left new.left script) (sym c.deref.ensures.value) c.in-Ok.ensures.ok in
    played_cause old new c.args.name.now c.deref.result.now c.in-Ok-lines_of.lines read c.in-Ok-lines_of.ensures.good c.in-Ok-lines_of.ensures.ok c.play_pool.result c.play_pool.ensures.pooled

pub returns-clause-stopped : goal.returns-clause-stopped
returns-clause-stopped g c =
    let old : Outside = record { left = g.S.Source.left c.args.source.now; read_faults = g.S.Source.faults c.args.source.now; stock = g.H.Shelf.stock c.args.shelf.now; shelf_faults = g.H.Shelf.faults c.args.shelf.now } in
    let new : Outside = record {
      left = g.S.Source.left c.read_script.new.source;
      read_faults = g.S.Source.faults c.read_script.new.source;
      stock = g.H.Shelf.stock c.play_pool.new.shelf;
      shelf_faults = g.H.Shelf.faults c.play_pool.new.shelf;
    } in
    let read : WasRead old.left new.left c.deref.result.now = subst (λ (script : List ℕ). WasRead old.left new.left script) (sym c.deref.ensures.value) c.in-Ok.ensures.ok in
    script_stopped old new c.args.name.now c.deref.result.now c.in-Ok-lines_of.lines read c.in-Ok-lines_of.ensures.good c.in-Ok-lines_of.ensures.ok c.play_pool.ensures.stopped
