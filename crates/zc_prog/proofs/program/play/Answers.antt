use Rattle.std.proofs.Common.{ℕ, List, Option, map, subst, sym, ◌∙◌}
use Rattle.std.specs.Prelude.{string_bytes}
use Rattle.zc_prog.specs.declared.words.Task.{Task}
use Rattle.zc_prog.specs.Words.{task_of}
use Rattle.zc_prog.specs.Play.{Outside, IsRunOf}
use Rattle.zc_prog.proofs.RunLaws.{orderly_run, usage_run}
use Rattle.zc_prog.proofs.program.play.Goals as goal

pub returns-in-Ok-Some-clause-run : goal.returns-in-Ok-Some-clause-run
returns-in-Ok-Some-clause-run g c =
    let old : Outside = record { left = g.S.Source.left c.args.source.now; read_faults = g.S.Source.faults c.args.source.now; stock = g.H.Shelf.stock c.args.shelf.now; shelf_faults = g.H.Shelf.faults c.args.shelf.now } in
    let new : Outside = record {
      left = g.S.Source.left c.run_and_tell.new.source;
      read_faults = g.S.Source.faults c.run_and_tell.new.source;
      stock = g.H.Shelf.stock c.run_and_tell.new.shelf;
      shelf_faults = g.H.Shelf.faults c.run_and_tell.new.shelf;
    } in
    subst (λ (task : Option Task). IsRunOf task old new (g.K.Sink.taken c.args.sink.now) (g.K.Sink.taken c.run_and_tell.new.sink) (g.K.Sink.faults c.args.sink.now) (g.K.Sink.faults c.run_and_tell.new.sink) c.run_and_tell.result)
    (sym c.in-Ok-Some.field-0-is ∙ c.in-Ok-Some.ensures.value) c.run_and_tell.ensures.run

pub returns-in-Ok-Some-clause-complete : goal.returns-in-Ok-Some-clause-complete
returns-in-Ok-Some-clause-complete g c =
    let old : Outside = record { left = g.S.Source.left c.args.source.now; read_faults = g.S.Source.faults c.args.source.now; stock = g.H.Shelf.stock c.args.shelf.now; shelf_faults = g.H.Shelf.faults c.args.shelf.now } in
    let new : Outside = record {
      left = g.S.Source.left c.run_and_tell.new.source;
      read_faults = g.S.Source.faults c.run_and_tell.new.source;
      stock = g.H.Shelf.stock c.run_and_tell.new.shelf;
      shelf_faults = g.H.Shelf.faults c.run_and_tell.new.shelf;
    } in
    let words : List (List ℕ) = map string_bytes c.args.words.now in
    orderly_run words old new (g.K.Sink.taken c.args.sink.now) (g.K.Sink.taken c.run_and_tell.new.sink) (g.K.Sink.faults c.args.sink.now) (g.K.Sink.faults c.run_and_tell.new.sink) c.run_and_tell.result
    (subst (λ (task : Option Task). IsRunOf task old new (g.K.Sink.taken c.args.sink.now) (g.K.Sink.taken c.run_and_tell.new.sink) (g.K.Sink.faults c.args.sink.now) (g.K.Sink.faults c.run_and_tell.new.sink) c.run_and_tell.result)
    (sym c.in-Ok-Some.field-0-is ∙ c.in-Ok-Some.ensures.value) c.run_and_tell.ensures.run)

pub returns-in-Ok-None-clause-run : goal.returns-in-Ok-None-clause-run
returns-in-Ok-None-clause-run g c =
    let old : Outside = record { left = g.S.Source.left c.args.source.now; read_faults = g.S.Source.faults c.args.source.now; stock = g.H.Shelf.stock c.args.shelf.now; shelf_faults = g.H.Shelf.faults c.args.shelf.now } in
    usage_run (task_of (map string_bytes c.args.words.now)) old (g.K.Sink.taken c.args.sink.now) (g.K.Sink.taken c.tell.new.sink) (g.K.Sink.faults c.args.sink.now) (g.K.Sink.faults c.tell.new.sink) c.tell.result
    (sym c.in-Ok-None.field-0-is ∙ c.in-Ok-None.ensures.value) c.tell.ensures
