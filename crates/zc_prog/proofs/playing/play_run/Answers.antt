-- The lines, and then the last commit.
use Rattle.std.proofs.Common.{◌∷◌, [], List, sym, subst}
use Rattle.std.specs.List.{AllByRecursion}
use Rattle.zc_command.specs.declared.command.Command.TheVariants.{Commit}
use Rattle.zc_script.specs.declared.act.Line.{Line}
use Rattle.zc_prog.specs.Played.{askings_in, run_of, last_session, AddsLines}
use Rattle.zc_prog.specs.Session.{IsFront}
use Rattle.zc_prog.specs.Midway.{asking, MeetsAct, first_mark}
use Rattle.zc_prog.proofs.EntryLaws.{acts_meet, front_at_end}
use Rattle.zc_prog.proofs.GoesLaws.{goes_then}
use Rattle.zc_prog.proofs.EndLaws.{new_is_quiet, has_ended}
use Rattle.zc_prog.proofs.playing.play_run.Goals as goal

pub play_lines-requires-clause-quiet : goal.play_lines-requires-clause-quiet
play_lines-requires-clause-quiet g c = new_is_quiet c.args.pool.now.kept c.requires.begins

pub play_lines-requires-clause-conditions : goal.play_lines-requires-clause-conditions
play_lines-requires-clause-conditions g c =
    subst (λ (lines : List Line). AllByRecursion (λ (line : Line). MeetsAct line.act) lines) (sym c.into_vec.ensures) (acts_meet c.args.lines c.requires.acts)

pub returns-in-Ok-clause-goes : goal.returns-in-Ok-clause-goes
returns-in-Ok-clause-goes g c =
    goes_then g.D.DiskSet.shape g.D.DiskSet.tape g.D.DiskSet.faults c.args.pool.now c.play_lines.new.pool c.play_end.new.pool c.play_lines.ensures.goes c.play_end.ensures.goes

pub returns-in-Ok-clause-ended : goal.returns-in-Ok-clause-ended
returns-in-Ok-clause-ended g c =
    let mid = c.play_lines.new.pool.kept in
    let new = c.play_end.new.pool in
    has_ended c.args.name.now c.args.lines new.root.tree.group c.args.pool.now.kept.calls mid new.kept c.play_lines.new.out.items c.play_end.result
    (subst (λ (lines : List Line). AddsLines lines (first_mark c.args.pool.now.kept.calls) mid.history c.play_lines.new.out.items mid.acks mid.calls) c.into_vec.ensures c.in-Ok.ensures.adds)
    c.play_end.ensures.adds c.play_end.ensures.quiet

pub returns-in-Ok-clause-asked : goal.returns-in-Ok-clause-asked
returns-in-Ok-clause-asked g c =
    let mid = c.play_lines.new.pool.kept in
    front_at_end c.args.lines (first_mark c.args.pool.now.kept.calls) mid c.play_end.new.pool.kept.history c.play_lines.new.out.items
    (subst (λ (lines : List Line). AddsLines lines (first_mark c.args.pool.now.kept.calls) mid.history c.play_lines.new.out.items mid.acks mid.calls) c.into_vec.ensures c.in-Ok.ensures.adds)
    c.play_end.ensures.asked

pub returns-in-Err-clause-asked : goal.returns-in-Err-clause-asked
returns-in-Err-clause-asked g c =
    subst (λ (lines : List Line). IsFront (askings_in c.play_lines.new.pool.kept.history) (run_of lines)) c.into_vec.ensures
    (c.in-Err.ensures.asked (asking last_session Commit ∷ []))
