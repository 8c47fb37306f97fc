-- A line asks its command, or of no pool.
use Rattle.std.proofs.Common.{subst}
use Rattle.std.proofs.lemmas.Result.{on_ok_weaker}
use Rattle.zc_prog.specs.Midway.{MeetsAct}
use Rattle.zc_prog.proofs.EntryLaws.{line_of_pool, line_of_no_pool, asks_no_pool, asks_of_line}
use Rattle.zc_prog.proofs.GoesLaws.{goes_nowhere}
use Rattle.zc_prog.proofs.playing.play_line.Goals as goal

pub play_command-requires-clause-conditions : goal.play_command-requires-clause-conditions
play_command-requires-clause-conditions g c = subst MeetsAct c.in-Pool.is c.requires.conditions

pub returns-in-Pool-clause-adds : goal.returns-in-Pool-clause-adds
returns-in-Pool-clause-adds g c =
    on_ok_weaker c.play_command.result
    (λ did. line_of_pool c.args.line c.in-Pool.pool c.in-Pool.command did.0 c.args.pool.now.kept c.play_command.new.pool.kept c.args.out.now.items c.play_command.new.out.items c.in-Pool.is did.1 did.2)
    c.play_command.ensures.adds

pub returns-in-Pool-clause-asked : goal.returns-in-Pool-clause-asked
returns-in-Pool-clause-asked g c =
    asks_of_line c.args.line c.in-Pool.pool c.in-Pool.command c.args.pool.now.kept.history c.play_command.new.pool.kept.history c.in-Pool.is c.play_command.ensures.asked

pub returns-in-NoSuchPool-clause-goes : goal.returns-in-NoSuchPool-clause-goes
returns-in-NoSuchPool-clause-goes g c = goes_nowhere g.D.DiskSet.shape g.D.DiskSet.tape g.D.DiskSet.faults c.args.pool.now

pub returns-in-NoSuchPool-clause-quiet : goal.returns-in-NoSuchPool-clause-quiet
returns-in-NoSuchPool-clause-quiet g c = on_ok_weaker c.print_no_pool.result (λ _. c.requires.quiet) c.print_no_pool.ensures.ok

pub returns-in-NoSuchPool-clause-adds : goal.returns-in-NoSuchPool-clause-adds
returns-in-NoSuchPool-clause-adds g c =
    on_ok_weaker c.print_no_pool.result (λ text. line_of_no_pool c.args.line c.args.pool.now.kept c.args.out.now.items c.print_no_pool.new.out.items c.in-NoSuchPool.is text) c.print_no_pool.ensures.ok

pub returns-in-NoSuchPool-clause-asked : goal.returns-in-NoSuchPool-clause-asked
returns-in-NoSuchPool-clause-asked g c = asks_no_pool c.args.line c.args.pool.now.kept.history
