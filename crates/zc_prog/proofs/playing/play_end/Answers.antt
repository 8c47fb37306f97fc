-- The last commit is asked as any other, and its line ends the text.
use Rattle.std.proofs.Common.{refl}
use Rattle.zc_prog.proofs.EndLaws.{still_quiet, adds_end_line}
use Rattle.zc_prog.proofs.playing.play_end.Goals as goal

pub returns-in-Ok-clause-quiet : goal.returns-in-Ok-clause-quiet
returns-in-Ok-clause-quiet g c = still_quiet c.ask.new.pool.kept c.ended.result c.in-Ok.ensures.quiet

pub returns-in-Ok-clause-adds : goal.returns-in-Ok-clause-adds
returns-in-Ok-clause-adds g c =
    let new = c.ask.new.pool in
    adds_end_line c.args.name.now c.root_group.result new.root.tree.group c.args.pool.now.kept new.kept c.args.out.items c.in-Ok.reply c.ended.result
    c.root_group.ensures c.in-Ok.ensures.adds (c.in-Ok.ensures.ends refl) c.ended.ensures.text c.ended.ensures.good
