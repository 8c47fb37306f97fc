-- The reply is printed after what was printed before.
use Rattle.std.proofs.lemmas.Result.{on_ok_weaker}
use Rattle.zc_prog.proofs.playing.play_command.Goals as goal

pub returns-in-Ok-clause-quiet : goal.returns-in-Ok-clause-quiet
returns-in-Ok-clause-quiet g c = on_ok_weaker c.print_reply.result (λ _. c.in-Ok.ensures.quiet) c.print_reply.ensures.ok

pub returns-in-Ok-clause-adds : goal.returns-in-Ok-clause-adds
returns-in-Ok-clause-adds g c = on_ok_weaker c.print_reply.result (λ text. (c.in-Ok.reply, c.in-Ok.ensures.adds, text)) c.print_reply.ensures.ok
