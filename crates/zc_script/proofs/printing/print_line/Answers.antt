use Rattle.zc_script.proofs.SpellingLaws.{printed_is_read}
use Rattle.zc_script.proofs.printing.print_line.Goals as goal

pub returns-in_err-push_command-clause-read_back : goal.returns-in_err-push_command-clause-read_back
returns-in_err-push_command-clause-read_back c = λ pools is_pool has. printed_is_read pools c.args.pool.now c.args.command.now is_pool has

pub returns-in_err-push-clause-read_back : goal.returns-in_err-push-clause-read_back
returns-in_err-push-clause-read_back c = λ pools is_pool has. printed_is_read pools c.args.pool.now c.args.command.now is_pool has

pub returns-clause-read_back : goal.returns-clause-read_back
returns-clause-read_back c = λ pools is_pool has. printed_is_read pools c.args.pool.now c.args.command.now is_pool has
