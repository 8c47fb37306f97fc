use Rattle.zc_script.proofs.SpellingLaws.{printed_session_is_read}
use Rattle.zc_script.proofs.printing.print_session.Goals as goal

pub returns-in_err-extend_from_slice-clause-read_back : goal.returns-in_err-extend_from_slice-clause-read_back
returns-in_err-extend_from_slice-clause-read_back c = λ pools few. printed_session_is_read pools c.args.session few

pub returns-in_err-push_number-clause-read_back : goal.returns-in_err-push_number-clause-read_back
returns-in_err-push_number-clause-read_back c = λ pools few. printed_session_is_read pools c.args.session few

pub returns-in_err-push-clause-read_back : goal.returns-in_err-push-clause-read_back
returns-in_err-push-clause-read_back c = λ pools few. printed_session_is_read pools c.args.session few

pub returns-clause-read_back : goal.returns-clause-read_back
returns-clause-read_back c = λ pools few. printed_session_is_read pools c.args.session few
