use Rattle.std.proofs.Common.{sym}
use Rattle.zc_script.proofs.PieceLaws.{one_of_more}
use Rattle.zc_script.proofs.pieces.one_piece.Goals as goal

pub returns-in-Some : goal.returns-in-Some
returns-in-Some c =
    let parts = c.in-Some.field-0 in
    rw c.in-Some.ensures (sym (one_of_more c.args.separator parts.0.now parts.1.now))
