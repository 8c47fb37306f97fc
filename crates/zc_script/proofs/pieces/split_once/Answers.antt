use Rattle.std.proofs.Common.{◌≡◌, ◌-◌, ◌+◌, ◌==◌, length, Some, sym, arith, zero-add, take, drop}
use Rattle.std.proofs.lemmas.Grind.{common_steps}
use Rattle.zc_num.specs.Words.{found_from}
use Rattle.zc_script.proofs.PieceLaws.{pieces_found, pieces_not_found}
use Rattle.zc_script.proofs.pieces.split_once.Goals as goal

pub returns-in-Some : goal.returns-in-Some
returns-in-Some c =
    let text = c.args.text.now in
    let at = c.in-Some.at in
    let found : found_from (λ byte. byte == c.args.separator) 0 text ≡ Some (0 + at) = rw zero-add (sym c.in-Some.ensures.value) in
    let all : take (length text - (at + 1)) (drop (at + 1) text) ≡ drop (at + 1) text = grind (arith, common_steps) in
    rw all (pieces_found c.args.separator 0 at text found)

pub returns-in-None : goal.returns-in-None
returns-in-None c = pieces_not_found c.args.separator 0 c.args.text.now (sym c.in-None.ensures.value)
