use Rattle.std.proofs.Common.{◌≡◌, ◌-◌, ◌+◌, ◌==◌, length, Some, sym, arith, zero-add, take, drop}
use Rattle.std.proofs.lemmas.Grind.{common_steps}
use Rattle.zc_num.specs.Words.{found_from}
use Rattle.zc_num.proofs.Pieces.{pieces_found, pieces_not_found, pieces_of_nothing}
use Rattle.zc_script.proofs.script.first_text.Goals as goal

pub returns-in-Some-clause-texts : goal.returns-in-Some-clause-texts
returns-in-Some-clause-texts c =
    let bytes = c.args.bytes.now in
    let at = c.in-Some.at in
    let found : found_from (λ byte. byte == 10) 0 bytes ≡ Some (0 + at) = rw zero-add (sym c.in-Some.ensures.value) in
    let all : take (length bytes - (at + 1)) (drop (at + 1) bytes) ≡ drop (at + 1) bytes = grind (arith, common_steps) in
    rw all (pieces_found 10 0 at bytes found)

pub returns-in-None-clause-texts : goal.returns-in-None-clause-texts
returns-in-None-clause-texts c = rw (pieces_of_nothing 10) (pieces_not_found 10 0 c.args.bytes.now (sym c.in-None.ensures.value) c.requires)
