-- Alike bytes are the part of as many of them.
use Rattle.std.proofs.Common.{◌≡◌, ◌-◌, ◌*◌, min, sym, ap, ◌∙◌, arith}
use Rattle.zc_num.specs.Blocks.{edited}
use Rattle.zc_plain.specs.Written.{start_in, part_in}
use Rattle.zc_heart.specs.declared.writing.Input.{Input}
use Rattle.zc_heart.specs.Input.{input_bytes}
use Rattle.zc_heart.proofs.PartLaws.{edited_alike}
use Rattle.zc_heart.proofs.writing.edit_part.Goals as goal

pub returns-in-Repeated : goal.returns-in-Repeated
returns-in-Repeated c =
    let begins : c.saturating_sub-start.result ≡ start_in c.args.index c.args.offset = omega (arith, c.saturating_sub-start.ensures, c.from-first.ensures) in
    let counted : c.min-count.result ≡ min (c.in-Repeated.length - (c.args.index * 4096 - c.args.offset)) (4096 - c.saturating_sub-start.result) =
    omega (arith, c.min-count.ensures, c.saturating_sub-in-Repeated.ensures, c.from-first.ensures) in
    c.fill_block.ensures ∙ edited_alike c.args.block.now c.args.index c.args.offset c.in-Repeated.length c.in-Repeated.byte c.saturating_sub-start.result c.min-count.result begins counted
    ∙ ap (λ (input : Input). edited c.args.block.now (start_in c.args.index c.args.offset) (part_in c.args.index c.args.offset (input_bytes input))) (sym c.in-Repeated.is)
