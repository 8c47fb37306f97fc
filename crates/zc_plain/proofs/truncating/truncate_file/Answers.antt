-- The file with the blocks that it has left, and with the one that was made anew in its place, is the truncated one.
use Rattle.std.proofs.Common.{◌≡◌, ◌/◌, ap, ◌∙◌, arith}
use Rattle.zc_plain.specs.declared.plain_pool.PlainBlock.{PlainBlock}
use Rattle.zc_plain.specs.declared.plain_pool.PlainFile.{PlainFile}
use Rattle.std.specs.Prelude.{List, slice_set}
use Rattle.zc_plain.specs.PlainPool.{blocks_of_size}
use Rattle.zc_plain.proofs.CutTogether.{trimmed_fits, truncated_with, truncated_without}
use Rattle.zc_plain.proofs.truncating.truncate_file.Goals.{in-Some, in-None}
use Rattle.zc_plain.proofs.truncating.truncate_file.Goals as goal

pub set-requires : goal.set-requires
set-requires c =
    let many : c.div_ceil.result ≡ blocks_of_size c.args.size = omega (arith, c.div_ceil.ensures) in
    trimmed_fits c.args.number c.args.size c.div_ceil.result c.args.file.now c.resize_blocks.new.blocks c.in_ok-trimmed.trimmed c.in-Some.block many c.in_ok-resize_blocks.ensures.ok c.in_ok-trimmed.ensures c.in-Some.is

pub returns-clause-ok : goal.returns-clause-ok
returns-clause-ok c =
    let size = c.args.size in
    let file = c.args.file.now in
    let sized : PlainFile → PlainFile = λ (f : PlainFile). record f { size = size } in
    let with_blocks : List PlainBlock → PlainFile = λ (blocks : List PlainBlock). record file { size = size; blocks = blocks } in
    let many : c.div_ceil.result ≡ blocks_of_size size = omega (arith, c.div_ceil.ensures) in
    elim (c.match-trimmed-3.branch) [
      | in-None w ↦ ap sized w.file-is ∙ ap with_blocks c.in_ok-resize_blocks.ensures.ok ∙ truncated_without c.args.number size c.div_ceil.result file c.in_ok-trimmed.trimmed many c.in_ok-trimmed.ensures w.in-None.is
      | in-Some w ↦
          ap sized w.file-is ∙ ap with_blocks (w.set.ensures ∙ ap (λ (blocks : List PlainBlock). slice_set blocks (size / 4096) w.in-Some.block) c.in_ok-resize_blocks.ensures.ok)
          ∙ truncated_with c.args.number size c.div_ceil.result file c.in_ok-trimmed.trimmed w.in-Some.block many c.in_ok-trimmed.ensures w.in-Some.is
    ]
