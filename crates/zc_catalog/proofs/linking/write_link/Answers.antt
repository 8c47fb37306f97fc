-- Three texts, each written after the one before.
use Rattle.std.proofs.Common.{◌∙◌, List, ℕ, ap}
use Rattle.zc_num.specs.Blocks.{edited}
use Rattle.zc_catalog.proofs.ChainLaws.{link_written}
use Rattle.zc_catalog.proofs.linking.write_link.Goals as goal

pub returns : goal.returns
returns c =
    link_written c.args.next.now c.args.bytes.now c.bytes_of_u32.result c.bytes_of_u32-2.result c.split_part.result.0.now c.edit_block.new.block c.edit_block-2.new.block c.edit_block-3.new.block
    c.bytes_of_u32.ensures c.bytes_of_u32-2.ensures c.split_part.ensures.front
    (c.edit_block.ensures ∙ ap (λ (b : List ℕ). edited b 0 c.bytes_of_u32.result) c.requires) c.edit_block-2.ensures c.edit_block-3.ensures
