use Rattle.zc_group.proofs.SpellLaws.{block_put}
use Rattle.zc_group.proofs.catalogue.put_one.Goals as goal

pub returns : goal.returns
returns c = block_put c.args.chain.now c.args.index c.args.blocks.now c.push.new.self _ c.args.bytes c.push.result c.requires c.push.ensures.ok
