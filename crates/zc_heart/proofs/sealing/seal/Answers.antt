use Rattle.zc_plain.specs.Charge.{stamps_of}
use Rattle.zc_heart.specs.Core.{pool_of}
use Rattle.zc_heart.proofs.SealingLaws.{core_kept, is_sealed}
use Rattle.zc_heart.proofs.sealing.seal.Goals as goal

pub returns-clause-core : goal.returns-clause-core
returns-clause-core c = core_kept c.hand_out.result c.args.core.now c.hand_out.new.core c.requires.core c.hand_out.ensures.next c.hand_out.ensures.err

pub returns-clause-ok : goal.returns-clause-ok
returns-clause-ok c =
    is_sealed c.hand_out.result c.args.core.now c.hand_out.new.core c.requires.core c.hand_out.ensures.handed c.hand_out.ensures.next c.hand_out.ensures.marked
    (c.hand_out.ensures.held (stamps_of (pool_of c.args.core.now)) c.requires.core.counted)
