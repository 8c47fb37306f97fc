-- The item that is there is found.
use Rattle.std.proofs.Common.{below_more, arith}
use Rattle.zc_tree.proofs.SlotLaws.{passed_by, stands_within}
use Rattle.zc_tree.proofs.slots.file_place.Goals as goal

pub loop-index-preserved : goal.loop-index-preserved
loop-index-preserved c =
    below_more _ _ c.loop-index.invariant
    (passed_by (λ file. file.id) c.args.files.now c.loop-index.index c.args.id c.index-files-index.result c.loop-index-test.true c.if-files-index.false)

pub unreachable-requires : goal.unreachable-requires
unreachable-requires c =
    let within = stands_within (λ file. file.id) c.args.files.now c.requires.0 c.args.id c.requires.1 in
    c.loop-index.invariant c.requires.0 (omega arith) c.requires.1
