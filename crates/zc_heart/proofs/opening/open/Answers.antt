use Rattle.zc_plain.specs.Charge.{stamps_of}
use Rattle.zc_heart.specs.Meaning.{found_pool}
use Rattle.zc_heart.proofs.OpeningLaws.{may_read, core_opened, is_opened}
use Rattle.zc_heart.proofs.opening.open.Goals as goal

pub hold-requires-clause-datasets : goal.hold-requires-clause-datasets
hold-requires-clause-datasets c = may_read c.args.limits c.args.tree.now c.args.blocks.items c.requires c.in_ok-found.ensures.whole c.in_ok-found.found.entries c.in_ok-found.ensures.read

pub returns-clause-core : goal.returns-clause-core
returns-clause-core c =
    core_opened c.args.limits c.args.tree.now c.args.blocks.items c.in_ok-found.found.entries c.hold.result c.requires c.in_ok-found.ensures.whole c.in_ok-found.ensures.read c.hold.ensures.held c.hold.ensures.files
    (c.hold.ensures.distinct (stamps_of (found_pool c.args.limits c.args.tree.now c.args.blocks.items)))

pub returns-clause-opened : goal.returns-clause-opened
returns-clause-opened c =
    is_opened c.args.limits c.args.tree.now c.args.blocks.items c.in_ok-found.found.entries c.hold.result c.requires c.in_ok-found.ensures.whole c.in_ok-found.ensures.read c.hold.ensures.held c.hold.ensures.files
    (c.hold.ensures.distinct (stamps_of (found_pool c.args.limits c.args.tree.now c.args.blocks.items))) c.hold.ensures.places c.hold.ensures.known
