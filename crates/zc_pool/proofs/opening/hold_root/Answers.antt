-- What was taken up may be held.
use Rattle.std.proofs.Common.{sym, subst}
use Rattle.zc_heart.specs.Meaning.{MayOpen}
use Rattle.zc_pool.proofs.StartLaws.{may_open}
use Rattle.zc_pool.proofs.opening.hold_root.Goals as goal

pub open-requires : goal.open-requires
open-requires c = subst (MayOpen c.args.root.now.limits c.args.root.now.tree) (sym c.in_ok-blocks.ensures) (may_open c.args.root.now c.args.blocks c.requires)
