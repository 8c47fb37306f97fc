use Rattle.std.proofs.Common.{ℕ, ◌≤◌, Option, Some, subst}
use Rattle.std.specs.Prelude.{count_by}
use Rattle.zc_plain.specs.Charge.{is_stamp, stamp_of}
use Rattle.zc_heart.specs.declared.file.HeldBlock.{HeldBlock}
use Rattle.zc_heart.specs.Core.{plain_block}
use Rattle.zc_heart.specs.Stamps.{files_at}
use Rattle.zc_heart.proofs.MakingLaws.{counted_alone}
use Rattle.zc_heart.proofs.making.leave_block.Goals as goal

pub leave-requires : goal.leave-requires
leave-requires c =
    let stamp : ℕ × ℕ = (c.in-Some.block.entry, c.in-Some.block.index) in
    counted_alone stamp (files_at c.args.stamps.now stamp)
    (subst (λ (held : Option HeldBlock). count_by (is_stamp stamp) (stamp_of (plain_block (Some held))) ≤ files_at c.args.stamps.now stamp) c.in-Some.is (c.requires stamp))
