-- An entry without a block changes no block.
use Rattle.std.proofs.Common.{◌≡◌, ℕ, List, Option, None, refl, sym, subst, ◌∙◌}
use Rattle.std.specs.Prelude.{IsSome}
use Rattle.zc_num.specs.Ordered.{value_at}
use Rattle.zc_heart.specs.declared.file.HeldBlock.{HeldBlock}
use Rattle.zc_heart.specs.Steps.{KeepsAll}
use Rattle.zc_heart.proofs.StepLaws.{none_there, kept_with_room, there_once_put}
use Rattle.zc_heart.proofs.file.HeartFile.make_block_room.Goals as goal

pub returns-clause-kept : goal.returns-clause-kept
returns-clause-kept c =
    let file = c.args.self.now in
    let missing : value_at c.args.index file.blocks ≡ None = none_there (value_at c.args.index file.blocks) (sym c.contains.ensures ∙ c.if-contains.false) in
    subst (λ (blocks : List (ℕ × Option HeldBlock)). KeepsAll file (record file { blocks = blocks })) (sym c.in_ok-insert.ensures.entries) (kept_with_room file c.args.index None refl missing)

pub returns-clause-room : goal.returns-clause-room
returns-clause-room c =
    subst (λ (blocks : List (ℕ × Option HeldBlock)). IsSome (value_at c.args.index blocks)) (sym c.in_ok-insert.ensures.entries) (there_once_put c.args.index None c.args.self.now.blocks)
