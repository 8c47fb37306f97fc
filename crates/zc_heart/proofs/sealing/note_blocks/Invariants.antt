use Rattle.std.proofs.Common.{◌≡◌, ◌++◌}
use Rattle.zc_heart.specs.Noted.{puts_of, stamps_put}
use Rattle.zc_heart.proofs.sealing.note_blocks.Given as goal

-- what is added and what is left are all
abbrev pub invariant-loop-block : goal.invariant-loop-block
invariant-loop-block l =
    (l.changes ++ puts_of l.dataset l.file l.held l.block-iterator ≡ l.fn.changes ++ puts_of l.dataset l.file l.held l.held.marks)
    × (l.stamps ++ stamps_put l.held l.block-iterator ≡ l.fn.stamps ++ stamps_put l.held l.held.marks)
