use Rattle.zc_heart.specs.Deeds.{entry_stamps}
use Rattle.zc_heart.specs.Stamps.{Moves, LearnsNothing}
use Rattle.zc_heart.proofs.making.leave_file.Given as goal

-- the blocks that are left are still counted
abbrev pub invariant-loop-held : goal.invariant-loop-held
invariant-loop-held l = record {
  moves : Moves l.fn.stamps l.stamps (entry_stamps l.file.blocks) (entry_stamps l.held-iterator);
  learns : LearnsNothing l.fn.stamps l.stamps;
}
