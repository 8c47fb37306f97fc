use Rattle.std.proofs.Common.{◌≡◌, ◌+◌, length}
use Rattle.std.specs.List.{AllByRecursion}
use Rattle.zc_heart.specs.declared.file.HeartFile.{HeartFile}
use Rattle.zc_heart.specs.declared.directory.Named.{Named}
use Rattle.zc_heart.specs.Core.{IsHeartFile}
use Rattle.zc_heart.specs.Deeds.{stamps_in_files}
use Rattle.zc_heart.specs.Stamps.{Moves, LearnsNothing}
use Rattle.zc_heart.proofs.making.drop_files.Given as goal

-- the blocks of the files that are left are still counted
abbrev pub invariant-loop : goal.invariant-loop
invariant-loop l = record {
  moves : Moves l.fn.stamps l.stamps (stamps_in_files l.fn.files) (stamps_in_files l.files);
  learns : LearnsNothing l.fn.stamps l.stamps;
  hearts : AllByRecursion (λ (named : Named HeartFile). IsHeartFile named.value) l.files;
  left : length l.files + l.counter ≡ length l.fn.files;
}
