use Rattle.std.proofs.Common.{◌≡◌, ◌++◌}
use Rattle.zc_heart.specs.Noted.{noted_in_files, stamps_in_files, AreMarked}
use Rattle.zc_heart.proofs.sealing.note_files.Given as goal

-- what is added and what is left are all
abbrev pub invariant-loop-number : goal.invariant-loop-number
invariant-loop-number l =
    (l.changes ++ noted_in_files l.dataset l.files l.number-iterator ≡ l.fn.changes ++ noted_in_files l.dataset l.files l.changed)
    × (l.stamps ++ stamps_in_files l.files l.number-iterator ≡ l.fn.stamps ++ stamps_in_files l.files l.changed)
    × (AreMarked l.files l.number-iterator → AreMarked l.files l.changed)
