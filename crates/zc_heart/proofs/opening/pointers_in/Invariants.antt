use Rattle.std.proofs.Common.{◌≡◌, ◌+◌, length, drop}
use Rattle.zc_tree.specs.Reach.{pointers_of_files}
use Rattle.zc_heart.proofs.opening.pointers_in.Given as goal

-- what is counted and what is left are all
abbrev pub invariant-loop-file : goal.invariant-loop-file
invariant-loop-file l = l.pointers + length (pointers_of_files (drop l.file-index l.files)) ≡ length (pointers_of_files l.files)
