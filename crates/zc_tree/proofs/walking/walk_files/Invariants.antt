use Rattle.std.proofs.Common.{◌≡◌, ◌++◌, drop}
use Rattle.zc_tree.specs.Reach.{pointers_of_files}
use Rattle.zc_tree.proofs.walking.walk_files.Given as goal

-- what is found and what is left are all
abbrev pub invariant-loop-file : goal.invariant-loop-file
invariant-loop-file l = l.found.items ++ pointers_of_files (drop l.file-index l.files) ≡ l.fn.found.items ++ pointers_of_files l.files
