use Rattle.std.proofs.Common.{◌≡◌, ◌++◌, map}
use Rattle.zc_tree.specs.Reach.{pointers_of_file}
use Rattle.zc_tree.proofs.walking.walk_file.Given as goal

-- what is found and what is left are all
abbrev pub invariant-loop-ptr : goal.invariant-loop-ptr
invariant-loop-ptr l = l.found.items ++ map (λ entry. entry.1) l.ptr-iterator ≡ l.fn.found.items ++ pointers_of_file l.file
