use Rattle.std.proofs.Common.{◌≡◌, ◌++◌, length, drop}
use Rattle.zc_wire.specs.Numbers.{u32_bytes}
use Rattle.zc_tree.specs.Spelling.{files_bytes}
use Rattle.zc_tree.proofs.writing.put_files.Given as goal

-- what is written and what is left are all
abbrev pub invariant-loop-file : goal.invariant-loop-file
invariant-loop-file l = l.out.items ++ files_bytes (drop l.file-index l.files) ≡ l.fn.out.items ++ (u32_bytes (length l.files) ++ files_bytes l.files)
