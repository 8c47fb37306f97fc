use Rattle.std.proofs.Common.{◌≡◌, ◌++◌, length}
use Rattle.zc_wire.specs.Numbers.{u32_bytes}
use Rattle.zc_tree.specs.Spelling.{entries_bytes}
use Rattle.zc_tree.proofs.writing.put_entries.Given as goal

-- what is written and what is left are all
abbrev pub invariant-loop-block : goal.invariant-loop-block
invariant-loop-block l = l.out.items ++ entries_bytes l.block-iterator ≡ l.fn.out.items ++ (u32_bytes (length l.slots) ++ entries_bytes l.slots)
