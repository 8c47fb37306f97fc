use Rattle.std.proofs.Common.{◌≡◌, map, sum, take}
use Rattle.zc_next.specs.Exact.{file_size}
use Rattle.zc_group.proofs.measuring.files_size.Given as goal

-- the bytes of the files so far
abbrev pub invariant-loop-file : goal.invariant-loop-file
invariant-loop-file l = l.total ≡ sum (map file_size (take l.file-index l.files))
