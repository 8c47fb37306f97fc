use Rattle.std.proofs.Common.{◌≡◌, ◌++◌, drop, map}
use Rattle.std.specs.List.{AllByRecursion}
use Rattle.zc_heart.specs.Opening.{read_named, HasBlocks, MayFollow}
use Rattle.zc_heart.proofs.opening.hold_files.Given as goal

-- what is held and what is left are all
abbrev pub invariant-loop-file : goal.invariant-loop-file
invariant-loop-file l =
    (l.held ++ map (read_named l.found.entries) (drop l.file-index l.files) ≡ map (read_named l.found.entries) l.files)
    × AllByRecursion (HasBlocks l.found.entries) (drop l.file-index l.files) × MayFollow l.found.entries l.held (drop l.file-index l.files)
