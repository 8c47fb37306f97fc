use Rattle.std.proofs.Common.{◌≡◌, drop}
use Rattle.zc_damage.specs.Places.{bytes_in}
use Rattle.zc_damage.specs.Checks.{tail_hit_among}
use Rattle.zc_damage.proofs.tails.tail_hit_among.Given as goal

-- the files so far are passed by
abbrev pub invariant-loop-file : goal.invariant-loop-file
invariant-loop-file l = tail_hit_among (bytes_in l.blocks) (drop l.file-index l.files) ≡ tail_hit_among (bytes_in l.blocks) l.files
