use Rattle.std.proofs.Common.{◌≡◌, false, replicate}
use Rattle.zc_image.proofs.trail.no_flags.Given as goal

-- the flags so far aren't set
abbrev pub invariant-loop : goal.invariant-loop
invariant-loop l = l.flags.items ≡ replicate l.counter false
