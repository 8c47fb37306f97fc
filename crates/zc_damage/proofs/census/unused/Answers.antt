-- No place is there yet.
use Rattle.std.proofs.Common.{[], ◌∙◌, sym}
use Rattle.zc_num.proofs.Each.{each_none}
use Rattle.zc_damage.specs.Census.{use_of}
use Rattle.zc_damage.proofs.census.unused.Goals as goal

pub loop-init : goal.loop-init
loop-init c = c.in_ok-uses.ensures.items ∙ sym (each_none (use_of c.args.limits.now.places [] []))
