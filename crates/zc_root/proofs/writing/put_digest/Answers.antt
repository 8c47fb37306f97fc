use Rattle.std.proofs.Common.{ap, ◌∙◌, ◌++◌, take, arith, List, ℕ}
use Rattle.zc_root.proofs.Written.{over_the_last}
use Rattle.zc_root.proofs.writing.put_digest.Goals as goal

pub returns : goal.returns
returns c =
    over_the_last 64 32 c.args.out.now c.copy_from_slice.new.self (omega (arith, c.told-out))
    ∙ ap (λ (t : List ℕ). take 64 c.args.out.now ++ t) c.copy_from_slice.ensures.after
