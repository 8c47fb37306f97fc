-- No name is handed out, so this one isn't.
use Rattle.std.proofs.Common.{ℕ, List, Bool, ap}
use Rattle.zc_rows.proofs.sets.lay.Goals as goal

pub put-requires-clause-kept_in : goal.put-requires-clause-kept_in
put-requires-clause-kept_in c = ap (λ (out : List ℕ → Bool). out c.args.name.now) c.requires.all_in
