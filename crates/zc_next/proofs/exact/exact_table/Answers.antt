-- Each place has a count.
use Rattle.std.proofs.Common.{◌<◌, ℕ, List, length, sym, subst}
use Rattle.zc_next.proofs.CountingLaws.{count_there}
use Rattle.zc_next.proofs.exact.exact_table.Goals as goal

pub count_place-requires-clause-there : goal.count_place-requires-clause-there
count_place-requires-clause-there c =
    subst (λ (counts : List ℕ). c.loop-place.place < length counts) (sym c.loop-place.invariant)
    (count_there c.places-places.result c.args.device c.args.census.now.reach c.loop-place.place c.loop-place.place c.loop-place-test.true)
