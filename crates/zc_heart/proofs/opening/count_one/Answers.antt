use Rattle.std.proofs.Common.{◌∙◌, ap}
use Rattle.zc_heart.proofs.FoundBlocks.{known_inserted, where_inserted}
use Rattle.zc_heart.proofs.opening.count_one.Goals as goal

pub returns-clause-places : goal.returns-clause-places
returns-clause-places c = λ placing known is.
    where_inserted placing c.insert.result c.args.stamps.now c.insert.new.self c.place_number.result c.args.ptr.now known c.insert.ensures.placed (ap (placing 0) c.place_number.ensures ∙ is)

pub returns-clause-known : goal.returns-clause-known
returns-clause-known c = known_inserted c.insert.result c.args.stamps.now c.insert.new.self c.place_number.result c.args.ptr.now c.insert.ensures.placed c.insert.ensures.moves
