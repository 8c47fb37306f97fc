-- The file is one of the heart's.
use Rattle.zc_heart.proofs.Ready.{spot_heart}
use Rattle.zc_heart.proofs.room.pointers_after.Goals as goal

pub holes_touched-more-requires-clause-heart : goal.holes_touched-more-requires-clause-heart
holes_touched-more-requires-clause-heart c = spot_heart c.args.spot c.args.core.now c.file_on.result.now c.requires.core c.file_on.ensures
