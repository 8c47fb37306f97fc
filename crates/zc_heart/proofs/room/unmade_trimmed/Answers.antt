-- The file is one of the heart's, and short.
use Rattle.zc_heart.proofs.Ready.{spot_heart}
use Rattle.zc_heart.proofs.room.unmade_trimmed.Goals as goal

pub trimmed_count-requires-clause-heart : goal.trimmed_count-requires-clause-heart
trimmed_count-requires-clause-heart c = spot_heart c.args.spot c.args.core.now c.file_on.result.now c.requires.core c.file_on.ensures
