-- The file is short.
use Rattle.zc_heart.proofs.Ready.{spot_short}
use Rattle.zc_heart.proofs.commands.read.Goals as goal

pub bytes_from-requires : goal.bytes_from-requires
bytes_from-requires c = spot_short c.in-Ok.spot c.args.core.now c.file_on.result.now c.requires.core c.file_on.ensures
