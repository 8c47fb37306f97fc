-- Nothing was written.
use Rattle.zc_group.proofs.ImportLaws.{nothing_claimed}
use Rattle.zc_group.proofs.import.claim.Goals as goal

pub returns-in-Err-clause-answers : goal.returns-in-Err-clause-answers
returns-in-Err-clause-answers g c = nothing_claimed (g.D.DiskSet.shape c.args.disks.now) (g.D.DiskSet.tape c.args.disks.now) c.args.found c.requires.found
