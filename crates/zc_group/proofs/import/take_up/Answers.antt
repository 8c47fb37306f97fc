-- What a reader told is what an import tells.
use Rattle.std.proofs.Common.{Err, ap}
use Rattle.zc_image.specs.declared.fault.ImageFault.{ImageFault}
use Rattle.zc_group.proofs.ImportLaws.{not_found}
use Rattle.zc_group.proofs.import.take_up.Goals as goal

pub returns-in-Err-clause-answers : goal.returns-in-Err-clause-answers
returns-in-Err-clause-answers g c =
    not_found (g.D.DiskSet.shape c.args.disks.now) (g.D.DiskSet.tape c.args.disks.now) (g.D.DiskSet.tape c.read_pool.new.disks) c.in-Err.fault c.fault_of.result c.in-Err.ensures.tape c.fault_of.ensures
    c.in-Err.ensures.exact (λ whole s stands fresh. c.in-Err.ensures.only whole s stands fresh) (λ is whole limits. c.in-Err.ensures.none (ap (λ (fault : ImageFault). Err fault) is) whole limits) c.in-Err.ensures.sized
