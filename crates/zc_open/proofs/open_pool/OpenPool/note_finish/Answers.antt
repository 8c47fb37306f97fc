use Rattle.zc_open.proofs.JobPlace.{noted}
use Rattle.zc_open.proofs.open_pool.OpenPool.note_finish.Goals as goal

pub returns-clause-ok : goal.returns-clause-ok
returns-clause-ok c = noted c.args.self.now c.at-job.result.now c.push.new.self c.push.result c.at-job.ensures c.push.ensures.ok
