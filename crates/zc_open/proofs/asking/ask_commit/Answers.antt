use Rattle.zc_open.proofs.CommitLaws.{commit_is}
use Rattle.zc_open.proofs.asking.ask_commit.Goals as goal

pub returns-in-Ok-clause-ok : goal.returns-in-Ok-clause-ok
returns-in-Ok-clause-ok c =
    commit_is c.args.pool.now c.push_commit.new.pool c.args.session c.len-entries.result c.group-group.result c.len-jobs.result c.seal.new.self c.in-Ok.sealed c.set.new.self c.len-entries.ensures c.group-group.ensures.value c.len-jobs.ensures c.in_ok-push_commit.ensures.ok c.in-Ok.ensures.ok c.set.ensures
