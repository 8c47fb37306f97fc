-- What the pool went on to is what its disk set is told of.
use Rattle.std.proofs.Common.{refl, sym}
use Rattle.zc_prog.proofs.session.play_pool.Goals as goal

pub returns-in-Ok : goal.returns-in-Ok
returns-in-Ok g c = record {
  new = c.play_run.new.pool;
  given = sym c.into_disks.ensures;
  goes = c.play_run.ensures.goes;
  is_pool = c.play_run.ensures.pool;
  asked = c.play_run.ensures.asked;
  ended = c.in-Ok.ensures.ended;
  memory = tt;
}

pub returns-in-Err : goal.returns-in-Err
returns-in-Err g c = record {
  new = c.play_run.new.pool;
  given = sym c.into_disks-in-Err.ensures;
  goes = c.play_run.ensures.goes;
  is_pool = c.play_run.ensures.pool;
  asked = c.play_run.ensures.asked;
  ended = tt;
  memory = refl;
}
