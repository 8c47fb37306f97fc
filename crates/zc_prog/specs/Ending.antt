-- What a run came to after its last commit, before it is told of its disk set alone.
use Rattle.std.specs.Prelude.{◌≡◌, ℕ, List, Result, IfOk, IfErr}
use Rattle.zc_tape.specs.Tape.{Shape, Tape}
use Rattle.zc_script.specs.declared.act.Line.{Line}
use Rattle.zc_pool.specs.declared.pool.Pool.{Pool}
use Rattle.zc_pool.specs.Running.{IsPool}
use Rattle.zc_prog.specs.declared.fault.SessionFault.{SessionFault}
use Rattle.zc_prog.specs.declared.fault.SessionFault.TheVariants.{NoMemory}
use Rattle.zc_prog.specs.declared.session.Played.{Played}
use Rattle.zc_prog.specs.Played.{askings_in, run_of}
use Rattle.zc_prog.specs.Session.{IsFront}
use Rattle.zc_prog.specs.Midway.{Goes, HasEnded}

-- The lines were asked of the pool, which went on to another one, whose disk set was given back.
pub record RunsTo {D : Type 0} (shape : D → Shape) (tape : D → Tape) (faults : D → ℕ) (pool : Pool D) (name : List ℕ) (lines : List Line) (disks : D) (result : Result Played SessionFault) : Type 0 where
  pub new : Pool D
  pub given : new.disks ≡ disks
  pub goes : Goes shape tape faults pool new
  pub is_pool : IsPool (shape new.disks) new.root new.kept
  pub asked : IsFront (askings_in new.kept.history) (run_of lines)
  pub ended : IfOk result (λ played. HasEnded name lines new.root.tree.group pool.kept.calls new.kept played.text.items played.good)
  pub memory : IfErr result (λ fault. fault ≡ NoMemory)
