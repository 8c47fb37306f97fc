-- The first job, and what is noted of it.
use Rattle.std.proofs.Common.{◌≡◌, List, [], ◌∷◌, ◌++◌, Some, drop, Result, ap}
use Rattle.std.specs.Prelude.{slice_get, OnOk}
use Rattle.std.specs.declared.alloc.AllocError.{AllocError}
use Rattle.std.proofs.lemmas.Result.{on_ok_weaker}
use Rattle.zc_plain.specs.declared.entry.Entry.{Entry}
use Rattle.zc_plain.specs.declared.entry.Entry.TheVariants.{Finish}
use Rattle.zc_heart.specs.declared.changes.Sealed.{Sealed}
use Rattle.zc_open.specs.declared.open_pool.OpenPool.{OpenPool}
use Rattle.zc_open.specs.Events.{Notes}

-- the item at the first place, and those after it
first_and_rest : (jobs : List Sealed) (job : Sealed) → slice_get jobs 0 ≡ Some job → jobs ≡ job ∷ drop 1 jobs
first_and_rest [] job first = cc
first_and_rest (one ∷ others) job first = cc

-- its finish is pushed
pub noted : (old : OpenPool) (job : Sealed) (history : List Entry) (result : Result (Unit {0}) AllocError) → slice_get old.jobs 0 ≡ Some job → OnOk result (history ≡ old.history ++ Finish job.group job.held ∷ [])
    → OnOk result (Notes old (record old { history = history }))
noted old job history result first = on_ok_weaker result (λ (pushed : history ≡ old.history ++ Finish job.group job.held ∷ []). (
  job,
  drop 1 old.jobs,
  record { jobs_are = first_and_rest old.jobs job first },
  ap (λ (entries : List Entry). record old { history = entries }) pushed,
))
