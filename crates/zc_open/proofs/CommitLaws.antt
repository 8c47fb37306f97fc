-- What a commit adds to a pool, by what is pushed before the seal and what is set after it.
use Rattle.std.proofs.Common.{◌≡◌, ℕ, ◌+◌, false, List, [], ◌∷◌, ◌++◌, length, ap, subst, ◌∙◌}
use Rattle.std.specs.Prelude.{slice_set}
use Rattle.zc_command.specs.declared.command.Command.TheVariants.{Commit}
use Rattle.zc_plain.specs.declared.entry.Entry.TheVariants.{Ask, Seal}
use Rattle.zc_heart.specs.declared.changes.Sealed.{Sealed}
use Rattle.zc_heart.specs.declared.pool_core.Core.{Core}
use Rattle.zc_heart.specs.Meaning.{IsSealed}
use Rattle.zc_open.specs.declared.open_pool.OpenPool.{OpenPool}
use Rattle.zc_open.specs.Events.{AsksCommit}
use Rattle.zc_open.proofs.EntryLaws.{one_set}

-- a place for a job
abbrev unsealed : ℕ → Sealed
unsealed group = record { group = group; held = 0; changes = [] }

-- the pool once all is pushed, with room for the job
abbrev pushed_for : OpenPool → (session entries group : ℕ) → OpenPool
pushed_for old session entries group = record old {
  history = old.history ++ Ask session Commit ∷ Seal group ∷ [];
  jobs = old.jobs ++ unsealed group ∷ [];
  waits = old.waits ++ record { session = session; ask = entries + 1; group = group } ∷ [];
}

-- the pool once the group is sealed
abbrev sealed_with : OpenPool → Core → List Sealed → OpenPool
sealed_with pushed heart jobs = record pushed { heart = heart; jobs = jobs; changed = false }

pub commit_is : (old pushed : OpenPool) (session entries group place : ℕ) (heart : Core) (sealed : Sealed) (jobs : List Sealed) → entries ≡ length old.history → group ≡ old.heart.group → place ≡ length old.jobs
    → pushed ≡ pushed_for old session entries group → IsSealed pushed.heart heart sealed → jobs ≡ slice_set pushed.jobs place sealed → AsksCommit old (sealed_with pushed heart jobs) session
commit_is old pushed session entries group place heart sealed jobs entries_are group_is place_is pushed_is is_sealed jobs_are =
    let jobs_is : jobs ≡ old.jobs ++ sealed ∷ [] =
    jobs_are ∙ ap (λ (p : OpenPool). slice_set p.jobs place sealed) pushed_is ∙ ap (λ (n : ℕ). slice_set (old.jobs ++ unsealed group ∷ []) n sealed) place_is ∙ one_set old.jobs (unsealed group) sealed in
    record {
      sealed = sealed;
      is_sealed = subst (λ (core : Core). IsSealed core heart sealed) (ap (λ (p : OpenPool). p.heart) pushed_is) is_sealed;
      rest =
          ap (λ (p : OpenPool). sealed_with p heart jobs) pushed_is
          ∙ ap (λ (js : List Sealed). sealed_with (pushed_for old session entries group) heart js) jobs_is
          ∙ ap (λ (n : ℕ). sealed_with (pushed_for old session n group) heart (old.jobs ++ sealed ∷ [])) entries_are
          ∙ ap (λ (n : ℕ). sealed_with (pushed_for old session (length old.history) n) heart (old.jobs ++ sealed ∷ [])) group_is;
    }
