-- How many calls of a plan were made, and which of them failed.
use Rattle.std.specs.Prelude.{◌≡◌, ℕ, true, false, List, [], ◌∷◌, ◌++◌}
use Rattle.std.specs.List.{AllByRecursion}
use Rattle.zc_tape.specs.Tape.{Made}
use Rattle.zc_plan.specs.declared.write.WriteFault.{WriteFault}
use Rattle.zc_plan.specs.declared.write.WriteFault.TheVariants.{NoMemory, Failed}

-- each of the calls was Ok
abbrev pub AllMade : List Made → Type 0
AllMade calls = AllByRecursion (λ (call : Made). call.ok ≡ true) calls

-- each of the calls was Ok but the last, which failed: so the first that failed is the last
pub record AllButLast (calls : List Made) : Type 0 where
  pub front : List Made
  pub last : Made
  pub calls_are : calls ≡ front ++ last ∷ []
  pub all_made : AllMade front
  pub failed : last.ok ≡ false

-- the fault is a call that failed
abbrev pub IsFailed : WriteFault → Type 0
IsFailed NoMemory = ⊥
IsFailed (Failed made) = Unit {0}

-- how many calls were made before the fault was told, the failed one too
abbrev pub made_before : WriteFault → ℕ
made_before NoMemory = 0
made_before (Failed made) = made
