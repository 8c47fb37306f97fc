-- The disk sets that were given back to a shelf in memory.
use Rattle.std.specs.Prelude.{ℕ, ◌+◌, Bool, List, [], ◌∷◌, ◌++◌, Some, None}
use Rattle.zc_io.specs.declared.gives.Given.{Given, Given', Held-Given-before, None', Some'}
use Rattle.zc_io.specs.declared.gives.GivenBack.{GivenBack}
use Rattle.zc_io.specs.Stock.{Gave}
use Rattle.zc_tape.specs.declared.memory.MemoryDisks.{MemoryDisks}
use Rattle.zc_tape.specs.Memory.{shape_of, tape_of, faults_of}

-- a set that was given back, as a shelf tells it
abbrev pub gave_of : List ℕ → MemoryDisks → Bool → Gave
gave_of name disks ok = record { name = name; shape = shape_of disks; tape = tape_of disks; ok = ok }

-- one set and those before it, the first first
abbrev mutual
  pub gives_to : Given → List Gave
  gives_to (Given' before name disks ok) = gives_before before ++ gave_of name.value disks.value ok ∷ []

  pub gives_before : Held-Given-before → List Gave
  gives_before None' = []
  gives_before (Some' marker given) = gives_to given

-- how often a call of one set and of those before it has failed
abbrev mutual
  pub faults_to : Given → ℕ
  faults_to (Given' before name disks ok) = faults_before before + faults_of disks.value

  pub faults_before : Held-Given-before → ℕ
  faults_before None' = 0
  faults_before (Some' marker given) = faults_to given

-- the sets that were given back, the first first
abbrev pub gives_of : GivenBack → List Gave
gives_of gives = elim gives.last [ None ↦ [] | Some last ↦ gives_to last.value ]

-- how often a call of the sets that were given back has failed
abbrev pub faults_given : GivenBack → ℕ
faults_given gives = elim gives.last [ None ↦ 0 | Some last ↦ faults_to last.value ]
