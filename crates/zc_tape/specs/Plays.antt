-- How a list of device calls is made, and what stands on the tape then.
use Rattle.std.specs.Prelude.{◌≡◌, ◌⊎◌, ◌≤◌, ℕ, Bool, true, false, List, [], ◌∷◌, length, take, IsTrue}
use Rattle.zc_tape.specs.Tape.{Call, Tape, push}

-- the calls were made in order up to the first that failed; ok says that none did
abbrev pub Plays : Tape → List Call → Tape → Bool → Type 0
Plays t [] u ok = (u ≡ t) × (ok ≡ true)
Plays t (call ∷ plan) u ok = ((u ≡ push t call false) × (ok ≡ false)) ⊎ Plays (push t call true) plan u ok

-- a front of the calls was made in order, of which only the last may have failed
abbrev pub Begun : Tape → List Call → Tape → Type 0
Begun t [] u = u ≡ t
Begun t (call ∷ plan) u = (u ≡ t) ⊎ ((u ≡ push t call false) ⊎ Begun (push t call true) plan u)

-- so many of the calls, the first ones, were made in order, and each was Ok
abbrev pub IsMidway : Tape → List Call → ℕ → Tape → Type 0
IsMidway base plan made t = (made ≤ length plan) × Plays base (take made plan) t true

-- the calls were made in order up to the first that failed, where the tape is told
abbrev pub Played : Tape → List Call → Tape → Bool → Type 0
Played t plan u ok = IsTrue t.told → Plays t plan u ok
