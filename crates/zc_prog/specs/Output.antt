-- What stands on a sink after a run.
use Rattle.std.specs.Prelude.{◌≡◌, ◌⊎◌, ℕ, ◌≤◌, List, length, take}
use Rattle.zc_tape.specs.Cause.{Rose}
use Rattle.zc_io.specs.Stream.{Stream, Takes}

-- a front of the text was taken
abbrev pub TakesFront : Stream → Stream → List ℕ → Type 0
TakesFront old new text = (n : ℕ) × (n ≤ length text) × Takes old new (take n text)

-- A run that came to a status and a text answers that status with all of the text on the sink; or 5, where the
-- sink's count of faults rose, or 1, for want of memory, with a front of the text.
abbrev pub IsReported : Stream → Stream → ℕ → ℕ → List ℕ → ℕ → ℕ → Type 0
IsReported old new before now text planned code =
    ((code ≡ planned) × Takes old new text) ⊎ ((((code ≡ 5) × Rose before now) ⊎ (code ≡ 1)) × TakesFront old new text)
