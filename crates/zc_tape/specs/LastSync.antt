-- How the synced bytes and the unsynced writes of a moment are found in a list of calls.
use Rattle.std.specs.Prelude.{◌≡◌, ◌≤◌, ℕ, Bool, false, List, [], fold, take, drop}
use Rattle.zc_tape.specs.Tape.{Image, Call, Write, Sync, Made}
use Rattle.zc_tape.specs.Crash.{held, with_call}

-- the writes among the calls, Ok or failed
abbrev pub writes_of : List Made → List Call
writes_of calls = fold (λ writes m. with_call writes m.call) [] calls

-- a call is an Ok sync
abbrev pub is_synced : Made → Bool
is_synced m = elim m.call [ Write device place bytes ↦ false | Sync ↦ m.ok ]

-- of the first so many calls, those up to the last Ok sync are the first `last`
pub record IsLastSync (calls : List Made) (count last : ℕ) : Type 0 where
  pub within : last ≤ count
  pub synced : (start : Image) → (held start (take count calls)).synced ≡ (held start (take last calls)).now
  pub unsynced : (start : Image) → (held start (take count calls)).unsynced ≡ writes_of (drop last (take count calls))
