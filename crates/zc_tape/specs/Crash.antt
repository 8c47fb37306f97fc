-- What a disk set holds after its calls, and what a crash at any moment may leave of it.
use Rattle.std.specs.Prelude.{◌≡◌, ◌⊎◌, ◌≤◌, ◌||◌, ℕ, Bool, true, false, Option, Some, None, List, [], ◌∷◌, ◌++◌, length, take, fold, slice_get}
use Rattle.zc_tape.specs.Tape.{Image, Call, Write, Sync, Made, Tape, is_at, with_bytes}

-- what the calls so far leave
pub record Held : Type 0 where
  -- the bytes as the Ok writes left them
  pub now : Image
  -- the bytes at the last Ok sync
  pub synced : Image
  -- the writes since, failed ones too, the first first
  pub unsynced : List Call
  -- a write to the place has failed
  pub spoilt : ℕ → ℕ → Bool

-- before any call
abbrev pub held_first : Image → Held
held_first start = record { now = start; synced = start; unsynced = []; spoilt = λ d p. false }

-- after one more call, Ok or failed
abbrev pub held_after : Held → Call → Bool → Held
held_after h (Write device place bytes) true = record h { now = with_bytes h.now device place bytes; unsynced = h.unsynced ++ Write device place bytes ∷ [] }
held_after h (Write device place bytes) false = record h { unsynced = h.unsynced ++ Write device place bytes ∷ []; spoilt = λ d p. is_at device place d p || h.spoilt d p }
held_after h Sync true = record h { synced = h.now; unsynced = [] }
held_after h Sync false = h

-- after a list of calls
abbrev pub held : Image → List Made → Held
held start calls = fold (λ h m. held_after h m.call m.ok) (held_first start) calls

-- what a read gives at each place to which no write has failed
abbrev pub reads : Tape → Image
reads t = (held t.start t.calls).now

-- a write to the place has failed
abbrev pub is_spoilt : Tape → ℕ → ℕ → Bool
is_spoilt t = (held t.start t.calls).spoilt

-- some write of the list is to the place
abbrev pub writes_at : List Call → ℕ → ℕ → Bool
writes_at [] d p = false
writes_at (Write device place bytes ∷ calls) d p = is_at device place d p || writes_at calls d p
writes_at (Sync ∷ calls) d p = writes_at calls d p

-- some write of the list puts these bytes at the place
abbrev pub HasWrite : List Call → ℕ → ℕ → List ℕ → Type 0
HasWrite [] d p bytes = ⊥
HasWrite (Write device place put ∷ calls) d p bytes = ((is_at device place d p ≡ true) × (put ≡ bytes)) ⊎ HasWrite calls d p bytes
HasWrite (Sync ∷ calls) d p bytes = HasWrite calls d p bytes

-- the writes with one more call, where that is a write
abbrev pub with_call : List Call → Call → List Call
with_call writes (Write device place bytes) = writes ++ Write device place bytes ∷ []
with_call writes Sync = writes

-- the writes with the call that is under way, if there is one
abbrev pub with_under_way : List Call → Option Made → List Call
with_under_way writes None = writes
with_under_way writes (Some m) = with_call writes m.call

-- the bytes at the last Ok sync among the first i calls
abbrev pub synced_at : Tape → ℕ → Image
synced_at t i = (held t.start (take i t.calls)).synced

-- the writes since then, with call i + 1 where that is a write: moment i lasts to the return of that call
abbrev pub unsynced_at : Tape → ℕ → List Call
unsynced_at t i = with_under_way (held t.start (take i t.calls)).unsynced (slice_get t.calls i)

-- which images a crash may leave: of the synced bytes, the unsynced writes, and the image
abbrev pub Crash : Type 1
Crash = Image → List Call → Image → Type 0

-- any bytes at the places of unsynced writes, and the synced bytes everywhere else
abbrev pub May : Crash
May synced unsynced image = (d p : ℕ) → writes_at unsynced d p ≡ false → image d p ≡ synced d p

-- the same, but at a place of a log what stands there is the synced bytes, or those of a write, or doesn't fit
pub record MayFairly (is_log : ℕ → ℕ → Bool) (Fits : ℕ → ℕ → List ℕ → Type 0) (synced : Image) (unsynced : List Call) (image : Image) : Type 0 where
  pub may : May synced unsynced image
  pub fair : (d p : ℕ) → is_log d p ≡ true → (image d p ≡ synced d p) ⊎ (HasWrite unsynced d p (image d p) ⊎ (Fits d p (image d p) → ⊥))

-- what a crash in moment i may leave
abbrev pub Left : Tape → ℕ → Image → Type 0
Left t i image = May (synced_at t i) (unsynced_at t i) image

-- no write is unsynced, and none has failed
pub record AtRest (t : Tape) : Type 0 where
  pub synced : (held t.start t.calls).unsynced ≡ []
  pub whole : (d p : ℕ) → is_spoilt t d p ≡ false

-- each image that a crash may leave from the return of the first n calls on has P, which sees the moment's number
abbrev pub EachCrash : Crash → Tape → ℕ → (ℕ → Image → Type 0) → Type 0
EachCrash crash t n P = (i : ℕ) (image : Image) → n ≤ i → i ≤ length t.calls → crash (synced_at t i) (unsynced_at t i) image → P i image

-- the images differ at most at one place
abbrev pub SameOutside : ℕ → ℕ → Image → Image → Type 0
SameOutside device place old new = (d p : ℕ) → is_at device place d p ≡ false → new d p ≡ old d p
