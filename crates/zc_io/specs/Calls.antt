-- The calls of an object in memory, numbered from 1, some of which are listed to fail.
use Rattle.std.specs.Prelude.{◌≡◌, ◌+◌, ◌-◌, ◌^◌, ◌==◌, ℕ, Bool, List, min, if◌then◌else◌}
use Rattle.std.specs.List.{list_any}
use Rattle.zc_io.specs.declared.calls.Calls.{Calls}

-- the number of the next call is listed
abbrev pub fails_next : Calls → Bool
fails_next c = list_any (λ listed. listed == c.asked + 1) c.failing.items

-- the counts once a call was made: both end at 2^64 - 1, and no number after it can be listed
abbrev pub after_call : Calls → Calls
after_call c = record c {
  asked = min (c.asked + 1) (2 ^ 64 - 1);
  faults = if fails_next c then min (c.faults + 1) (2 ^ 64 - 1) else c.faults;
}

-- no call was made, and these are to fail
pub record IsFirst (c : Calls) (failing : List ℕ) : Type 0 where
  pub asked_none : c.asked ≡ 0
  pub faults_none : c.faults ≡ 0
  pub listed : c.failing.items ≡ failing
