-- What holds of every image that `May` allows holds for any kind of crash, since each allows fewer.
use Rattle.std.proofs.Common.{ℕ}
use Rattle.zc_tape.specs.Tape.{Image, Tape}
use Rattle.zc_tape.specs.Crash.{Crash, May, EachCrash, synced_at, unsynced_at}
use Rattle.zc_tape.proofs.CrashKinds.{IsKind}
use Rattle.zc_layout.specs.Standing.{Standing}
use Rattle.zc_layout.specs.Outcomes.{GroupLeaves, GroupIsMade, CreationLeaves, CreationIsMade}

pub each_crash_of_kind : (crash : Crash) (u : Tape) (n : ℕ) (P : ℕ → Image → Type 0) → IsKind crash → EachCrash May u n P → EachCrash crash u n P
each_crash_of_kind crash u n P kind each i image from upto left = each i image from upto (kind.may (synced_at u i) (unsynced_at u i) image left)

pub group_leaves_of_kind : (crash : Crash) (t u : Tape) (old new : Standing) (gate : ℕ) → IsKind crash → GroupLeaves May t u old new gate → GroupLeaves crash t u old new gate
group_leaves_of_kind crash t u old new gate kind leaves = record {
  before = λ i image from upto left. leaves.before i image from upto (kind.may (synced_at u i) (unsynced_at u i) image left);
  each = λ i image from upto left. leaves.each i image from upto (kind.may (synced_at u i) (unsynced_at u i) image left);
}

pub group_is_made_of_kind : (crash : Crash) (u : Tape) (new : Standing) → IsKind crash → GroupIsMade May u new → GroupIsMade crash u new
group_is_made_of_kind crash u new kind made = record {
  at_rest = made.at_rest;
  stands = made.stands;
  only_new = λ i image from upto left. made.only_new i image from upto (kind.may (synced_at u i) (unsynced_at u i) image left);
  next_gate = made.next_gate;
}

pub creation_leaves_of_kind : (crash : Crash) (t u : Tape) (logs : ℕ) (new : Standing) (gate : ℕ) → IsKind crash → CreationLeaves May t u logs new gate → CreationLeaves crash t u logs new gate
creation_leaves_of_kind crash t u logs new gate kind leaves = record {
  before = λ i image from upto left. leaves.before i image from upto (kind.may (synced_at u i) (unsynced_at u i) image left);
  each = λ i image from upto left. leaves.each i image from upto (kind.may (synced_at u i) (unsynced_at u i) image left);
}

pub creation_is_made_of_kind : (crash : Crash) (u : Tape) (logs : ℕ) (new : Standing) → IsKind crash → CreationIsMade May u logs new → CreationIsMade crash u logs new
creation_is_made_of_kind crash u logs new kind made = record {
  at_rest = made.at_rest;
  stands = made.stands;
  logs_are = made.logs_are;
  only_new = λ i image from upto left. made.only_new i image from upto (kind.may (synced_at u i) (unsynced_at u i) image left);
  next_gate = made.next_gate;
}
