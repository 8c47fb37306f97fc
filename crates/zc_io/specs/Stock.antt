-- What lies on a shelf of disk sets, what is handed out, and what was given back.
use Rattle.std.specs.Prelude.{◌≡◌, ◌&&◌, ◌||◌, ℕ, ◌<◌, Bool, true, false, List, [], ◌∷◌, ◌++◌, replicate, if◌then◌else◌, IsTrue}
use Rattle.std.specs.Str.{bytes_eq}
use Rattle.zc_tape.specs.Tape.{Shape, Tape}

-- a disk set that was handed back, and whether that was answered with Ok
pub record Gave : Type 0 where
  pub name : List ℕ
  pub shape : Shape
  pub tape : Tape
  pub ok : Bool

-- whether the shelf tells the rest; which names are there; which are handed out; and each disk set that was
-- handed back, Ok or not, the first first
pub record Stock : Type 0 where
  pub told : Bool
  pub here : List ℕ → Bool
  pub out : List ℕ → Bool
  pub gives : List Gave

-- the answers to names, with another answer to one
abbrev pub with_answer : (List ℕ → Bool) → List ℕ → Bool → List ℕ → Bool
with_answer answers name answer n = if bytes_eq name n then answer else answers n

-- the stock once a name was handed out
abbrev pub handed_out : Stock → List ℕ → Stock
handed_out s name = record s { here = with_answer s.here name false; out = with_answer s.out name true }

-- the stock once a disk set was handed back: it lies there where that was Ok and its name was handed out
abbrev pub handed_back : Stock → Gave → Stock
handed_back s gave = record s {
  here = with_answer s.here gave.name ((gave.ok && s.out gave.name) || s.here gave.name);
  out = with_answer s.out gave.name false;
  gives = s.gives ++ gave ∷ [];
}

-- the name is handed out, where the shelf tells that
abbrev pub HandsOut : Stock → Stock → List ℕ → Type 0
HandsOut old new name = IsTrue old.told → new ≡ handed_out old name

-- the disk set is handed back, where the shelf tells that
abbrev pub HandsBack : Stock → Stock → Gave → Type 0
HandsBack old new gave = IsTrue old.told → new ≡ handed_back old gave

-- nothing changes on the shelf, where it tells that
abbrev pub KeepsStock : Stock → Stock → Type 0
KeepsStock old new = IsTrue old.told → new ≡ old

-- the name is there, or isn't, where the shelf tells that
abbrev pub IsHere : Stock → List ℕ → Bool → Type 0
IsHere s name answer = IsTrue s.told → s.here name ≡ answer

-- no call stands on the tape, and no call has failed
pub record IsUncalled (tape : Tape) (faults : ℕ) : Type 0 where
  pub calls : tape.calls ≡ []
  pub faults_none : faults ≡ 0

-- every place that is there holds zeros at the start, where the tape is told
abbrev pub IsBlank : Shape → Tape → Type 0
IsBlank shape tape = IsTrue tape.told → (d p : ℕ) → d < shape.devices → p < shape.places → tape.start d p ≡ replicate 4096 0
