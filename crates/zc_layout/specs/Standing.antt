-- What an image stands for, as far as its root and the bytes at the root's places go.
use Rattle.std.specs.Prelude.{◌≡◌, ◌⊎◌, ◌+◌, ℕ, Bool, true, false, List, [], ◌∷◌, ◌++◌, map, if◌then◌else◌}
use Rattle.zc_tape.specs.Tape.{Image, Call, Write, Sync}
use Rattle.zc_root.specs.declared.body.Body.{Body}
use Rattle.zc_root.specs.Body.{body_bytes, IsBody}
use Rattle.zc_root.specs.Root.{slot_of, body_place, gate_place, opened, closed, IsOpenRoot, IsRoot}
use Rattle.zc_layout.specs.Layout.{Put, Holds, owns, IsAmong, AreDistinct, NotAtRoots}

-- the body of a root, and the bytes at the places that the root owns: its catalogue and its blocks
pub record Standing : Type 0 where
  pub body : Body
  pub puts : List Put

-- the body is the root of the image, and the bytes stand there
pub record Stands (image : Image) (standing : Standing) : Type 0 where
  pub root : IsRoot image standing.body
  pub holds : Holds image standing.puts

-- the image has no open root
abbrev pub HasNoRoot : Image → Type 0
HasNoRoot image = (body : Body) → IsOpenRoot image body → ⊥

-- ---- the calls of a group

-- the write of a put
abbrev pub write_of : Put → Call
write_of put = Write put.at.device put.at.place put.bytes

-- the write that closes the gate of a group's slot, where it is open
abbrev pub closing : ℕ → Bool → List Call
closing group gate_open = if gate_open then Write 0 (gate_place (slot_of group)) closed ∷ [] else []

-- the writes of a group before its body's
abbrev pub first_writes : List Put → ℕ → Bool → List Call
first_writes puts group gate_open = map write_of puts ++ closing group gate_open

-- the calls of a group: its puts, and the closed gate where it is open; a sync; the body; a sync; the open gate; a sync
abbrev pub group_calls : List Put → Body → Bool → List Call
group_calls puts body gate_open =
    first_writes puts body.group gate_open ++ (Sync ∷ (Write 0 (body_place (slot_of body.group)) (body_bytes body) ∷ (Sync ∷ (Write 0 (gate_place (slot_of body.group)) opened ∷ (Sync ∷ [])))))

-- every put of the one list is one of the other two
abbrev pub Covers : List Put → List Put → List Put → Type 0
Covers [] puts old = Unit {0}
Covers (put ∷ wanted) puts old = (IsAmong put puts ⊎ IsAmong put old) × Covers wanted puts old

-- writing these puts, and then the body, leads from the one standing to the other: no put is at a place of the old root, of any
-- root, or of another put, and what the new root owns is written now or stood there before
pub record LeadsTo (old new : Standing) (puts : List Put) : Type 0 where
  pub next : new.body.group ≡ old.body.group + 1
  pub fits : IsBody new.body
  pub old_beside_roots : NotAtRoots old.puts
  pub beside_roots : NotAtRoots puts
  pub beside_old : (d p : ℕ) → owns old.puts d p ≡ true → owns puts d p ≡ false
  pub distinct : AreDistinct puts
  pub covers : Covers new.puts puts old.puts

-- the same where there was no root before: the puts are all that the first root owns
pub record Begins (new : Standing) (puts : List Put) : Type 0 where
  pub fits : IsBody new.body
  pub beside_roots : NotAtRoots puts
  pub distinct : AreDistinct puts
  pub covers : Covers new.puts puts []
