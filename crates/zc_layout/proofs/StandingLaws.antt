-- The laws of what an image stands for: a frame, and that it stands for one root at most.
use Rattle.std.proofs.Common.{◌≡◌, ℕ, ◌+◌, ◌<◌, ◌⊎◌, List, [], refl, sym, ap, subst, inl, inr, arith}
use Rattle.zc_tape.specs.Tape.{Image}
use Rattle.zc_tape.proofs.Places.{same_image}
use Rattle.zc_root.specs.declared.body.Body.{Body}
use Rattle.zc_root.specs.Root.{slot_of, IsOpenGate}
use Rattle.zc_root.proofs.RootLaws.{SameSlot, IsHigher, root_stays, one_root, slots, slot_below}
use Rattle.zc_layout.specs.Layout.{Put, Agrees, NotAtRoots}
use Rattle.zc_layout.specs.Standing.{Standing, Stands, HasNoRoot, LeadsTo, Begins}
use Rattle.zc_layout.proofs.LayoutLaws.{holds_where_agrees, covers_beside_roots}

-- the frame: the same bytes at its places, the same gate and body in its root's slot, and nothing open and higher in the other slot
pub stands_where_agrees : (before later : Image) (s : Standing) → Agrees s.puts before later → SameSlot before later (slot_of s.body.group) → IsHigher later s.body
    → Stands before s → Stands later s
stands_where_agrees before later s agrees same higher stands = record {
  root = root_stays before later s.body same higher stands.root;
  holds = holds_where_agrees before later s.puts agrees stands.holds;
}

-- an image that is equal at each place stands for the same
pub stands_where_same : (before later : Image) (s : Standing) → ((d p : ℕ) → later d p ≡ before d p) → Stands before s → Stands later s
stands_where_same before later s same = subst (λ image. Stands image s) (sym (same_image later before same))

-- an image stands for one root at most
pub one_standing_root : (image : Image) (s other : Standing) → Stands image s → Stands image other → s.body ≡ other.body
one_standing_root image s other here there = one_root image s.body other.body here.root there.root

-- so not for both sides of a group
pub not_old_and_new : (image : Image) (old new : Standing) (puts : List Put) → LeadsTo old new puts → Stands image old → Stands image new → ⊥
not_old_and_new image old new puts leads here there =
    let same : old.body.group ≡ new.body.group = ap (λ (body : Body). body.group) (one_standing_root image old new here there) in
    let next : new.body.group ≡ old.body.group + 1 = leads.next in
    absurd (omega arith)

-- nor for any where it has no root
pub no_root_no_standing : (image : Image) (s : Standing) → HasNoRoot image → Stands image s → ⊥
no_root_no_standing image s none stands = none s.body stands.root.here

-- ---- images without an open gate

-- neither slot's gate is open
abbrev pub HasNoOpenGate : Image → Type 0
HasNoOpenGate image = (slot : ℕ) → slot < 2 → IsOpenGate image slot → ⊥

-- there are two
pub no_open_gate_of_both : (image : Image) → (IsOpenGate image 0 → ⊥) → (IsOpenGate image 1 → ⊥) → HasNoOpenGate image
no_open_gate_of_both image first second slot low open_now = at (slots 0 slot) where
  at : (slot_of slot ≡ slot_of 0) ⊎ (slot_of slot ≡ slot_of (0 + 1)) → ⊥
  at (inl e) = first (subst (IsOpenGate image) (let is : slot ≡ 0 = omega arith in is) open_now)
  at (inr e) = second (subst (IsOpenGate image) (let is : slot ≡ 1 = omega arith in is) open_now)

-- then no body is a root
pub no_root_without_gate : (image : Image) → HasNoOpenGate image → HasNoRoot image
no_root_without_gate image unopened body root = unopened (slot_of body.group) (slot_below body.group) root.gate

-- the same gates, none of them open
pub no_open_gate_where_same : (before later : Image) → ((slot : ℕ) → slot < 2 → IsOpenGate later slot → IsOpenGate before slot) → HasNoOpenGate before → HasNoOpenGate later
no_open_gate_where_same before later same unopened slot low open_now = unopened slot low (same slot low open_now)

-- ---- what a plan leaves beside the roots

-- after a group the new root's places are beside the roots, as the old one's were
pub leads_beside_roots : (old new : Standing) (puts : List Put) → LeadsTo old new puts → NotAtRoots new.puts
leads_beside_roots old new puts leads = covers_beside_roots new.puts puts old.puts leads.covers leads.beside_roots leads.old_beside_roots

-- and after a creation
pub begins_beside_roots : (new : Standing) (puts : List Put) → Begins new puts → NotAtRoots new.puts
begins_beside_roots new puts begins = covers_beside_roots new.puts puts [] begins.covers begins.beside_roots (λ place low. refl)
