-- What an image stands for: it depends on the root and on the places that the root owns alone, and is one state.
use Rattle.std.proofs.Common.{◌≡◌, ◌∙◌, ℕ, List, sym, ap}
use Rattle.zc_num.specs.declared.numbers.PlaceAt.{PlaceAt}
use Rattle.zc_tape.specs.Tape.{Image, Shape}
use Rattle.zc_root.specs.Root.{slot_of}
use Rattle.zc_root.proofs.RootLaws.{SameSlot, IsHigher, one_root}
use Rattle.zc_tree.specs.Reach.{pointers_of_tree}
use Rattle.zc_tree.specs.Catalogue.{catalogue_bytes}
use Rattle.zc_tree.specs.declared.catalogue.Parts.{Parts}
use Rattle.zc_layout.specs.Layout.{Agrees, Holds}
use Rattle.zc_layout.proofs.StandingLaws as standing
use Rattle.zc_state.specs.State.{State, IsState, StandsFor, layout, standing_of}
use Rattle.zc_state.specs.Reading.{chain_of, parts_in, blocks_of}
use Rattle.zc_state.proofs.Steps.{ok_is}
use Rattle.zc_state.proofs.ReadLaws.{parts_are_read}

-- the frame: the same bytes at the places that the root owns, the same gate and body in its slot, and nothing open and higher in the
-- other slot
pub stands_where_agrees : (shape : Shape) (before later : Image) (s : State) → Agrees (layout s) before later → SameSlot before later (slot_of s.body.group) → IsHigher later s.body
    → StandsFor shape before s → StandsFor shape later s
stands_where_agrees shape before later s agrees same higher stands =
    record { state = stands.state; stands = standing.stands_where_agrees before later (standing_of s) agrees same higher stands.stands }

-- two states of one body that an image holds are one
pub one_state_of_body : (shape : Shape) (image : Image) (s other : State) → s.body ≡ other.body → IsState shape s → IsState shape other → Holds image (layout s) → Holds image (layout other) → s ≡ other
one_state_of_body shape image s other body is other_is holds other_holds =
    let here = parts_are_read shape image s is holds in
    let there = parts_are_read shape image other other_is other_holds in
    let chain : ◌≡◌ {A = List PlaceAt × List ℕ} (s.chain, catalogue_bytes s.parts) (other.chain, catalogue_bytes other.parts) =
    ok_is (s.chain, catalogue_bytes s.parts) (other.chain, catalogue_bytes other.parts)
    (sym here.chain ∙ ap (chain_of shape.devices shape.places image) body ∙ there.chain) in
    let bytes : catalogue_bytes s.parts ≡ catalogue_bytes other.parts = ap (λ (x : List PlaceAt × List ℕ). x.1) chain in
    let parts : s.parts ≡ other.parts =
    ok_is s.parts other.parts (sym here.parts ∙ (λ i. parts_in shape.devices shape.places (body i) (bytes i)) ∙ there.parts) in
    let blocks : s.blocks ≡ other.blocks =
    ok_is s.blocks other.blocks (sym here.blocks ∙ ap (λ (p : Parts). blocks_of shape.devices shape.places image (pointers_of_tree p.tree)) parts ∙ there.blocks) in
    λ i. record { body = body i; chain = (chain i).0; parts = parts i; blocks = blocks i }

-- an image stands for one state at most, be it fresh or worn
pub one_state : (shape : Shape) (image : Image) (s other : State) → StandsFor shape image s → StandsFor shape image other → s ≡ other
one_state shape image s other here there =
    one_state_of_body shape image s other (one_root image s.body other.body here.stands.root there.stands.root) here.state there.state here.stands.holds there.stands.holds
