-- What a group leads to that is committed, and what it leaves wherever it is cut short.
use Rattle.std.specs.Prelude.{◌≡◌, ◌⊎◌, ◌↔◌, ◌+◌, ◌^◌, ◌<◌, ◌≤◌, Bool, true, List, [], ◌∷◌, ◌++◌, length, map, None, IsTrue}
use Rattle.std.specs.List.{AllByRecursion}
use Rattle.zc_num.specs.declared.numbers.PlaceAt.{PlaceAt}
use Rattle.zc_blkptr.specs.declared.ptr.Ptr.{Ptr}
use Rattle.zc_tape.specs.Tape.{Shape, Call, Tape}
use Rattle.zc_tape.specs.Crash.{May, EachCrash, AtRest, reads}
use Rattle.zc_tape.specs.Plays.{Begun}
use Rattle.zc_root.specs.declared.body.Body.{Body}
use Rattle.zc_root.specs.Root.{slot_of, IsOpenGate, AreGates}
use Rattle.zc_tree.specs.Reach.{pointers_of_tree}
use Rattle.zc_tree.specs.Catalogue.{AreDatasets}
use Rattle.zc_tree.specs.declared.tree.Tree.{Tree}
use Rattle.zc_layout.specs.Layout.{Put}
use Rattle.zc_layout.specs.Standing.{Standing, group_calls}
use Rattle.zc_layout.specs.Outcomes.{before_gate, GroupLeaves, GroupIsMade}
use Rattle.zc_plan.specs.Start.{StartsGroup}
use Rattle.zc_plan.specs.declared.input.PlacedBlock.{PlacedBlock}
use Rattle.zc_damage.specs.declared.block.FoundBlock.{FoundBlock}
use Rattle.zc_damage.specs.Places.{bytes_in}
use Rattle.zc_damage.specs.Checks.{log_hit, tail_hit}
use Rattle.zc_state.specs.State.{State, StandsFor, place_of_block}
use Rattle.zc_next.specs.Next.{next_state, next_puts, AreNewBlocks, IsKept, IsWritten}
use Rattle.zc_group.specs.Chosen.{chain_for}
use Rattle.zc_group.specs.Kept.{Keeps}
use Rattle.zc_group.specs.declared.root.Root.{Root}

-- a block that a group writes, as it is found afterwards
abbrev pub found_of : PlacedBlock → FoundBlock
found_of block = record { device = block.device; place = block.place; bytes = block.bytes }

-- the places that a group's catalogue may not take: those of the old catalogue and of the new blocks
abbrev pub taken_by : List PlaceAt → List FoundBlock → List PlaceAt
taken_by chain new = chain ++ map place_of_block new

-- the state after the group with this tree and these new blocks
abbrev pub state_after : Shape → State → Tree → List FoundBlock → State
state_after shape s tree new =
    next_state shape s (chain_for shape (taken_by s.chain new) (pointers_of_tree s.parts.tree) tree) tree new

-- the calls of that group, where the flag says whether the gate of its slot is open
abbrev pub calls_after : Shape → State → Tree → List FoundBlock → (gate_open : Bool) → List Call
calls_after shape s tree new gate_open =
    group_calls (next_puts shape (chain_for shape (taken_by s.chain new) (pointers_of_tree s.parts.tree) tree) tree new) (state_after shape s tree new).body gate_open

-- a front of these calls was made, in order, of which only the last may have failed
pub record IsGroupBegun (shape : Shape) (t u : Tape) (s : State) (tree : Tree) (new : List FoundBlock) : Type 0 where
  pub gate_open : Bool
  pub gate : IsTrue gate_open ↔ IsOpenGate (reads t) (slot_of tree.group)
  pub begun : Begun t (calls_after shape s tree new gate_open) u

-- A group may lead from the state to one with this tree and these new blocks, over whichever places its catalogue has: what
-- `IsNext` asks besides of those places follows from how they are chosen. That the tree has no more places than a pool has for data
-- is seen by whoever commits it.
pub record MayFollow (shape : Shape) (s : State) (tree : Tree) (new : List FoundBlock) : Type 0 where
  pub group_is : tree.group ≡ s.body.group + 1
  pub group_width : tree.group < 2 ^ 64
  pub some_next_dataset : 1 ≤ tree.next_dataset
  pub next_dataset_width : tree.next_dataset < 2 ^ 64
  pub few_datasets : length tree.datasets ≤ 8
  pub datasets : AreDatasets shape.devices shape.places tree.group tree.next_dataset [] tree.datasets
  pub no_logs : log_hit shape.devices shape.places tree.datasets ≡ None
  pub new_blocks : AreNewBlocks shape s [] new
  pub pointers : AllByRecursion (λ ptr. IsKept tree.group (pointers_of_tree s.parts.tree) ptr ⊎ IsWritten tree.group new ptr) (pointers_of_tree tree)
  pub tails : tail_hit (bytes_in (new ++ s.blocks)) tree.datasets ≡ None

-- on a tape at rest that stands for the state that the root keeps, the group may follow
pub record MayCommit (shape : Shape) (t : Tape) (s : State) (root : Root) (tree : Tree) (new : List FoundBlock) : Type 0 where
  pub told : IsTrue t.told
  pub at_rest : AtRest t
  pub keeps : Keeps shape (reads t) s root
  pub follows : MayFollow shape s tree new

-- at each moment since the tape t the one state stands or the other
abbrev pub LeavesEither : Shape → State → State → (t u : Tape) → Type 0
LeavesEither shape s next t u = EachCrash May u (length t.calls) (λ _ image. StandsFor shape image s ⊎ StandsFor shape image next)

-- wherever the calls of a group with these puts and this body are cut short on the tape u, its old root stands or its new one
abbrev pub LeavesGroup : List Put → Body → (gate_open : Bool) → (t u : Tape) → Type 0
LeavesGroup puts body gate_open t u =
    (old new : Standing) → StartsGroup t (group_calls puts body gate_open) old new puts gate_open
    → GroupLeaves May t u old new (length t.calls + before_gate puts new.body gate_open)

-- all of them were Ok, and its new root alone stands
abbrev pub MakesGroup : List Put → Body → (gate_open : Bool) → (t u : Tape) → Type 0
MakesGroup puts body gate_open t u =
    (old new : Standing) → StartsGroup t (group_calls puts body gate_open) old new puts gate_open → GroupIsMade May u new

-- the group is committed: the next state alone stands, and the root keeps it
pub record IsCommitted (shape : Shape) (u : Tape) (next : State) (root : Root) : Type 0 where
  pub at_rest : AtRest u
  pub only_next : EachCrash May u (length u.calls) (λ _ image. StandsFor shape image next)
  pub keeps : Keeps shape (reads u) next root

-- The same of the parts of a root, with the pointers of its tree in place of the tree: so an import commits the tree that it read
-- under the next number, and needs no copy of it.
pub record MayLead (shape : Shape) (t : Tape) (s : State) (body : Body) (gates : List Bool) (chain : List PlaceAt) (reach : List Ptr) (tree : Tree) (new : List FoundBlock) : Type 0 where
  pub told : IsTrue t.told
  pub at_rest : AtRest t
  pub stands : StandsFor shape (reads t) s
  pub body_is : body ≡ s.body
  pub chain_is : chain ≡ s.chain
  pub reach_is : reach ≡ pointers_of_tree s.parts.tree
  pub gates_are : AreGates (reads t) gates
  pub follows : MayFollow shape s tree new

-- the next state alone stands, and these are its body and the places of its catalogue; both gates are open
pub record IsLed (shape : Shape) (u : Tape) (next : State) (body : Body) (chain : List PlaceAt) : Type 0 where
  pub at_rest : AtRest u
  pub stands : StandsFor shape (reads u) next
  pub only_next : EachCrash May u (length u.calls) (λ _ image. StandsFor shape image next)
  pub body_is : body ≡ next.body
  pub chain_is : chain ≡ next.chain
  pub gates_are : AreGates (reads u) (true ∷ true ∷ [])
