-- What a group leads to is a state of the pool, and so is what a first group makes.
use Rattle.std.proofs.Common.{ℕ, ◌^◌, ◌<◌, List, []}
use Rattle.zc_num.specs.Limits.{AreLimits}
use Rattle.zc_num.specs.declared.numbers.PlaceAt.{PlaceAt}
use Rattle.zc_tape.specs.Tape.{Shape}
use Rattle.zc_tree.specs.declared.tree.Tree.{Tree}
use Rattle.zc_catalog.specs.Chain.{links}
use Rattle.zc_damage.specs.declared.block.FoundBlock.{FoundBlock}
use Rattle.zc_layout.specs.Layout.{at_places}
use Rattle.zc_layout.specs.Standing.{LeadsTo, Begins}
use Rattle.zc_state.specs.State.{State, IsState, standing_of}
use Rattle.zc_next.specs.Exact.{AreExact, exact_state}
use Rattle.zc_next.specs.Next.{next_blocks, next_state, next_bytes, next_puts, IsNext}
use Rattle.zc_next.proofs.ExactLaws.{exact_is_state}
use Rattle.zc_next.proofs.NextLaws.{next_is_exact, next_leads, next_begins}

-- a group leads from a state to a state
pub next_is_state : (shape : Shape) (s : State) (chain : List PlaceAt) (tree : Tree) (new : List FoundBlock) → IsState shape s → IsNext shape s chain tree new → IsState shape (next_state shape s chain tree new)
next_is_state shape s chain tree new is next =
    exact_is_state s.body.pool shape chain tree (next_blocks shape tree new s.blocks) is.body.widths.pool is.size (next_is_exact shape s chain tree new is next)

-- by its writes
pub next_state_leads : (shape : Shape) (s : State) (chain : List PlaceAt) (tree : Tree) (new : List FoundBlock) → IsState shape s → IsNext shape s chain tree new
    → LeadsTo (standing_of s) (standing_of (next_state shape s chain tree new)) (next_puts shape chain tree new)
next_state_leads shape s chain tree new is next = next_leads shape s chain tree new is next (next_is_state shape s chain tree new is next).body

-- and a pool begins with what is exact, by the writes of its chain
pub first_state_begins : (pool : ℕ) (shape : Shape) (chain : List PlaceAt) (tree : Tree) → pool < 2 ^ 64 → AreLimits shape.devices shape.places → AreExact shape chain tree []
    → Begins (standing_of (exact_state pool shape chain tree [])) (at_places chain (links chain (next_bytes shape chain tree)))
first_state_begins pool shape chain tree width limits exact = next_begins pool shape chain tree exact (exact_is_state pool shape chain tree [] width limits exact).body
