use Rattle.std.proofs.Common.{◌≡◌, ℕ, []}
use Rattle.std.specs.List.{AllByRecursion}
use Rattle.zc_blkptr.specs.declared.ptr.Ptr.{Ptr}
use Rattle.zc_heart.specs.Opening.{IsThere, with_slots}
use Rattle.zc_heart.proofs.opening.hold_blocks.Given as goal

-- what is held and what is left are all
abbrev pub invariant-loop-block : goal.invariant-loop-block
invariant-loop-block l =
    (with_slots l.found.entries l.held l.block-iterator ≡ with_slots l.found.entries [] l.slots) × AllByRecursion (λ (slot : ℕ × Ptr). IsThere l.found.entries slot.1) l.block-iterator
