use Rattle.std.specs.Prelude.{◌≡◌, map}
use Rattle.zc_pool.specs.Importing.{heart_block}
use Rattle.zc_pool.proofs.opening.heart_blocks.Given as goal

-- the blocks so far
abbrev pub invariant-loop-block : goal.invariant-loop-block
invariant-loop-block l = l.held.items ≡ map heart_block l.yielded
