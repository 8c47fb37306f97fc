-- What an import holds in memory of what it took up, and the disk set that it gives back.
use Rattle.std.specs.Prelude.{◌≡◌, ◌≤◌, ◌^◌, ℕ, List, map, Result, Ok, Err}
use Rattle.zc_damage.specs.declared.block.FoundBlock.{FoundBlock}
use Rattle.zc_heart.specs.declared.opening.HeartBlock.{HeartBlock}
use Rattle.zc_heart.specs.Core.{IsCore}
use Rattle.zc_heart.specs.Meaning.{IsOpened}
use Rattle.zc_group.specs.declared.root.Root.{Root}
use Rattle.zc_open.specs.declared.open_pool.OpenPool.{OpenPool}
use Rattle.zc_open.specs.Events.{begun_pool}
use Rattle.zc_pool.specs.declared.pool.Pool.{Pool}

-- the disk set that is given back, in the pool or with the fault
abbrev pub disks_of : {D E : Type 0} → Result (Pool D) (E × D) → D
disks_of (Ok pool) = pool.disks
disks_of (Err refused) = refused.1

-- a block that was read, as it is held in memory
abbrev pub heart_block : FoundBlock → HeartBlock
heart_block block = record { device = block.device; place = block.place; bytes = block.bytes }

-- the files of the root's tree are held in memory over these blocks, and nothing was asked of them
pub record IsHeld (root : Root) (blocks : List FoundBlock) (calls : ℕ) (kept : OpenPool) : Type 0 where
  pub core : IsCore kept.heart
  pub opened : IsOpened root.limits root.tree (map heart_block blocks) kept.heart
  pub begins : kept ≡ begun_pool kept.heart root.tree.group calls
  pub few_calls : calls ≤ 2 ^ 64
