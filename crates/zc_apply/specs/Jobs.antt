-- A sealed group as a job: from which pool its changes lead to which.
use Rattle.std.specs.Prelude.{◌≡◌, ℕ, ◌-◌, ◌^◌}
use Rattle.std.specs.List.{AllByRecursion}
use Rattle.zc_num.specs.declared.limits.Limits.{Limits}
use Rattle.zc_plain.specs.Charge.{held_by}
use Rattle.zc_plain.specs.IsPlain.{IsPlain, AreNextUpTo}
use Rattle.zc_plain.specs.Promises.{HaveFewPointers}
use Rattle.zc_heart.specs.declared.changes.Sealed.{Sealed}
use Rattle.zc_heart.specs.Changes.{Placing, made_in, tree_of}
use Rattle.zc_heart.specs.Core.{Base}
use Rattle.zc_heart.specs.Meaning.{Stands, placed_by_all}
use Rattle.zc_apply.specs.Named.{AreNamed, AreAreas}

-- the changes of a sealed group, made in order in the tree of the one pool, give that of the other, wherever the blocks are put
pub record IsJob (from to : Base) (job : Sealed) : Type 0 where
  pub leads : (placing : Placing) (group : ℕ) → made_in job.changes (placed_by_all placing to.pool job.changes) (tree_of group placing from.areas from.pool) ≡ tree_of group placing to.areas to.pool
  pub stand : AllByRecursion (Stands to.pool) job.changes
  pub held : job.held ≡ held_by to.pool

-- what is true of a pool whose tree a root may have
pub record IsBase (limits : Limits) (base : Base) : Type 0 where
  pub plain : IsPlain base.pool
  pub limits_are : base.pool.limits ≡ limits
  pub named : AreNamed base.pool
  pub areas : AreAreas base.areas base.pool
  pub few_pointers : HaveFewPointers base.pool
  pub next_numbers : AreNextUpTo (2 ^ 64 - 1) base.pool
