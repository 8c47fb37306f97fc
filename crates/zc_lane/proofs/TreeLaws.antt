-- The tree of a root and the plain pool that it has: what a commit asks of such a tree, and that a job leads to one.
use Rattle.std.proofs.Common.{◌≡◌, ℕ, List, [], ◌∷◌, ◌++◌, length, filter, refl, sym, ap, subst, arith}
use Rattle.std.specs.List.{AllByRecursion}
use Rattle.zc_num.specs.declared.limits.Limits.{Limits}
use Rattle.zc_blkptr.specs.Ptr.{IsPtr}
use Rattle.zc_blkptr.specs.declared.ptr.Ptr.{Ptr}
use Rattle.zc_tape.specs.Tape.{Shape, Tape}
use Rattle.zc_tree.specs.Reach.{pointers_of_tree}
use Rattle.zc_tree.specs.declared.tree.Tree.{Tree}
use Rattle.zc_damage.specs.Places.{bytes_in}
use Rattle.zc_state.specs.State.{State}
use Rattle.zc_state.proofs.Pointers.{ArePtrs, parts_have_ptrs}
use Rattle.zc_next.proofs.BlockLists.{holds_there}
use Rattle.zc_plain.specs.declared.plain_pool.PlainBlock.{PlainBlock}
use Rattle.zc_plain.specs.declared.plain_pool.PlainBlock.TheVariants.{Hole, Made}
use Rattle.zc_plain.specs.declared.plain_pool.PlainFile.{PlainFile}
use Rattle.zc_plain.specs.declared.plain_pool.PlainPool.{PlainPool}
use Rattle.zc_heart.specs.declared.changes.Now.TheVariants as now
use Rattle.zc_heart.specs.declared.changes.Change.{Change}
use Rattle.zc_heart.specs.declared.changes.Change.TheVariants.{MakeDataset, DropDataset, MakeFile, DropFile, Size, Put}
use Rattle.zc_heart.specs.declared.changes.Sealed.{Sealed}
use Rattle.zc_heart.specs.Changes.{is_made, made_in, tree_of}
use Rattle.zc_heart.specs.Meaning.{block_in, IsNow, Stands, stamp_placed, placed_by_all}
use Rattle.zc_apply.specs.Alike.{AreAlike, IsAlike, by_bytes, HasBytes}
use Rattle.zc_apply.proofs.AlikeLaws.{made_alike, alike_weaker}
use Rattle.zc_apply.proofs.DatasetLaws.{HasDatasets, datasets_of_held}
use Rattle.zc_group.specs.declared.root.Root.{Root}
use Rattle.zc_heart.specs.Core.{Base}
use Rattle.zc_apply.specs.Jobs.{IsJob, IsBase}
use Rattle.zc_lane.specs.Jobs.{HasTreeOf, IsRooted}
use Rattle.zc_lane.specs.Placed.{next_tree}

-- ---- a root on disks

-- pointers that fit a pool of this size
abbrev FitsIn : Limits → Ptr → Ptr → Type 0
FitsIn limits ptr other = IsPtr limits.devices limits.places ptr

-- the root that is kept has the tree of the pool that it holds
pub tree_of_rooted : (shape : Shape) (t : Tape) (s : State) (root : Root) (base : Base) → IsRooted shape t s root base → HasTreeOf base root
tree_of_rooted shape t s root base rooted =
    let is = rooted.keeps.stands.state in
    let reach : List Ptr = pointers_of_tree s.parts.tree in
    let fit : ArePtrs shape.devices shape.places reach = parts_have_ptrs shape.devices shape.places s.body.group s.body.next_dataset s.parts is.parts in
    let fit_here : ArePtrs root.limits.devices root.limits.places reach =
    subst (λ (places : ℕ). ArePtrs root.limits.devices places reach) (sym rooted.keeps.size.places)
    (subst (λ (devices : ℕ). ArePtrs devices shape.places reach) (sym rooted.keeps.size.devices) fit) in
    let alike : IsAlike (FitsIn root.limits) s.parts.tree (tree_of s.parts.tree.group by_bytes base.areas base.pool) =
    alike_weaker (HasBytes (bytes_in s.blocks)) (FitsIn root.limits) s.parts.tree (tree_of s.parts.tree.group by_bytes base.areas base.pool)
    (λ ptr other among has. holds_there (IsPtr root.limits.devices root.limits.places) reach ptr fit_here among) rooted.holds in
    subst (λ (tree : Tree). IsAlike (FitsIn root.limits) tree (tree_of tree.group by_bytes base.areas base.pool)) (sym rooted.keeps.tree_is) alike

-- a commit may have the tree of such a root
pub datasets_of_tree : (group : ℕ) (root : Root) (base : Base) → IsBase root.limits base → HasTreeOf base root → HasDatasets root.limits.devices root.limits.places group root.tree
datasets_of_tree group root base is has =
    datasets_of_held root.limits.devices root.limits.places group root.tree.group (FitsIn root.limits) by_bytes base.areas base.pool root.tree
    (λ ptr other fits. fits) is.plain is.named is.few_pointers is.next_numbers is.areas
    (ap (λ (limits : Limits). limits.devices) is.limits_are) (ap (λ (limits : Limits). limits.places) is.limits_are) root.limits.are_limits has

-- ---- a job

-- a pointer for each put goes with the block that stands there
module _ (P : Ptr → Type 0) (pool : PlainPool) where
  put_right : (bytes : List ℕ) (block : PlainBlock) (ptr : Ptr) (ptrs others : List Ptr) → IsNow (now.Made bytes) block → P ptr → AreAlike (λ one other. P one) ptrs others
      → AreAlike (λ one other. P one) (ptr ∷ ptrs) (stamp_placed by_bytes block ++ others)
  put_right bytes Hole ptr ptrs others is right go = absurd is
  put_right bytes (Made entry index held) ptr ptrs others is right go = (right, go)

  pub placed_right : (changes : List Change) (ptrs : List Ptr) → AllByRecursion (Stands pool) changes → length ptrs ≡ length (filter is_made changes) → AllByRecursion P ptrs
      → AreAlike (λ one other. P one) ptrs (placed_by_all by_bytes pool changes)
  placed_right [] [] stand long right = tt
  placed_right [] (ptr ∷ ptrs) stand long right = absurd (omega (arith, long))
  placed_right (MakeDataset id slot name ∷ changes) ptrs stand long right = placed_right changes ptrs stand.1 long right
  placed_right (DropDataset id ∷ changes) ptrs stand long right = placed_right changes ptrs stand.1 long right
  placed_right (MakeFile dataset file name ∷ changes) ptrs stand long right = placed_right changes ptrs stand.1 long right
  placed_right (DropFile dataset file ∷ changes) ptrs stand long right = placed_right changes ptrs stand.1 long right
  placed_right (Size dataset file size ∷ changes) ptrs stand long right = placed_right changes ptrs stand.1 long right
  placed_right (Put dataset file block now.Hole ∷ changes) ptrs stand long right = placed_right changes ptrs stand.1 long right
  placed_right (Put dataset file block (now.Made bytes) ∷ changes) [] stand long right = absurd (omega (arith, long))
  placed_right (Put dataset file block (now.Made bytes) ∷ changes) (ptr ∷ ptrs) stand long right =
      let others = placed_by_all by_bytes pool changes in
      let go : AreAlike (λ one other. P one) ptrs others = placed_right changes ptrs stand.1 (omega (arith, long)) right.1 in
      subst (λ (files : List PlainFile). AreAlike (λ one other. P one) (ptr ∷ ptrs) (stamp_placed by_bytes (block_in files block) ++ others)) (sym stand.0.1)
      (put_right bytes (block_in (stand.0.0 ∷ []) block) ptr ptrs others stand.0.2 right.0 go)

-- a root with the next tree has the tree of the pool that the job leads to, where a pool may have the pointers to the new blocks
pub tree_of_job : (root after : Root) (from to : Base) (job : Sealed) (placed : List Ptr) → HasTreeOf from root → IsJob from to job
    → length placed ≡ length (filter is_made job.changes) → AllByRecursion (IsPtr root.limits.devices root.limits.places) placed
    → after.limits ≡ root.limits → after.tree ≡ next_tree job placed root.tree → HasTreeOf to after
tree_of_job root after from to job placed has is long fit limits_are tree_is =
    let P : Ptr → Ptr → Type 0 = FitsIn root.limits in
    let all : List Ptr = placed_by_all by_bytes to.pool job.changes in
    let made : IsAlike P (made_in job.changes placed root.tree) (made_in job.changes all (tree_of root.tree.group by_bytes from.areas from.pool)) =
    made_alike P job.changes placed all root.tree (tree_of root.tree.group by_bytes from.areas from.pool)
    (placed_right (IsPtr root.limits.devices root.limits.places) to.pool job.changes placed is.stand long fit) (omega (arith, long)) has in
    let next : IsAlike P (made_in job.changes placed root.tree) (tree_of root.tree.group by_bytes to.areas to.pool) =
    subst (λ (other : Tree). IsAlike P (made_in job.changes placed root.tree) other) (is.leads by_bytes root.tree.group) made in
    let with_group : IsAlike P (next_tree job placed root.tree) (tree_of job.group by_bytes to.areas to.pool) = record { next_dataset = next.next_dataset; datasets = next.datasets } in
    let there : IsAlike P after.tree (tree_of after.tree.group by_bytes to.areas to.pool) =
    subst (λ (tree : Tree). IsAlike P tree (tree_of tree.group by_bytes to.areas to.pool)) (sym tree_is) with_group in
    subst (λ (limits : Limits). IsAlike (FitsIn limits) after.tree (tree_of after.tree.group by_bytes to.areas to.pool)) (sym limits_are) there

-- so a commit may have the next tree
pub next_datasets : (root : Root) (from to : Base) (job : Sealed) (placed : List Ptr) → IsBase root.limits to → HasTreeOf from root → IsJob from to job
    → length placed ≡ length (filter is_made job.changes) → AllByRecursion (IsPtr root.limits.devices root.limits.places) placed
    → HasDatasets root.limits.devices root.limits.places job.group (next_tree job placed root.tree)
next_datasets root from to job placed base has is long fit =
    let after : Root = record root { tree = next_tree job placed root.tree } in
    datasets_of_tree job.group after to base (tree_of_job root after from to job placed has is long fit refl refl)
