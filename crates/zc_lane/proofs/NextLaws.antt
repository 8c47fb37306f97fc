-- What a job writes: its group may follow the state, and the state that it leads to holds the pool that the job leads to.
use Rattle.std.proofs.Common.{◌≡◌, ◌∙◌, ◌⊎◌, ℕ, ◌+◌, ◌≤◌, true, IsTrue, List, [], ◌++◌, length, map, filter, refl, sym, ap, subst, inl, inr, ⊎_elim, arith}
use Rattle.std.specs.List.{AllByRecursion, Contains}
use Rattle.std.proofs.lemmas.List.Elements.{All-contains_itself, recursion_from_All}
use Rattle.zc_num.specs.declared.numbers.PlaceAt.{PlaceAt}
use Rattle.zc_blkptr.specs.Ptr.{IsPtr}
use Rattle.zc_blkptr.specs.declared.ptr.Ptr.{Ptr}
use Rattle.zc_tape.specs.Tape.{Shape, Tape}
use Rattle.zc_tree.specs.Reach.{pointers_of_tree}
use Rattle.zc_tree.specs.Catalogue.{AreDatasets}
use Rattle.zc_tree.specs.declared.tree.Tree.{Tree}
use Rattle.zc_damage.specs.declared.block.FoundBlock.{FoundBlock}
use Rattle.zc_damage.specs.Places.{bytes_in}
use Rattle.zc_damage.proofs.EarlyLaws.{each_weaker, birth_none}
use Rattle.zc_layout.specs.Layout.{owns}
use Rattle.zc_state.specs.State.{State, IsState, StandsFor, block_places, put_of}
use Rattle.zc_state.proofs.BlockLaws.{all_mapped, pointers_owned}
use Rattle.zc_next.specs.Next.{next_blocks, IsKept, IsWritten}
use Rattle.zc_next.proofs.BlockLists.{holds_there, places_of_gathered, bytes_of_gathered}
use Rattle.zc_next.proofs.TreePointers.{datasets_have_ptrs, IsSameAt}
use Rattle.zc_plain.specs.declared.plain_pool.PlainPool.{PlainPool}
use Rattle.zc_heart.specs.declared.changes.Sealed.{Sealed}
use Rattle.zc_heart.specs.Changes.{is_made, tree_of}
use Rattle.zc_apply.specs.Alike.{by_bytes, HasBytes, Holds, ArePlaced}
use Rattle.zc_apply.proofs.AlikeLaws.{alike_weaker, pointers_of_made}
use Rattle.zc_apply.proofs.DatasetLaws.{HasDatasets}
use Rattle.zc_apply.proofs.HoldLaws.{next_holds}
use Rattle.zc_group.specs.declared.root.Root.{Root}
use Rattle.zc_group.specs.Committed.{state_after, MayFollow, MayCommit, LeavesEither, IsCommitted}
use Rattle.zc_heart.specs.Core.{Base}
use Rattle.zc_apply.specs.Jobs.{IsJob}
use Rattle.zc_lane.specs.Jobs.{HasTreeOf, IsNextWith, LeavesJob, IsJobDone}
use Rattle.zc_lane.specs.Placed.{ptr_to, next_tree, IsPlaced, IsPrepared}
use Rattle.zc_lane.proofs.PlacedLaws.{new_places_are, old_bytes, new_bytes, bytes_placed, pointers_long, all_written, pointers_fit}
use Rattle.zc_lane.proofs.TailLaws.{tails_none, logs_none}
use Rattle.zc_lane.proofs.TreeLaws.{tree_of_rooted, tree_of_job, next_datasets}

-- ---- the next tree of a state

module _ (shape : Shape) (s : State) (from to : Base) (job : Sealed) (new : List FoundBlock) (placed : List Ptr) (is : IsPlaced shape s job new placed) where
  -- the bytes of each put stand at its pointer
  are_placed : ArePlaced (bytes_in (new ++ s.blocks)) job.changes placed
  are_placed =
      subst (ArePlaced (bytes_in (new ++ s.blocks)) job.changes) (sym is.pointers) (bytes_placed (bytes_in (new ++ s.blocks)) job.group job.changes new is.bytes (new_bytes shape s new is.blocks))

  long : length placed ≡ length (filter is_made job.changes)
  long = ap (λ (ptrs : List Ptr). length ptrs) is.pointers ∙ pointers_long job.group job.changes new is.bytes

  -- with the new blocks too the tree holds what it held
  still_held : (areas : List ℕ) (pool : PlainPool) → Holds (bytes_in s.blocks) areas pool s.parts.tree → Holds (bytes_in (new ++ s.blocks)) areas pool s.parts.tree
  still_held areas pool holds =
      alike_weaker (HasBytes (bytes_in s.blocks)) (HasBytes (bytes_in (new ++ s.blocks))) s.parts.tree (tree_of s.parts.tree.group by_bytes areas pool)
      (λ ptr other among has. old_bytes shape s new ptr is.blocks among ∙ has) holds

  -- and the next tree holds what the job leads to
  held_next : IsJob from to job → Holds (bytes_in s.blocks) from.areas from.pool s.parts.tree → Holds (bytes_in (new ++ s.blocks)) to.areas to.pool (next_tree job placed s.parts.tree)
  held_next leads holds =
      next_holds (bytes_in (new ++ s.blocks)) from.areas to.areas from.pool to.pool job.changes s.parts.tree placed job.group
      (λ group. leads.leads by_bytes group) leads.stand (still_held from.areas from.pool holds) are_placed

  -- each pointer of the next tree was kept, or names a new block
  abbrev IsEither : Ptr → Type 0
  IsEither ptr = IsKept job.group (pointers_of_tree s.parts.tree) ptr ⊎ IsWritten job.group new ptr

  kept : IsState shape s → job.group ≡ s.body.group + 1 → (ptr : Ptr) → Contains (pointers_of_tree s.parts.tree) ptr → IsKept job.group (pointers_of_tree s.parts.tree) ptr
  kept state group_is ptr among =
      let reach : List Ptr = pointers_of_tree s.parts.tree in
      let low : ptr.logical ≤ s.parts.tree.group = holds_there (λ (p : Ptr). p.logical ≤ s.parts.tree.group) reach ptr (birth_none s.parts.tree.group reach state.births) among in
      let same : s.parts.tree.group ≡ s.body.group = state.parts.group_is in
      record { before = ptr; there = among; device_same = refl; place_same = refl; physical_same = refl; digest_same = refl; no_later = omega (arith, low, same, group_is) }

  named : (ptr : Ptr) → Contains placed ptr → IsWritten job.group new ptr
  named ptr among = holds_there (IsWritten job.group new) placed ptr (subst (AllByRecursion (IsWritten job.group new)) (sym is.pointers) (all_written job.group new)) among

  pointers_next : IsState shape s → job.group ≡ s.body.group + 1 → AllByRecursion IsEither (pointers_of_tree (next_tree job placed s.parts.tree))
  pointers_next state group_is =
      let reach : List Ptr = pointers_of_tree (next_tree job placed s.parts.tree) in
      let enough : length (filter is_made job.changes) ≤ length placed = omega (arith, long) in
      each_weaker (Contains reach) IsEither
      (λ ptr among.
      ⊎_elim
      (λ (old : Contains (pointers_of_tree s.parts.tree) ptr). inl (kept state group_is ptr old))
      (λ (one : Contains placed ptr). inr (named ptr one))
      (pointers_of_made job.changes placed s.parts.tree enough ptr among))
      reach (recursion_from_All (Contains reach) reach (All-contains_itself reach))

-- a tree whose blocks were gathered holds what it held with all of them
gathered_holds : (shape : Shape) (s : State) (areas : List ℕ) (pool : PlainPool) (tree : Tree) (new : List FoundBlock)
    → AreDatasets shape.devices shape.places tree.group tree.next_dataset [] tree.datasets → Holds (bytes_in (new ++ s.blocks)) areas pool tree
    → Holds (bytes_in (next_blocks shape tree new s.blocks)) areas pool tree
gathered_holds shape s areas pool tree new datasets holds =
    let reach : List Ptr = pointers_of_tree tree in
    let places : List PlaceAt = block_places shape.devices shape.places reach in
    let blocks : List FoundBlock = next_blocks shape tree new s.blocks in
    let same : AllByRecursion (IsSameAt (bytes_in blocks) (bytes_in (new ++ s.blocks))) reach =
    all_mapped (λ (ptr : Ptr). owns (map put_of blocks) ptr.device ptr.place ≡ true) (IsSameAt (bytes_in blocks) (bytes_in (new ++ s.blocks))) reach
    (λ ptr there. bytes_of_gathered places (new ++ s.blocks) ptr.device ptr.place there)
    (pointers_owned shape.devices shape.places reach blocks
    (datasets_have_ptrs shape.devices shape.places tree.group tree.next_dataset [] tree.datasets datasets) (places_of_gathered places (new ++ s.blocks))) in
    alike_weaker (HasBytes (bytes_in (new ++ s.blocks))) (HasBytes (bytes_in blocks)) tree (tree_of tree.group by_bytes areas pool)
    (λ ptr other among has. holds_there (IsSameAt (bytes_in blocks) (bytes_in (new ++ s.blocks))) reach ptr same among ∙ has) holds

-- ---- a job that is prepared

module _ (shape : Shape) (t : Tape) (s : State) (root : Root) (from to : Base) (job : Sealed) (new : List FoundBlock) (placed : List Ptr) (is : IsPrepared shape t s root from to job new placed) where
  abbrev next : Tree
  next = next_tree job placed root.tree

  state : IsState shape s
  state = is.rooted.keeps.stands.state

  -- what is so of the tree of the state is so of the root's
  here : (P : Tree → Type 0) → P s.parts.tree → P root.tree
  here P there = subst P (sym is.rooted.keeps.tree_is) there

  -- the next tree holds the pool that the job leads to, over the new blocks and the old ones
  pub next_is_held : Holds (bytes_in (new ++ s.blocks)) to.areas to.pool next
  next_is_held = here (λ (tree : Tree). Holds (bytes_in (new ++ s.blocks)) to.areas to.pool (next_tree job placed tree)) (held_next shape s from to job new placed is.blocks is.leads is.rooted.holds)

  -- each of its pointers was kept, or names a new block
  pub pointers_follow : AllByRecursion (λ (ptr : Ptr). IsKept next.group (pointers_of_tree s.parts.tree) ptr ⊎ IsWritten next.group new ptr) (pointers_of_tree next)
  pointers_follow =
      here (λ (tree : Tree). AllByRecursion (λ (ptr : Ptr). IsKept job.group (pointers_of_tree s.parts.tree) ptr ⊎ IsWritten job.group new ptr) (pointers_of_tree (next_tree job placed tree)))
      (pointers_next shape s from to job new placed is.blocks state is.group_is)

  -- a pool may have the pointers to the new blocks
  pub placed_fit : AllByRecursion (IsPtr root.limits.devices root.limits.places) placed
  placed_fit =
      let some : 1 ≤ job.group = omega (arith, is.group_is) in
      let fit : AllByRecursion (IsPtr shape.devices shape.places) (map (ptr_to job.group) new) =
      pointers_fit shape.devices shape.places job.group new state.size some is.group_width (new_places_are shape s new is.blocks.blocks) in
      let on : AllByRecursion (IsPtr root.limits.devices shape.places) (map (ptr_to job.group) new) =
      subst (λ (devices : ℕ). AllByRecursion (IsPtr devices shape.places) (map (ptr_to job.group) new)) (sym is.rooted.keeps.size.devices) fit in
      let both : AllByRecursion (IsPtr root.limits.devices root.limits.places) (map (ptr_to job.group) new) =
      subst (λ (places : ℕ). AllByRecursion (IsPtr root.limits.devices places) (map (ptr_to job.group) new)) (sym is.rooted.keeps.size.places) on in
      subst (AllByRecursion (IsPtr root.limits.devices root.limits.places)) (sym is.blocks.pointers) both

  -- a root with the next tree has the tree of that pool
  pub next_has_tree : (after : Root) → after.limits ≡ root.limits → after.tree ≡ next → HasTreeOf to after
  next_has_tree after limits_are tree_is =
      tree_of_job root after from to job placed (tree_of_rooted shape t s root from is.rooted) is.leads (long shape s from to job new placed is.blocks) placed_fit limits_are tree_is

  has_datasets : HasDatasets shape.devices shape.places job.group next
  has_datasets =
      let there : HasDatasets root.limits.devices root.limits.places job.group next =
      next_datasets root from to job placed is.base (tree_of_rooted shape t s root from is.rooted) is.leads (long shape s from to job new placed is.blocks) placed_fit in
      subst (λ (places : ℕ). HasDatasets shape.devices places job.group next) is.rooted.keeps.size.places
      (subst (λ (devices : ℕ). HasDatasets devices root.limits.places job.group next) is.rooted.keeps.size.devices there)

  enough_areas : length to.pool.datasets ≤ length to.areas
  enough_areas = omega (arith, is.base.areas.count)

  -- the group may follow the state
  pub may_follow : MayFollow shape s next new
  may_follow = record {
    group_is = is.group_is;
    group_width = is.group_width;
    some_next_dataset = has_datasets.some_next;
    next_dataset_width = has_datasets.next_width;
    few_datasets = has_datasets.few;
    datasets = has_datasets.datasets;
    no_logs = logs_none shape.devices shape.places (bytes_in (new ++ s.blocks)) to.areas to.pool next next_is_held;
    new_blocks = is.blocks.blocks;
    pointers = pointers_follow;
    tails = tails_none (bytes_in (new ++ s.blocks)) to.areas to.pool next is.base.plain enough_areas next_is_held;
  }

  pub may_commit : MayCommit shape t s root next new
  may_commit = record { told = is.rooted.told; at_rest = is.rooted.at_rest; keeps = is.rooted.keeps; follows = may_follow }

  -- the state that it leads to holds that pool
  pub held_after : Holds (bytes_in (state_after shape s next new).blocks) to.areas to.pool (state_after shape s next new).parts.tree
  held_after = gathered_holds shape s to.areas to.pool next new has_datasets.datasets next_is_held

  pub next_with : IsNextWith shape s (state_after shape s next new) to
  next_with = record { group_is = is.group_is; holds = held_after }

  -- what a commit leaves is what the job may leave
  pub job_leaves : (u : Tape) → LeavesEither shape s (state_after shape s next new) t u → LeavesJob shape s to t u
  job_leaves u leaves i image first last may =
      ⊎_elim
      (λ (old : StandsFor shape image s). inl old)
      (λ (later : StandsFor shape image (state_after shape s next new)). inr (state_after shape s next new, later, next_with))
      (leaves i image first last may)

  -- and once it is done, the job is
  pub job_done : (u : Tape) (after : Root) → IsTrue u.told → IsCommitted shape u (state_after shape s next new) after → IsJobDone shape u s (state_after shape s next new) after to
  job_done u after told done = record {
    rooted = record { told = told; at_rest = done.at_rest; keeps = done.keeps; holds = held_after };
    next_with = next_with;
    only = done.only_next;
  }
