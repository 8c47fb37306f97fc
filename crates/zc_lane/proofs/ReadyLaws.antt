-- A job that is ready: a commit may have its tree and its blocks, whatever the disks tell, and what the commit leaves is what the job may leave.
use Rattle.std.proofs.Common.{◌≡◌, ◌∙◌, ◌⊎◌, ℕ, ◌+◌, ◌^◌, ◌<◌, ◌≤◌, IsTrue, List, [], length, map, filter, sym, ap, subst, inl, arith}
use Rattle.std.specs.Prelude.{count_by}
use Rattle.std.specs.List.{AllByRecursion}
use Rattle.zc_blkptr.specs.Ptr.{IsPtr}
use Rattle.zc_blkptr.specs.declared.ptr.Ptr.{Ptr}
use Rattle.zc_tape.specs.Tape.{Shape, Tape}
use Rattle.zc_tape.specs.Crash.{May, reads}
use Rattle.zc_tape.proofs.CrashKinds.{may_is_kind}
use Rattle.zc_root.specs.declared.body.Body.{Body}
use Rattle.zc_tree.specs.Reach.{pointers_of_tree}
use Rattle.zc_tree.specs.declared.tree.Tree.{Tree}
use Rattle.zc_layout.proofs.GroupCrash.{each_crash_as_read}
use Rattle.zc_layout.proofs.StandingLaws.{stands_where_same}
use Rattle.zc_damage.specs.declared.block.FoundBlock.{FoundBlock}
use Rattle.zc_damage.specs.Places.{ChainPlaces}
use Rattle.zc_state.specs.State.{State, StandsFor, AreChainPlaces, place_of_block, standing_of}
use Rattle.zc_next.specs.Next.{AreNewBlocks}
use Rattle.zc_heart.specs.declared.changes.Sealed.{Sealed}
use Rattle.zc_heart.specs.Changes.{is_made}
use Rattle.zc_heart.specs.Core.{Base}
use Rattle.zc_apply.proofs.DatasetLaws.{HasDatasets}
use Rattle.zc_group.specs.Chosen.{free_places}
use Rattle.zc_group.specs.Committed.{state_after, MayCommit, LeavesEither, IsCommitted}
use Rattle.zc_group.specs.declared.root.Root.{Root}
use Rattle.zc_group.proofs.ChosenLaws.{chosen_places, chain_there}
use Rattle.zc_apply.specs.Jobs.{IsJob, IsBase}
use Rattle.zc_lane.specs.Jobs.{HasTreeOf, MayWrite, IsRooted, IsNextWith, LeavesJob, IsJobDone}
use Rattle.zc_lane.specs.Placed.{bytes_made, free_after, next_tree, IsReady, IsPrepared}
use Rattle.zc_lane.proofs.PlacedLaws.{chosen_are_new, made_counted, pointers_long, pointers_fit}
use Rattle.zc_lane.proofs.TreeLaws.{next_datasets, tree_of_job}
use Rattle.zc_lane.proofs.NextLaws.{may_commit, job_leaves, job_done}

-- where nothing was written, the state stands
pub leaves_unwritten : (shape : Shape) (t : Tape) (s : State) (root : Root) (from to : Base) → IsRooted shape t s root from → LeavesJob shape s to t t
leaves_unwritten shape t s root from to rooted =
    each_crash_as_read May t (λ image. StandsFor shape image s ⊎ ((next : State) × StandsFor shape image next × IsNextWith shape s next to)) may_is_kind rooted.at_rest
    (λ image same. inl (record { state = rooted.keeps.stands.state; stands = stands_where_same (reads t) image (standing_of s) same rooted.keeps.stands.stands }))

module _ (root : Root) (job : Sealed) (tree : Tree) (new : List FoundBlock) (placed : List Ptr) (is : IsReady root job tree new placed) where
  abbrev count : ℕ
  count = length (bytes_made job.changes)

  are_chain_places : AreChainPlaces root.limits.devices root.limits.places (map place_of_block new)
  are_chain_places =
      subst (AreChainPlaces root.limits.devices root.limits.places) (sym is.places)
      (chosen_places root.limits.devices root.limits.places root.chain (pointers_of_tree root.tree) root.limits.are_limits count)

  -- the pool has the places of the new blocks
  pub places_there : ChainPlaces root.limits.devices root.limits.places (map place_of_block new)
  places_there = chain_there root.limits.devices root.limits.places (map place_of_block new) are_chain_places

  long : length placed ≡ length (filter is_made job.changes)
  long = ap (λ (ptrs : List Ptr). length ptrs) is.pointers ∙ pointers_long job.group job.changes new is.bytes

  -- there is a pointer for each block that the job makes
  pub placed_counted : length placed ≡ count_by is_made job.changes
  placed_counted = ap (λ (ptrs : List Ptr). length ptrs) is.pointers ∙ made_counted job.group job.changes new is.bytes

  module _ (group_is : job.group ≡ root.body.group + 1) (width : job.group < 2 ^ 64) where
    fit : AllByRecursion (IsPtr root.limits.devices root.limits.places) placed
    fit =
        let some : 1 ≤ job.group = omega (arith, group_is) in
        subst (AllByRecursion (IsPtr root.limits.devices root.limits.places)) (sym is.pointers)
        (pointers_fit root.limits.devices root.limits.places job.group new root.limits.are_limits some width are_chain_places)

    -- whatever the disks tell, a commit may have the tree
    pub datasets_of_ready : MayWrite root job → HasDatasets root.limits.devices root.limits.places tree.group tree
    datasets_of_ready may =
        subst (λ (next : Tree). HasDatasets root.limits.devices root.limits.places next.group next) (sym is.tree_is)
        (next_datasets root may.from may.to job placed may.base may.has_tree may.leads long fit)

    -- and a root with that tree has the tree of the pool that the job leads to
    pub tree_of_ready : (after : Root) → after.limits ≡ root.limits → after.tree ≡ tree → (from to : Base) → IsBase root.limits to → HasTreeOf from root → IsJob from to job → HasTreeOf to after
    tree_of_ready after limits_are tree_is from to base has leads = tree_of_job root after from to job placed has leads long fit limits_are (tree_is ∙ is.tree_is)

    module _ (shape : Shape) (t : Tape) where
      -- the new blocks are at places that the state leaves free
      are_new : (s : State) (from : Base) → IsRooted shape t s root from → AreNewBlocks shape s [] new
      are_new s from rooted =
          let same : free_after root count ≡ free_places shape.devices shape.places s.chain (pointers_of_tree s.parts.tree) count =
          λ i. free_places (rooted.keeps.size.devices i) (rooted.keeps.size.places i) (rooted.keeps.chain_is i) (pointers_of_tree (rooted.keeps.tree_is i)) count in
          chosen_are_new shape s count new rooted.keeps.stands.state.size (is.places ∙ same)

      prepared : (s : State) (from to : Base) → IsRooted shape t s root from → IsBase root.limits to → IsJob from to job → IsPrepared shape t s root from to job new placed
      prepared s from to rooted base leads = record {
        rooted = rooted;
        base = base;
        leads = leads;
        blocks = record { blocks = are_new s from rooted; bytes = is.bytes; pointers = is.pointers };
        group_is = group_is ∙ ap (λ (body : Body). body.group + 1) rooted.keeps.body_is;
        group_width = width;
      }

      -- what a commit leaves is what the job may leave
      pub leaves_of_ready : (u : Tape) → ((s : State) → MayCommit shape t s root tree new → LeavesEither shape s (state_after shape s tree new) t u)
          → (s : State) (from to : Base) → IsRooted shape t s root from → IsBase root.limits to → IsJob from to job → LeavesJob shape s to t u
      leaves_of_ready u leaves s from to rooted base leads =
          let is_prepared = prepared s from to rooted base leads in
          let next : Tree = next_tree job placed root.tree in
          let either : MayCommit shape t s root next new → LeavesEither shape s (state_after shape s next new) t u =
          subst (λ (one : Tree). MayCommit shape t s root one new → LeavesEither shape s (state_after shape s one new) t u) is.tree_is (leaves s) in
          job_leaves shape t s root from to job new placed is_prepared u (either (may_commit shape t s root from to job new placed is_prepared))

      -- and once it is done, the job is
      pub done_of_ready : (u : Tape) (after : Root) → u.told ≡ t.told → ((s : State) → MayCommit shape t s root tree new → IsCommitted shape u (state_after shape s tree new) after)
          → (s : State) (from to : Base) → IsRooted shape t s root from → IsBase root.limits to → IsJob from to job → (next : State) × IsJobDone shape u s next after to
      done_of_ready u after told committed s from to rooted base leads =
          let is_prepared = prepared s from to rooted base leads in
          let next : Tree = next_tree job placed root.tree in
          let is_committed : MayCommit shape t s root next new → IsCommitted shape u (state_after shape s next new) after =
          subst (λ (one : Tree). MayCommit shape t s root one new → IsCommitted shape u (state_after shape s one new) after) is.tree_is (committed s) in
          let is_told : IsTrue u.told = told ∙ rooted.told in (
            state_after shape s next new,
            job_done shape t s root from to job new placed is_prepared u after is_told (is_committed (may_commit shape t s root from to job new placed is_prepared)),
          )
