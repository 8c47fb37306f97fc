-- What an import leaves on the disks: wherever it is cut short, the files that stood there; and once it is Ok, the pool runs from them on.
use Rattle.std.proofs.Common.{◌≡◌, ◌∙◌, ℕ, ◌+◌, ◌*◌, ◌-◌, ◌^◌, Bool, true, true≢false, cond, List, [], ◌∷◌, ◌++◌, map, length, drop, Option, Some, None, IsTrue, refl, sym, ap, ap₂, subst, ⊎_elim, arith}
use Rattle.std.specs.List.{AllByRecursion}
use Rattle.zc_num.specs.Ordered.{value_at}
use Rattle.zc_num.specs.declared.limits.Limits.{Limits}
use Rattle.zc_num.proofs.Each.{each_same}
use Rattle.zc_blkptr.specs.declared.ptr.Ptr.{Ptr}
use Rattle.zc_tape.specs.Tape.{Image, Shape, Tape, Made as MadeCall}
use Rattle.zc_tape.specs.Crash.{May, AtRest, reads}
use Rattle.zc_tree.specs.declared.tree.File.{File}
use Rattle.zc_tree.specs.declared.tree.Dataset.{Dataset}
use Rattle.zc_tree.specs.declared.tree.Tree.{Tree}
use Rattle.zc_tree.specs.Reach.{pointers_of_file, pointers_of_files, pointers_of_datasets, pointers_of_tree}
use Rattle.zc_plan.specs.Counted.{AllMade}
use Rattle.zc_damage.specs.declared.block.FoundBlock.{FoundBlock}
use Rattle.zc_damage.specs.Places.{bytes_in}
use Rattle.zc_damage.proofs.EarlyLaws.{each_weaker, each_image}
use Rattle.zc_layout.specs.Layout.{owns}
use Rattle.zc_state.specs.State.{State, IsState, StandsFor, block_places, put_of}
use Rattle.zc_state.proofs.Pointers.{parts_have_ptrs}
use Rattle.zc_state.proofs.BlockLaws.{pointers_owned}
use Rattle.zc_next.specs.Next.{blocks_at, later_tree}
use Rattle.zc_next.proofs.BlockLists.{holds_there, places_of_gathered, bytes_of_gathered}
use Rattle.zc_plain.specs.declared.plain_pool.PlainBlock.TheVariants.{Made}
use Rattle.zc_plain.specs.declared.plain_pool.PlainPool.{PlainPool}
use Rattle.zc_plain.specs.PlainPool.{blocks_of_size}
use Rattle.zc_heart.specs.Changes.{tree_of}
use Rattle.zc_heart.specs.Core.{pool_of, areas_of, base_of}
use Rattle.zc_heart.specs.Meaning.{found_block, found_file, found_dataset, found_pool}
use Rattle.zc_heart.proofs.RowLaws.{value_has}
use Rattle.zc_apply.specs.Alike.{by_bytes, HasBytes, Holds}
use Rattle.zc_apply.proofs.AlikeLaws.{alike_weaker}
use Rattle.zc_group.specs.declared.import.Imported.{Imported}
use Rattle.zc_group.specs.declared.import.ImportFault.{ImportFault}
use Rattle.zc_group.specs.declared.import.ImportFault.TheVariants.{NoMemory, NoPool, DiskFault, Damaged}
use Rattle.zc_group.specs.declared.root.Root.{Root}
use Rattle.zc_group.specs.Kept.{HasSize, HasPlaces}
use Rattle.zc_group.specs.Committed.{LeavesEither}
use Rattle.zc_group.specs.Imported.{claimed_state, IsTaken, IsTakenUp}
use Rattle.zc_group.specs.Imported as group
use Rattle.zc_lane.specs.Found.{plain_block, plain_file, plain_dataset, found_in, files_under}
use Rattle.zc_lane.specs.Jobs.{IsRooted}
use Rattle.zc_open.specs.declared.open_pool.OpenPool.{OpenPool}
use Rattle.zc_open.specs.Acked.{AreAcks}
use Rattle.zc_open.specs.Events.{begun_pool}
use Rattle.zc_open.specs.Points.{Point}
use Rattle.zc_open.proofs.AckLaws.{acks_begun}
use Rattle.zc_pool.specs.Importing.{heart_block, IsHeld}
use Rattle.zc_pool.specs.Opened.{run_from, IsNew, IsOpenedFrom, IsBeforeClaim}
use Rattle.zc_pool.specs.Running.{Run, IsKept, IsPool, first_failed_from, IsSurvivor, Survives, IsOnDisks}
use Rattle.zc_pool.proofs.FoundPool.{bytes_are}
use Rattle.zc_pool.proofs.StartLaws.{core_holds, kept_begins}
use Rattle.zc_pool.proofs.SurvivesLaws.{each_prefix}

-- what holds of the items of two lists in a row holds of those of each
all_front : {X : Type 0} (P : X → Type 0) (xs ys : List X) → AllByRecursion P (xs ++ ys) → AllByRecursion P xs
all_front P [] ys all = tt
all_front P (x ∷ xs) ys all = (all.0, all_front P xs ys all.1)

all_back : {X : Type 0} (P : X → Type 0) (xs ys : List X) → AllByRecursion P (xs ++ ys) → AllByRecursion P ys
all_back P [] ys all = all
all_back P (x ∷ xs) ys all = all_back P xs ys all.1

-- ---- what is found in memory is what the state holds

block_found : (blocks : List FoundBlock) (slot : Option Ptr) → found_block (map heart_block blocks) slot ≡ plain_block blocks slot
block_found blocks None = refl
block_found blocks (Some ptr) = ap (λ (at : ℕ → ℕ → List ℕ). Made 0 (ptr.device * 2 ^ 32 + ptr.place) (at ptr.device ptr.place)) (bytes_are blocks)

file_found : (blocks : List FoundBlock) (file : File) → found_file (map heart_block blocks) file ≡ plain_file blocks file
file_found blocks file =
    let same = each_same (blocks_of_size file.size) (λ k. found_block (map heart_block blocks) (value_at k file.slots)) (λ k. plain_block blocks (value_at k file.slots)) (λ k within. block_found blocks (value_at k file.slots)) in
    λ i. record { id = file.id; name = file.name; size = file.size; blocks = same i }

files_found : (blocks : List FoundBlock) (files : List File) → map (found_file (map heart_block blocks)) files ≡ map (plain_file blocks) files
files_found blocks [] = refl
files_found blocks (file ∷ files) = λ i. file_found blocks file i ∷ files_found blocks files i

datasets_found : (blocks : List FoundBlock) (datasets : List Dataset) → map (found_dataset (map heart_block blocks)) datasets ≡ map (plain_dataset blocks) datasets
datasets_found blocks [] = refl
datasets_found blocks (dataset ∷ datasets) =
    λ i. record { id = dataset.id; name = dataset.name; next_file = dataset.next_file; files = files_found blocks dataset.files i } ∷ datasets_found blocks datasets i

pool_found : (limits : Limits) (s : State) (tree : Tree) (blocks : List FoundBlock) → tree ≡ later_tree s → blocks ≡ s.blocks → found_pool limits tree (map heart_block blocks) ≡ found_in limits s
pool_found limits s tree blocks tree_is blocks_are =
    ap₂ (λ (one : Tree) (some : List FoundBlock). found_pool limits one (map heart_block some)) tree_is blocks_are
    ∙ (λ i. record { limits = limits; next_dataset = s.parts.tree.next_dataset; datasets = datasets_found s.blocks s.parts.tree.datasets i })

-- ---- the state of the claim group holds the same files

-- the bytes at the pointer are the same in both
abbrev HasSameBytes : List FoundBlock → List FoundBlock → Ptr → Type 0
HasSameBytes new old ptr = bytes_in new ptr.device ptr.place ≡ bytes_in old ptr.device ptr.place

block_kept : (new old : List FoundBlock) (slot : Option Ptr) → ((ptr : Ptr) → slot ≡ Some ptr → HasSameBytes new old ptr) → plain_block new slot ≡ plain_block old slot
block_kept new old None same = refl
block_kept new old (Some ptr) same = ap (Made 0 (ptr.device * 2 ^ 32 + ptr.place)) (same ptr refl)

file_kept : (new old : List FoundBlock) (file : File) → AllByRecursion (HasSameBytes new old) (pointers_of_file file) → plain_file new file ≡ plain_file old file
file_kept new old file same =
    let slots : AllByRecursion (λ (slot : ℕ × Ptr). HasSameBytes new old slot.1) file.slots = each_image (HasSameBytes new old) (λ (slot : ℕ × Ptr). slot.1) file.slots same in
    let blocks =
    each_same (blocks_of_size file.size) (λ k. plain_block new (value_at k file.slots)) (λ k. plain_block old (value_at k file.slots))
    (λ k within. block_kept new old (value_at k file.slots) (λ ptr there. value_has (HasSameBytes new old) k file.slots ptr slots there)) in
    λ i. record { id = file.id; name = file.name; size = file.size; blocks = blocks i }

files_kept : (new old : List FoundBlock) (files : List File) → AllByRecursion (HasSameBytes new old) (pointers_of_files files) → map (plain_file new) files ≡ map (plain_file old) files
files_kept new old [] same = refl
files_kept new old (file ∷ files) same =
    let first = file_kept new old file (all_front (HasSameBytes new old) (pointers_of_file file) (pointers_of_files files) same) in
    let rest = files_kept new old files (all_back (HasSameBytes new old) (pointers_of_file file) (pointers_of_files files) same) in
    λ i. first i ∷ rest i

datasets_kept : (new old : List FoundBlock) (datasets : List Dataset) → AllByRecursion (HasSameBytes new old) (pointers_of_datasets datasets) → map (plain_dataset new) datasets ≡ map (plain_dataset old) datasets
datasets_kept new old [] same = refl
datasets_kept new old (dataset ∷ datasets) same =
    let files = files_kept new old dataset.files (all_front (HasSameBytes new old) (pointers_of_files dataset.files) (pointers_of_datasets datasets) same) in
    let rest = datasets_kept new old datasets (all_back (HasSameBytes new old) (pointers_of_files dataset.files) (pointers_of_datasets datasets) same) in
    λ i. record { id = dataset.id; name = dataset.name; next_file = dataset.next_file; files = files i } ∷ rest i

module _ (shape : Shape) (s : State) (is : IsState shape s) where
  abbrev reach : List Ptr
  reach = pointers_of_tree s.parts.tree

  claimed_bytes : AllByRecursion (HasSameBytes (claimed_state shape s).blocks s.blocks) reach
  claimed_bytes =
      let there = block_places shape.devices shape.places reach in
      each_weaker (λ (ptr : Ptr). owns (map put_of (blocks_at there s.blocks)) ptr.device ptr.place ≡ true) (HasSameBytes (claimed_state shape s).blocks s.blocks)
      (λ ptr owned. bytes_of_gathered there s.blocks ptr.device ptr.place owned) reach
      (pointers_owned shape.devices shape.places reach (blocks_at there s.blocks) (parts_have_ptrs shape.devices shape.places s.body.group s.body.next_dataset s.parts is.parts) (places_of_gathered there s.blocks))

  pub claimed_found : (limits : Limits) → found_in limits (claimed_state shape s) ≡ found_in limits s
  claimed_found limits =
      let datasets = datasets_kept (claimed_state shape s).blocks s.blocks s.parts.tree.datasets claimed_bytes in
      λ i. record { limits = limits; next_dataset = s.parts.tree.next_dataset; datasets = datasets i }

  -- what its tree holds, it holds over the bytes of the claim group too
  claimed_holds : (areas : List ℕ) (pool : PlainPool) (tree : Tree) (blocks : List FoundBlock) → tree ≡ later_tree s → blocks ≡ s.blocks → Holds (bytes_in blocks) areas pool tree
      → Holds (bytes_in (claimed_state shape s).blocks) areas pool (claimed_state shape s).parts.tree
  claimed_holds areas pool tree blocks tree_is blocks_are holds =
      let here : Holds (bytes_in s.blocks) areas pool (later_tree s) =
      subst (λ (some : List FoundBlock). Holds (bytes_in some) areas pool (later_tree s)) blocks_are (subst (λ (one : Tree). Holds (bytes_in blocks) areas pool one) tree_is holds) in
      alike_weaker (HasBytes (bytes_in s.blocks)) (HasBytes (bytes_in (claimed_state shape s).blocks)) (later_tree s) (tree_of (later_tree s).group by_bytes areas pool)
      (λ ptr other among has. holds_there (HasSameBytes (claimed_state shape s).blocks s.blocks) reach ptr claimed_bytes among ∙ has) here

-- ---- wherever it is cut short

survivor : (shape : Shape) (limits : Limits) (s : State) (start : PlainPool) (calls : ℕ) (image : Image) → StandsFor shape image s → found_in limits s ≡ start → IsSurvivor shape limits start [] [] calls image
survivor shape limits s start calls image stands same = record {
  state = s;
  stands = stands;
  each_name = each_prefix (found_in limits s) start [] [] calls 0 (omega arith) (λ name. ap (files_under name) same) tt;
}

-- each moment leaves the files that stood there
pub begun_survives : (shape : Shape) (t u : Tape) (s : State) (limits : Limits) → StandsFor shape (reads t) s → LeavesEither shape s (claimed_state shape s) t u
    → Survives May shape u (length t.calls) limits (found_in limits s) [] []
begun_survives shape t u s limits stands leaves = λ i image from to crash.
    ⊎_elim
    (λ (old : StandsFor shape image s). survivor shape limits s (found_in limits s) (i - length t.calls) image old refl)
    (λ (new : StandsFor shape image (claimed_state shape s)). survivor shape limits (claimed_state shape s) (found_in limits s) (i - length t.calls) image new (claimed_found shape s stands.state limits))
    (leaves i image from to crash)

-- ---- once it is Ok

-- no call failed
none_failed : (n : ℕ) (calls : List MadeCall) → AllMade calls → first_failed_from n calls ≡ None
none_failed n [] made = refl
none_failed n (call ∷ calls) made = ap (λ (ok : Bool). cond ok (first_failed_from (n + 1) calls) (Some (n + 1))) made.0 ∙ none_failed (n + 1) calls made.1

-- nothing was asked
held_new : (root : Root) (blocks : List FoundBlock) (calls : ℕ) (kept : OpenPool) → IsHeld root blocks calls kept → IsNew kept
held_new root blocks calls kept held =
    let new : IsNew (begun_pool kept.heart root.tree.group calls) = record { history = refl; acks = refl; jobs = refl; waits = refl; changed = λ yes. true≢false (sym yes); failed = refl } in
    subst IsNew (sym held.begins) new

-- and nothing acknowledged
held_acks : (root : Root) (blocks : List FoundBlock) (calls : ℕ) (kept : OpenPool) → IsHeld root blocks calls kept → AreAcks kept
held_acks root blocks calls kept held = subst AreAcks (sym held.begins) (acks_begun kept.heart root.tree.group calls)

-- what is known of a root that was taken up, whatever the disks tell
pub record IsRootOf (shape : Shape) (root : Root) (blocks : List FoundBlock) : Type 0 where
  pub taken : IsTaken root.limits root.tree blocks
  pub size : HasSize shape root
  pub places : HasPlaces root
  pub body_group : root.body.group ≡ root.tree.group

module _ (shape : Shape) (root : Root) (blocks : List FoundBlock) (calls : ℕ) (kept : OpenPool) (is : IsRootOf shape root blocks) (held : IsHeld root blocks calls kept) where
  -- the point of the history at which it begins
  abbrev point : Point
  point = record { entries = 0; group = root.tree.group; base = base_of kept.heart }

  abbrev begun : OpenPool
  begun = begun_pool kept.heart root.tree.group calls

  begun_kept : (from : ℕ) → IsKept shape (record { start = found_pool root.limits root.tree (map heart_block blocks); claim = root.tree.group; begun = from }) root begun point
  begun_kept from = kept_begins root blocks is.taken kept.heart held.core held.opened calls held.few_calls shape from is.size is.places is.body_group

  -- it is a pool
  pub held_pool : IsPool shape root kept
  held_pool = subst (IsPool shape root) (sym held.begins) (record { start = found_pool root.limits root.tree (map heart_block blocks); claim = root.tree.group; begun = 0 }, point, begun_kept 0)

  module _ (t u : Tape) (s : State) (told : IsTrue u.told) (stood : StandsFor shape (reads t) s) (leaves : LeavesEither shape s (claimed_state shape s) t u)
      (up : IsTakenUp shape u s (record { root = root; blocks = blocks; calls = calls })) (counted : length u.calls ≡ length t.calls + calls) (all_made : AllMade (drop (length t.calls) u.calls)) where
    abbrev run : Run
    run = run_from root.limits s (length t.calls)

    tree_is : root.tree ≡ later_tree s
    tree_is = up.committed.keeps.tree_is

    begun_runs : IsKept shape run root begun point
    begun_runs =
        let start : found_pool root.limits root.tree (map heart_block blocks) ≡ found_in root.limits s = pool_found root.limits s root.tree blocks tree_is up.blocks_are in
        let claim : root.tree.group ≡ s.body.group + 1 = ap (λ (tree : Tree). tree.group) tree_is in
        let run_is : record { start = found_pool root.limits root.tree (map heart_block blocks); claim = root.tree.group; begun = length t.calls } ≡ run =
        λ i. record { start = start i; claim = claim i; begun = length t.calls } in
        subst (λ (one : Run). IsKept shape one root begun point) run_is (begun_kept (length t.calls))

    state_rooted : IsRooted shape u (claimed_state shape s) root (base_of kept.heart)
    state_rooted = record {
      told = told;
      at_rest = up.committed.at_rest;
      keeps = up.committed.keeps;
      holds = claimed_holds shape s stood.state (areas_of kept.heart) (pool_of kept.heart) root.tree blocks tree_is up.blocks_are (core_holds root blocks is.taken kept.heart held.core held.opened);
    }

    begun_on_disks : IsOnDisks shape u run root begun point
    begun_on_disks = record {
      calls = sym counted;
      first_failed = sym (none_failed 0 (drop (length t.calls) u.calls) all_made);
      stands = (claimed_state shape s, state_rooted, up.committed.only_next);
      survives = begun_survives shape t u s root.limits stood leaves;
    }

    -- and it runs from the files that stood there
    pub held_opened : IsOpenedFrom shape t u root kept
    held_opened =
        subst (IsOpenedFrom shape t u root) (sym held.begins)
        (record { state = s; stood = stood; fresh = up.fresh; running = (point, begun_runs, λ now. begun_on_disks) })

-- ---- an import that is Ok

-- nothing was asked of it
pub imported_new : (imported : Imported) (kept : OpenPool) → IsHeld imported.root imported.blocks imported.calls kept → IsNew kept
imported_new imported kept held = held_new imported.root imported.blocks imported.calls kept held

pub imported_acks : (imported : Imported) (kept : OpenPool) → IsHeld imported.root imported.blocks imported.calls kept → AreAcks kept
imported_acks imported kept held = held_acks imported.root imported.blocks imported.calls kept held

module _ (shape : Shape) (imported : Imported) (root : Root) (kept : OpenPool) (same : root ≡ imported.root) (is : IsRootOf shape imported.root imported.blocks)
    (held : IsHeld imported.root imported.blocks imported.calls kept) where
  -- the pool that it gives
  pub imported_pool : (now' : Shape) → now' ≡ shape → IsPool now' root kept
  imported_pool now' still =
      subst (λ (one : Shape). IsPool one root kept) (sym still)
      (subst (λ (one : Root). IsPool shape one kept) (sym same) (held_pool shape imported.root imported.blocks imported.calls kept is held))

  -- runs from the files that stood there
  pub imported_opened : (t u : Tape) → u.told ≡ t.told → IsTrue t.told → AtRest t → (s : State) → StandsFor shape (reads t) s → LeavesEither shape s (claimed_state shape s) t u → IsTakenUp shape u s imported
      → length u.calls ≡ length t.calls + imported.calls → AllMade (drop (length t.calls) u.calls) → IsOpenedFrom shape t u root kept
  imported_opened t u keeps told rests s stands leaves up counted all_made =
      subst (λ (one : Root). IsOpenedFrom shape t u one kept) (sym same)
      (held_opened shape imported.root imported.blocks imported.calls kept is held t u s (keeps ∙ told) stands leaves up counted all_made)

-- ---- a fault

-- what comes before anything was written, came so in the group's import too
pub before_writes : (fault : ImportFault) → IsBeforeClaim fault → group.IsBeforeWrites fault
before_writes NoMemory before = tt
before_writes NoPool before = tt
before_writes DiskFault before = before
before_writes (Damaged damage) before = tt
