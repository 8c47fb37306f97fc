-- A real tree that holds a plain pool holds the next one, once a group's changes were made in it.
use Rattle.std.proofs.Common.{◌≡◌, ◌∙◌, ℕ, ◌≤◌, List, [], ◌∷◌, ◌++◌, length, filter, sym, subst, arith}
use Rattle.std.specs.List.{AllByRecursion}
use Rattle.zc_blkptr.specs.declared.ptr.Ptr.{Ptr}
use Rattle.zc_tree.specs.declared.tree.Tree.{Tree}
use Rattle.zc_plain.specs.declared.plain_pool.PlainBlock.{PlainBlock}
use Rattle.zc_plain.specs.declared.plain_pool.PlainBlock.TheVariants.{Hole, Made}
use Rattle.zc_plain.specs.declared.plain_pool.PlainFile.{PlainFile}
use Rattle.zc_plain.specs.declared.plain_pool.PlainPool.{PlainPool}
use Rattle.zc_heart.specs.declared.changes.Now.TheVariants as now
use Rattle.zc_heart.specs.declared.changes.Change.{Change}
use Rattle.zc_heart.specs.declared.changes.Change.TheVariants.{MakeDataset, DropDataset, MakeFile, DropFile, Size, Put}
use Rattle.zc_heart.specs.Changes.{is_made, made_in, tree_of}
use Rattle.zc_heart.specs.Meaning.{block_in, IsNow, Stands, stamp_placed, placed_by_all}
use Rattle.zc_apply.specs.Alike.{AreAlike, IsAlike, by_bytes, HasBytes, Holds, ArePlaced}
use Rattle.zc_apply.proofs.AlikeLaws.{made_alike}

-- as many pointers were placed as changes take
pub placed_enough : (bytes_at : ℕ → ℕ → List ℕ) (changes : List Change) (ptrs : List Ptr) → ArePlaced bytes_at changes ptrs → length (filter is_made changes) ≤ length ptrs
placed_enough bytes_at [] [] placed = omega arith
placed_enough bytes_at [] (ptr ∷ ptrs) placed = absurd placed
placed_enough bytes_at (MakeDataset id slot name ∷ changes) ptrs placed = placed_enough bytes_at changes ptrs placed
placed_enough bytes_at (DropDataset id ∷ changes) ptrs placed = placed_enough bytes_at changes ptrs placed
placed_enough bytes_at (MakeFile dataset file name ∷ changes) ptrs placed = placed_enough bytes_at changes ptrs placed
placed_enough bytes_at (DropFile dataset file ∷ changes) ptrs placed = placed_enough bytes_at changes ptrs placed
placed_enough bytes_at (Size dataset file size ∷ changes) ptrs placed = placed_enough bytes_at changes ptrs placed
placed_enough bytes_at (Put dataset file block now.Hole ∷ changes) ptrs placed = placed_enough bytes_at changes ptrs placed
placed_enough bytes_at (Put dataset file block (now.Made bytes) ∷ changes) [] placed = absurd placed
placed_enough bytes_at (Put dataset file block (now.Made bytes) ∷ changes) (ptr ∷ ptrs) placed =
    let others : length (filter is_made changes) ≤ length ptrs = placed_enough bytes_at changes ptrs placed.1 in
    omega arith

-- the place of a put has the bytes of the block that stands there
put_placed : (bytes_at : ℕ → ℕ → List ℕ) (bytes : List ℕ) (block : PlainBlock) (ptr : Ptr) (ptrs others : List Ptr) → IsNow (now.Made bytes) block → bytes_at ptr.device ptr.place ≡ bytes
    → AreAlike (HasBytes bytes_at) ptrs others → AreAlike (HasBytes bytes_at) (ptr ∷ ptrs) (stamp_placed by_bytes block ++ others)
put_placed bytes_at bytes Hole ptr ptrs others is at go = absurd is
put_placed bytes_at bytes (Made entry index held) ptr ptrs others is at go = (at ∙ is, go)

-- the places of all puts have the bytes of the blocks that stand there
pub placed_alike : (bytes_at : ℕ → ℕ → List ℕ) (pool : PlainPool) (changes : List Change) (ptrs : List Ptr) → AllByRecursion (Stands pool) changes → ArePlaced bytes_at changes ptrs
    → AreAlike (HasBytes bytes_at) ptrs (placed_by_all by_bytes pool changes)
placed_alike bytes_at pool [] [] stand placed = tt
placed_alike bytes_at pool [] (ptr ∷ ptrs) stand placed = absurd placed
placed_alike bytes_at pool (MakeDataset id slot name ∷ changes) ptrs stand placed = placed_alike bytes_at pool changes ptrs stand.1 placed
placed_alike bytes_at pool (DropDataset id ∷ changes) ptrs stand placed = placed_alike bytes_at pool changes ptrs stand.1 placed
placed_alike bytes_at pool (MakeFile dataset file name ∷ changes) ptrs stand placed = placed_alike bytes_at pool changes ptrs stand.1 placed
placed_alike bytes_at pool (DropFile dataset file ∷ changes) ptrs stand placed = placed_alike bytes_at pool changes ptrs stand.1 placed
placed_alike bytes_at pool (Size dataset file size ∷ changes) ptrs stand placed = placed_alike bytes_at pool changes ptrs stand.1 placed
placed_alike bytes_at pool (Put dataset file block now.Hole ∷ changes) ptrs stand placed = placed_alike bytes_at pool changes ptrs stand.1 placed
placed_alike bytes_at pool (Put dataset file block (now.Made bytes) ∷ changes) [] stand placed = absurd placed
placed_alike bytes_at pool (Put dataset file block (now.Made bytes) ∷ changes) (ptr ∷ ptrs) stand placed =
    let others = placed_by_all by_bytes pool changes in
    let go : AreAlike (HasBytes bytes_at) ptrs others = placed_alike bytes_at pool changes ptrs stand.1 placed.1 in
    subst (λ (files : List PlainFile). AreAlike (HasBytes bytes_at) (ptr ∷ ptrs) (stamp_placed by_bytes (block_in files block) ++ others)) (sym stand.0.1)
    (put_placed bytes_at bytes (block_in (stand.0.0 ∷ []) block) ptr ptrs others stand.0.2 placed.0 go)

-- the real tree holds the pool after the group, where its changes make that pool's tree, each put stands in the pool, and its bytes
-- are at the place that it was given
pub next_holds : (bytes_at : ℕ → ℕ → List ℕ) (before_areas areas : List ℕ) (before pool : PlainPool) (changes : List Change) (tree : Tree) (placed : List Ptr) (group : ℕ)
    → ((g : ℕ) → made_in changes (placed_by_all by_bytes pool changes) (tree_of g by_bytes before_areas before) ≡ tree_of g by_bytes areas pool)
    → AllByRecursion (Stands pool) changes → Holds bytes_at before_areas before tree → ArePlaced bytes_at changes placed
    → Holds bytes_at areas pool (record (made_in changes placed tree) { group = group })
next_holds bytes_at before_areas areas before pool changes tree placed group leads stand holds are_placed =
    let P : Ptr → Ptr → Type 0 = HasBytes bytes_at in
    let all = placed_by_all by_bytes pool changes in
    let made : IsAlike P (made_in changes placed tree) (made_in changes all (tree_of tree.group by_bytes before_areas before)) =
    made_alike P changes placed all tree (tree_of tree.group by_bytes before_areas before)
    (placed_alike bytes_at pool changes placed stand are_placed) (placed_enough bytes_at changes placed are_placed) holds in
    let next : IsAlike P (made_in changes placed tree) (tree_of tree.group by_bytes areas pool) = subst (λ (other : Tree). IsAlike P (made_in changes placed tree) other) (leads tree.group) made in
    record { next_dataset = next.next_dataset; datasets = next.datasets }
