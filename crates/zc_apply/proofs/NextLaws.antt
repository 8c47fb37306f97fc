-- The changes made one after another, and the pointers that they take.
use Rattle.std.proofs.Common.{◌≡◌, ◌∙◌, ℕ, ◌+◌, ◌<◌, ◌≤◌, Bool, true, false, cond, List, [], ◌∷◌, drop, length, get_or, refl, sym, ap, arith}
use Rattle.std.specs.Prelude.{count_by}
use Rattle.std.proofs.lemmas.List.{drop_more}
use Rattle.std.proofs.lemmas.List.Sums.{sum_by-cons}
use Rattle.zc_blkptr.specs.declared.ptr.Ptr.{Ptr}
use Rattle.zc_tree.specs.declared.tree.Tree.{Tree}
use Rattle.zc_heart.specs.declared.changes.Now.TheVariants as now
use Rattle.zc_heart.specs.declared.changes.Change.{Change}
use Rattle.zc_heart.specs.declared.changes.Change.TheVariants.{MakeDataset, DropDataset, MakeFile, DropFile, Size, Put}
use Rattle.zc_heart.specs.Changes.{changed, first_of, is_made, left_after, made_in}

-- a change takes the first pointer where it takes one
pub takes_first : (change : Change) (ptr : Ptr) (ptrs : List Ptr) (tree : Tree) → (is_made change ≡ true → 0 < length ptrs) → (0 < length ptrs → ptr ≡ first_of ptrs)
    → changed change ptr tree ≡ changed change (first_of ptrs) tree
unfolding changed
takes_first (MakeDataset id slot name) ptr ptrs tree enough first = refl
takes_first (DropDataset id) ptr ptrs tree enough first = refl
takes_first (MakeFile dataset file name) ptr ptrs tree enough first = refl
takes_first (DropFile dataset file) ptr ptrs tree enough first = refl
takes_first (Size dataset file size) ptr ptrs tree enough first = refl
takes_first (Put dataset file block now.Hole) ptr ptrs tree enough first = refl
takes_first (Put dataset file block (now.Made bytes)) ptr ptrs tree enough first = ap (λ (other : Ptr). changed (Put dataset file block (now.Made bytes)) other tree) (first (enough refl))

-- so many pointers are enough for the first of the changes
pub enough_for_one : (changes : List Change) (k count : ℕ) (change : Change) → k < length changes → change ≡ get_or changes k change → count_by is_made (drop k changes) ≤ count → is_made change ≡ true → 0 < count
enough_for_one changes k count change within here enough made =
    let more : count_by is_made (drop k changes) ≡ cond (is_made change) 1 0 + count_by is_made (drop (k + 1) changes) =
    ap (count_by is_made) (drop_more changes k change within) ∙ sum_by-cons (λ (other : Change). cond (is_made other) 1 0) (get_or changes k change) (drop (k + 1) changes)
    ∙ ap (λ (other : Change). cond (is_made other) 1 0 + count_by is_made (drop (k + 1) changes)) (sym here) in
    let one : ◌≡◌ {A = ℕ} (cond (is_made change) 1 0) 1 = ap (λ (is : Bool). cond is 1 0) made in
    omega (arith, more, one, enough)

length_left : (is : Bool) (ptrs : List Ptr) (rest count : ℕ) → cond is 1 0 + rest ≤ length ptrs → rest ≤ length (cond is (drop 1 ptrs) ptrs)
length_left true [] rest count enough = absurd (omega arith)
length_left true (ptr ∷ ptrs) rest count enough = omega arith
length_left false ptrs rest count enough = omega arith

-- and what it leaves is enough for the others
pub enough_for_others : (changes : List Change) (k : ℕ) (change : Change) (ptrs : List Ptr) → k < length changes → change ≡ get_or changes k change → count_by is_made (drop k changes) ≤ length ptrs
    → count_by is_made (drop (k + 1) changes) ≤ length (left_after change ptrs)
enough_for_others changes k change ptrs within here enough =
    let more : count_by is_made (drop k changes) ≡ cond (is_made change) 1 0 + count_by is_made (drop (k + 1) changes) =
    ap (count_by is_made) (drop_more changes k change within) ∙ sum_by-cons (λ (other : Change). cond (is_made other) 1 0) (get_or changes k change) (drop (k + 1) changes)
    ∙ ap (λ (other : Change). cond (is_made other) 1 0 + count_by is_made (drop (k + 1) changes)) (sym here) in
    length_left (is_made change) ptrs (count_by is_made (drop (k + 1) changes)) 0 (omega (arith, more, enough))

-- what is left to do after one change
pub made_after : (changes : List Change) (k : ℕ) (change : Change) (ptrs : List Ptr) (tree next : Tree) → k < length changes → change ≡ get_or changes k change → next ≡ changed change (first_of ptrs) tree
    → made_in (drop (k + 1) changes) (left_after change ptrs) next ≡ made_in (drop k changes) ptrs tree
made_after changes k change ptrs tree next within here made =
    let uncovered : drop k changes ≡ change ∷ drop (k + 1) changes = drop_more changes k change within ∙ ap (λ (other : Change). other ∷ drop (k + 1) changes) (sym here) in
    ap (made_in (drop (k + 1) changes) (left_after change ptrs)) made ∙ ap (λ (others : List Change). made_in others ptrs tree) (sym uncovered)
