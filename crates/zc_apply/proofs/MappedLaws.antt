-- A list whose items are changed one after another, `changed_up_to change k items`.
use Rattle.std.proofs.Common.{◌≡◌, ◌∙◌, ℕ, zero, suc, ◌+◌, ◌<◌, ◌≤◌, Bool, cond, List, [], ◌∷◌, ◌++◌, take, map, length, get_or, Some, Result, Ok, Err, refl, sym, ap, add-one, arith}
use Rattle.std.specs.Prelude.{slice_get, slice_set, OnOk}
use Rattle.std.proofs.lemmas.Bool.{ne_eqb}
use Rattle.std.proofs.lemmas.List.{take_more}
use Rattle.std.proofs.lemmas.Option.{slice_get_within, get_or_from_slice_get}
use Rattle.zc_num.specs.Words.{change_at}
use Rattle.zc_num.proofs.Changes.{set_as_change_at}
use Rattle.zc_tree.specs.declared.tree.File.{File}
use Rattle.zc_heart.specs.Changes.{change_by, number_of_file}
use Rattle.zc_apply.specs.InParts.{by_number, changed_up_to, AreWithin}

-- one more item of a list
pub one_more : {X : Type 0} (items : List X) (k : ℕ) (item : X) → slice_get items k ≡ Some item → take (k + 1) items ≡ take k items ++ item ∷ []
one_more items k item there = take_more items k item (slice_get_within items k item there) ∙ ap (λ other. take k items ++ other ∷ []) (get_or_from_slice_get items k item item there)

-- an item that a call changed where it was answered Ok, written back
pub changed_there : {T E X : Type 0} (result : Result T E) (change : X → X) (items : List X) (k : ℕ) (was then' : X) → slice_get items k ≡ Some was → OnOk result (then' ≡ change was)
    → OnOk result (slice_set items k then' ≡ change_at change k items)
changed_there (Ok value) change items k was then' there changed = set_as_change_at change k items was then' there changed
changed_there (Err fault) change items k was then' there changed = tt

-- an item of another number stays
pub other_number : {X : Type 0} (number_of : X → ℕ) (number : ℕ) (change : X → X) (item : X) → (number_of item ≡ number → ⊥) → by_number number_of number change item ≡ item
other_number number_of number change item other = ap (λ (same : Bool). cond same (change item) item) (ne_eqb (number_of item) number other)

-- there are as many items as before
pub length_changed : {X : Type 0} (change : X → X) (k : ℕ) (items : List X) → length (changed_up_to change k items) ≡ length items
length_changed change zero items = refl
length_changed change (suc k) [] = refl
length_changed change (suc k) (item ∷ items) = ap suc (length_changed change k items)

-- the next one isn't changed yet
pub next_unchanged : {X : Type 0} (change : X → X) (k : ℕ) (items : List X) → slice_get (changed_up_to change k items) k ≡ slice_get items k
next_unchanged change zero items = refl
next_unchanged change (suc k) [] = refl
next_unchanged change (suc k) (item ∷ items) = next_unchanged change k items

next_changed : {X : Type 0} (change : X → X) (k : ℕ) (items : List X) → change_at change k (changed_up_to change k items) ≡ changed_up_to change (suc k) items
next_changed change zero [] = refl
next_changed change zero (item ∷ items) = refl
next_changed change (suc k) [] = refl
next_changed change (suc k) (item ∷ items) = ap (λ others. change item ∷ others) (next_changed change k items)

-- with it changed there is one more
pub one_more_changed : {X : Type 0} (change : X → X) (k : ℕ) (old now' then' : List X) → now' ≡ changed_up_to change k old → then' ≡ change_at change k now' → then' ≡ changed_up_to change (k + 1) old
one_more_changed change k old now' then' so_far next =
    next ∙ ap (change_at change k) so_far ∙ next_changed change k old ∙ ap (λ (count : ℕ). changed_up_to change count old) (sym (add-one k))

-- the first k stay where the change leaves them
pub none_changed : {X : Type 0} (change : X → X) (k : ℕ) (items : List X) → ((j : ℕ) (d : X) → j < k → change (get_or items j d) ≡ get_or items j d) → changed_up_to change k items ≡ items
none_changed change zero items stay = refl
none_changed change (suc k) [] stay = refl
none_changed change (suc k) (item ∷ items) stay =
    ap (λ other. other ∷ changed_up_to change k items) (stay 0 item (omega arith))
    ∙ ap (λ others. item ∷ others) (none_changed change k items (λ j d below. stay (suc j) d (omega arith)))

-- all are changed where the change leaves those after the first k
pub all_changed : {X : Type 0} (change : X → X) (k : ℕ) (items : List X) → ((j : ℕ) (d : X) → k ≤ j → j < length items → change (get_or items j d) ≡ get_or items j d)
    → changed_up_to change k items ≡ map change items
all_changed change zero [] stay = refl
all_changed change (suc k) [] stay = refl
all_changed change zero (item ∷ items) stay =
    ap (λ other. other ∷ items) (sym (stay 0 item (omega arith) (omega arith)))
    ∙ ap (λ others. change item ∷ others) (all_changed change 0 items (λ j d from within. stay (suc j) d (omega arith) (omega arith)))
all_changed change (suc k) (item ∷ items) stay =
    ap (λ others. change item ∷ others) (all_changed change k items (λ j d from within. stay (suc j) d (omega arith) (omega arith)))

-- every item was changed in turn
pub each_changed : {X : Type 0} (change : X → X) (old now' : List X) (k : ℕ) → length old ≤ k → now' ≡ changed_up_to change k old → now' ≡ map change old
each_changed change old now' k past so_far = so_far ∙ all_changed change k old (λ j d from within. absurd (omega arith))

-- before the first place at which a file with the number can stand, none is changed
pub before_first : (files : List File) (id first last : ℕ) (change : File → File) → AreWithin files id first last → files ≡ changed_up_to (by_number number_of_file id change) first files
before_first files id first last change within = sym (none_changed (by_number number_of_file id change) first files (λ j d below. other_number number_of_file id change (get_or files j d) (within.none_before j d below)))

-- and after the last one none is
pub after_last : (files now' : List File) (id first last k : ℕ) (change : File → File) → AreWithin files id first last → last ≤ k → now' ≡ changed_up_to (by_number number_of_file id change) k files
    → now' ≡ change_by number_of_file id change files
after_last files now' id first last k change within past so_far =
    so_far ∙ all_changed (by_number number_of_file id change) k files (λ j d from inside. other_number number_of_file id change (get_or files j d) (within.none_later j d (omega arith) inside))
