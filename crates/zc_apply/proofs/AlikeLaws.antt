-- Trees that are alike stay alike where the same changes are made in them, and what the pointers of such trees are.
use Rattle.std.proofs.Common.{◌≡◌, ◌⊎◌, ℕ, zero, suc, ◌≤◌, ◌==◌, not, Bool, true, false, true≢false, cond, List, [], ◌∷◌, ◌++◌, map, length, drop, filter, Contains, refl, sym, ap, subst, ⊎_elim, inl, inr, arith}
use Rattle.std.specs.declared.cmp.Ordering.{Ordering}
use Rattle.std.specs.declared.cmp.Ordering.TheVariants.{Less, Equal, Greater}
use Rattle.std.specs.Ordering.{nat_cmp, match_ordering}
use Rattle.std.specs.BTreeMap.{is_at}
use Rattle.std.proofs.lemmas.List.Elements.{Contains-append_left, Contains-append_right, Contains-append_cases, Contains-push}
use Rattle.zc_num.specs.Ordered.{insert_entry, remove_entry}
use Rattle.zc_blkptr.specs.declared.ptr.Ptr.{Ptr}
use Rattle.zc_tree.specs.declared.tree.File.{File}
use Rattle.zc_tree.specs.declared.tree.Dataset.{Dataset}
use Rattle.zc_tree.specs.declared.tree.Tree.{Tree}
use Rattle.zc_tree.specs.Reach.{pointers_of_file, pointers_of_files, pointers_of_datasets, pointers_of_tree}
use Rattle.zc_heart.specs.declared.changes.Now.TheVariants as now
use Rattle.zc_heart.specs.declared.changes.Change.{Change}
use Rattle.zc_heart.specs.declared.changes.Change.TheVariants.{MakeDataset, DropDataset, MakeFile, DropFile, Size, Put}
use Rattle.zc_heart.specs.Changes.{change_by, without, number_of_dataset, number_of_file, in_dataset, in_file, with_file, first_of, changed, is_made, left_after, made_in}
use Rattle.zc_apply.specs.Alike.{AreAlike, AreSlotsAlike, IsFileAlike, AreFilesAlike, IsDatasetAlike, AreDatasetsAlike, IsAlike}

-- ---- choices that fall alike

-- what goes together either way goes together as two equal tests choose
chosen : {X : Type 0} (R : X → X → Type 0) (b c : Bool) (u v x y : X) → b ≡ c → R u v → R x y → R (cond b u x) (cond c v y)
chosen R true true u v x y same first second = first
chosen R true false u v x y same first second = absurd (true≢false same)
chosen R false true u v x y same first second = absurd (true≢false (sym same))
chosen R false false u v x y same first second = second

-- the same of an order
ordered_here : {X : Type 0} (R : X → X → Type 0) (a : Ordering) (l e g l' e' g' : X) → R l l' → R e e' → R g g' → R (match_ordering a l e g) (match_ordering a l' e' g')
ordered_here R Less l e g l' e' g' less equal greater = less
ordered_here R Equal l e g l' e' g' less equal greater = equal
ordered_here R Greater l e g l' e' g' less equal greater = greater

ordered : {X : Type 0} (R : X → X → Type 0) (a b : Ordering) (l e g l' e' g' : X) → a ≡ b → R l l' → R e e' → R g g' → R (match_ordering a l e g) (match_ordering b l' e' g')
ordered R a b l e g l' e' g' same less equal greater =
    subst (λ (k : Ordering). R (match_ordering a l e g) (match_ordering k l' e' g')) same (ordered_here R a l e g l' e' g' less equal greater)

-- ---- slots

-- slots that are alike stay so where the pointers that are put at a block go together
slots_put : (P : Ptr → Ptr → Type 0) (key : ℕ) (ptr other : Ptr) (es fs : List (ℕ × Ptr)) → P ptr other → AreSlotsAlike P es fs → AreSlotsAlike P (insert_entry key ptr es) (insert_entry key other fs)
slots_put P key ptr other [] [] go alike = (refl, go, tt)
slots_put P key ptr other [] (f ∷ fs) go alike = absurd alike
slots_put P key ptr other (e ∷ es) [] go alike = absurd alike
slots_put P key ptr other (e ∷ es) (f ∷ fs) go alike =
    ordered (AreSlotsAlike P) (nat_cmp key e.0) (nat_cmp key f.0)
    ((key, ptr) ∷ e ∷ es) ((e.0, ptr) ∷ es) (e ∷ insert_entry key ptr es)
    ((key, other) ∷ f ∷ fs) ((f.0, other) ∷ fs) (f ∷ insert_entry key other fs)
    (ap (nat_cmp key) alike.0)
    (refl, go, alike)
    (alike.0, go, alike.2)
    (alike.0, alike.1, slots_put P key ptr other es fs go alike.2)

-- and where a block's is taken
slots_taken : (P : Ptr → Ptr → Type 0) (key : ℕ) (es fs : List (ℕ × Ptr)) → AreSlotsAlike P es fs → AreSlotsAlike P (remove_entry key es) (remove_entry key fs)
slots_taken P key [] [] alike = tt
slots_taken P key [] (f ∷ fs) alike = absurd alike
slots_taken P key (e ∷ es) [] alike = absurd alike
slots_taken P key (e ∷ es) (f ∷ fs) alike =
    chosen (AreSlotsAlike P) (is_at (nat_cmp key) e.0) (is_at (nat_cmp key) f.0) es fs (e ∷ remove_entry key es) (f ∷ remove_entry key fs)
    (ap (is_at (nat_cmp key)) alike.0) alike.2 (alike.0, alike.1, slots_taken P key es fs alike.2)

-- ---- files

-- files that are alike stay so where one of a number is changed alike
files_changed : (P : Ptr → Ptr → Type 0) (id : ℕ) (f g : File → File) → ((x y : File) → IsFileAlike P x y → IsFileAlike P (f x) (g y))
    → (xs ys : List File) → AreFilesAlike P xs ys → AreFilesAlike P (change_by number_of_file id f xs) (change_by number_of_file id g ys)
files_changed P id f g step [] [] alike = tt
files_changed P id f g step [] (y ∷ ys) alike = absurd alike
files_changed P id f g step (x ∷ xs) [] alike = absurd alike
files_changed P id f g step (x ∷ xs) (y ∷ ys) alike = (
  chosen (IsFileAlike P) (x.id == id) (y.id == id) (f x) (g y) x y (ap (λ (n : ℕ). n == id) alike.0.id) (step x y alike.0) alike.0,
  files_changed P id f g step xs ys alike.1,
)

-- where the one of a number goes
files_without : (P : Ptr → Ptr → Type 0) (id : ℕ) (xs ys : List File) → AreFilesAlike P xs ys → AreFilesAlike P (without number_of_file id xs) (without number_of_file id ys)
files_without P id [] [] alike = tt
files_without P id [] (y ∷ ys) alike = absurd alike
files_without P id (x ∷ xs) [] alike = absurd alike
files_without P id (x ∷ xs) (y ∷ ys) alike =
    let others = files_without P id xs ys alike.1 in
    chosen (AreFilesAlike P) (not (x.id == id)) (not (y.id == id)) (x ∷ without number_of_file id xs) (y ∷ without number_of_file id ys)
    (without number_of_file id xs) (without number_of_file id ys) (ap (λ (n : ℕ). not (n == id)) alike.0.id) (alike.0, others) others

-- and where one more that is alike comes after them
files_with_one : (P : Ptr → Ptr → Type 0) (xs ys : List File) (x y : File) → AreFilesAlike P xs ys → IsFileAlike P x y → AreFilesAlike P (xs ++ x ∷ []) (ys ++ y ∷ [])
files_with_one P [] [] x y alike one = (one, tt)
files_with_one P [] (b ∷ ys) x y alike one = absurd alike
files_with_one P (a ∷ xs) [] x y alike one = absurd alike
files_with_one P (a ∷ xs) (b ∷ ys) x y alike one = (alike.0, files_with_one P xs ys x y alike.1 one)

-- ---- datasets

datasets_changed : (P : Ptr → Ptr → Type 0) (id : ℕ) (f g : Dataset → Dataset) → ((x y : Dataset) → IsDatasetAlike P x y → IsDatasetAlike P (f x) (g y))
    → (xs ys : List Dataset) → AreDatasetsAlike P xs ys → AreDatasetsAlike P (change_by number_of_dataset id f xs) (change_by number_of_dataset id g ys)
datasets_changed P id f g step [] [] alike = tt
datasets_changed P id f g step [] (y ∷ ys) alike = absurd alike
datasets_changed P id f g step (x ∷ xs) [] alike = absurd alike
datasets_changed P id f g step (x ∷ xs) (y ∷ ys) alike = (
  chosen (IsDatasetAlike P) (x.id == id) (y.id == id) (f x) (g y) x y (ap (λ (n : ℕ). n == id) alike.0.id) (step x y alike.0) alike.0,
  datasets_changed P id f g step xs ys alike.1,
)

datasets_without : (P : Ptr → Ptr → Type 0) (id : ℕ) (xs ys : List Dataset) → AreDatasetsAlike P xs ys → AreDatasetsAlike P (without number_of_dataset id xs) (without number_of_dataset id ys)
datasets_without P id [] [] alike = tt
datasets_without P id [] (y ∷ ys) alike = absurd alike
datasets_without P id (x ∷ xs) [] alike = absurd alike
datasets_without P id (x ∷ xs) (y ∷ ys) alike =
    let others = datasets_without P id xs ys alike.1 in
    chosen (AreDatasetsAlike P) (not (x.id == id)) (not (y.id == id)) (x ∷ without number_of_dataset id xs) (y ∷ without number_of_dataset id ys)
    (without number_of_dataset id xs) (without number_of_dataset id ys) (ap (λ (n : ℕ). not (n == id)) alike.0.id) (alike.0, others) others

datasets_with_one : (P : Ptr → Ptr → Type 0) (xs ys : List Dataset) (x y : Dataset) → AreDatasetsAlike P xs ys → IsDatasetAlike P x y → AreDatasetsAlike P (xs ++ x ∷ []) (ys ++ y ∷ [])
datasets_with_one P [] [] x y alike one = (one, tt)
datasets_with_one P [] (b ∷ ys) x y alike one = absurd alike
datasets_with_one P (a ∷ xs) [] x y alike one = absurd alike
datasets_with_one P (a ∷ xs) (b ∷ ys) x y alike one = (alike.0, datasets_with_one P xs ys x y alike.1 one)

-- ---- changes

-- trees that are alike stay so where a dataset is changed alike, and where a file of it is
dataset_alike : (P : Ptr → Ptr → Type 0) (id : ℕ) (f g : Dataset → Dataset) → ((x y : Dataset) → IsDatasetAlike P x y → IsDatasetAlike P (f x) (g y))
    → (tree other : Tree) → IsAlike P tree other → IsAlike P (in_dataset id f tree) (in_dataset id g other)
dataset_alike P id f g step tree other alike = record { next_dataset = alike.next_dataset; datasets = datasets_changed P id f g step tree.datasets other.datasets alike.datasets }

file_alike : (P : Ptr → Ptr → Type 0) (dataset file : ℕ) (f g : File → File) → ((x y : File) → IsFileAlike P x y → IsFileAlike P (f x) (g y))
    → (tree other : Tree) → IsAlike P tree other → IsAlike P (in_file dataset file f tree) (in_file dataset file g other)
file_alike P dataset file f g step tree other alike =
    dataset_alike P dataset (λ (found : Dataset). record found { files = change_by number_of_file file f found.files }) (λ (found : Dataset). record found { files = change_by number_of_file file g found.files })
    (λ x y same. record {
      id = same.id;
      slot = same.slot;
      name = same.name;
      next_file = same.next_file;
      log = same.log;
      files = files_changed P file f g step x.files y.files same.files;
    })
    tree other alike

-- trees that are alike stay so where a change is made in both, whose pointers go together where it takes one
changed_alike : (P : Ptr → Ptr → Type 0) (change : Change) (ptr ptr' : Ptr) (tree other : Tree) → (is_made change ≡ true → P ptr ptr') → IsAlike P tree other → IsAlike P (changed change ptr tree) (changed change ptr' other)
unfolding changed
changed_alike P (MakeDataset id slot name) ptr ptr' tree other go alike = record {
  next_dataset = refl;
  datasets =
      datasets_with_one P tree.datasets other.datasets _ _ alike.datasets
      (record { id = refl; slot = refl; name = refl; next_file = refl; log = refl; files = tt });
}
changed_alike P (DropDataset id) ptr ptr' tree other go alike = record {
  next_dataset = alike.next_dataset;
  datasets = datasets_without P id tree.datasets other.datasets alike.datasets;
}
changed_alike P (MakeFile dataset file name) ptr ptr' tree other go alike =
    dataset_alike P dataset (with_file file name) (with_file file name)
    (λ x y same. record {
      id = same.id;
      slot = same.slot;
      name = same.name;
      next_file = refl;
      log = same.log;
      files = files_with_one P x.files y.files _ _ same.files (record { id = refl; name = refl; size = refl; slots = tt });
    })
    tree other alike
changed_alike P (DropFile dataset file) ptr ptr' tree other go alike =
    dataset_alike P dataset (λ (found : Dataset). record found { files = without number_of_file file found.files }) (λ (found : Dataset). record found { files = without number_of_file file found.files })
    (λ x y same. record {
      id = same.id;
      slot = same.slot;
      name = same.name;
      next_file = same.next_file;
      log = same.log;
      files = files_without P file x.files y.files same.files;
    })
    tree other alike
changed_alike P (Size dataset file size) ptr ptr' tree other go alike =
    file_alike P dataset file (λ (found : File). record found { size = size }) (λ (found : File). record found { size = size })
    (λ x y same. record { id = same.id; name = same.name; size = refl; slots = same.slots })
    tree other alike
changed_alike P (Put dataset file block now.Hole) ptr ptr' tree other go alike =
    file_alike P dataset file (λ (found : File). record found { slots = remove_entry block found.slots }) (λ (found : File). record found { slots = remove_entry block found.slots })
    (λ x y same. record { id = same.id; name = same.name; size = same.size; slots = slots_taken P block x.slots y.slots same.slots })
    tree other alike
changed_alike P (Put dataset file block (now.Made bytes)) ptr ptr' tree other go alike =
    file_alike P dataset file (λ (found : File). record found { slots = insert_entry block ptr found.slots }) (λ (found : File). record found { slots = insert_entry block ptr' found.slots })
    (λ x y same. record { id = same.id; name = same.name; size = same.size; slots = slots_put P block ptr ptr' x.slots y.slots (go refl) same.slots })
    tree other alike

-- the first of pointers that go together, where there is one, and those after it
first_alike : (P : Ptr → Ptr → Type 0) (b : Bool) (change : Change) (changes : List Change) (ptrs others : List Ptr) → AreAlike P ptrs others
    → length (cond b (change ∷ changes) changes) ≤ length ptrs → b ≡ true → P (first_of ptrs) (first_of others)
first_alike P false change changes ptrs others go enough is = absurd (true≢false (sym is))
first_alike P true change changes [] others go enough is = absurd (omega arith)
first_alike P true change changes (ptr ∷ ptrs) [] go enough is = absurd go
first_alike P true change changes (ptr ∷ ptrs) (other ∷ others) go enough is = go.0

rest_alike : (P : Ptr → Ptr → Type 0) (b : Bool) (ptrs others : List Ptr) → AreAlike P ptrs others → AreAlike P (cond b (drop 1 ptrs) ptrs) (cond b (drop 1 others) others)
rest_alike P false ptrs others go = go
rest_alike P true [] [] go = tt
rest_alike P true [] (other ∷ others) go = absurd go
rest_alike P true (ptr ∷ ptrs) [] go = absurd go
rest_alike P true (ptr ∷ ptrs) (other ∷ others) go = go.1

-- enough pointers for changes are enough for those after the first
rest_enough : (b : Bool) (change : Change) (changes : List Change) (ptrs : List Ptr) → length (cond b (change ∷ changes) changes) ≤ length ptrs → length changes ≤ length (cond b (drop 1 ptrs) ptrs)
rest_enough false change changes ptrs enough = enough
rest_enough true change changes [] enough = absurd (omega arith)
rest_enough true change changes (ptr ∷ ptrs) enough = omega arith

-- trees that are alike stay so where the same changes are made in both, with pointers that go together and are enough
pub made_alike : (P : Ptr → Ptr → Type 0) (changes : List Change) (ptrs others : List Ptr) (tree other : Tree) → AreAlike P ptrs others → length (filter is_made changes) ≤ length ptrs
    → IsAlike P tree other → IsAlike P (made_in changes ptrs tree) (made_in changes others other)
made_alike P [] ptrs others tree other go enough alike = alike
made_alike P (change ∷ changes) ptrs others tree other go enough alike =
    let made = filter is_made changes in
    made_alike P changes (left_after change ptrs) (left_after change others) (changed change (first_of ptrs) tree) (changed change (first_of others) other)
    (rest_alike P (is_made change) ptrs others go)
    (rest_enough (is_made change) change made ptrs enough)
    (changed_alike P change (first_of ptrs) (first_of others) tree other (first_alike P (is_made change) change made ptrs others go enough) alike)

-- ---- pointers of trees that are alike

-- what a list contains with one more in front
here : {X : Type 0} (x : X) (xs : List X) → Contains (x ∷ xs) x
here x xs = Contains-append_left (x ∷ []) xs x (Contains-push [] x)

behind : {X : Type 0} (x y : X) (xs : List X) → Contains xs y → Contains (x ∷ xs) y
behind x y xs among = Contains-append_right (x ∷ []) xs y among

here_or_after : {X : Type 0} (x y : X) (xs : List X) → Contains (x ∷ xs) y → (x ≡ y) ⊎ Contains xs y
here_or_after x y xs among = ⊎_elim (λ first. inl (alone first)) (λ other. inr other) (Contains-append_cases (x ∷ []) xs y among)
  where
    alone : Contains (x ∷ []) y → x ≡ y
    alone (zero, within, is) = is
    alone (suc k, within, is) = absurd (omega arith)

nothing : {X A : Type 0} (x : X) → Contains [] x → A
nothing x (k, within, is) = absurd (omega arith)

-- what goes together by P goes together by Q where P gives Q for each pointer of the first
slots_weaker : (P Q : Ptr → Ptr → Type 0) (es fs : List (ℕ × Ptr)) → ((ptr other : Ptr) → Contains (map (λ e. e.1) es) ptr → P ptr other → Q ptr other) → AreSlotsAlike P es fs → AreSlotsAlike Q es fs
slots_weaker P Q [] [] gives alike = tt
slots_weaker P Q [] (f ∷ fs) gives alike = absurd alike
slots_weaker P Q (e ∷ es) [] gives alike = absurd alike
slots_weaker P Q (e ∷ es) (f ∷ fs) gives alike = (
  alike.0,
  gives e.1 f.1 (here e.1 (map (λ e. e.1) es)) alike.1,
  slots_weaker P Q es fs (λ ptr other among. gives ptr other (behind e.1 ptr (map (λ e. e.1) es) among)) alike.2,
)

files_weaker : (P Q : Ptr → Ptr → Type 0) (xs ys : List File) → ((ptr other : Ptr) → Contains (pointers_of_files xs) ptr → P ptr other → Q ptr other) → AreFilesAlike P xs ys → AreFilesAlike Q xs ys
files_weaker P Q [] [] gives alike = tt
files_weaker P Q [] (y ∷ ys) gives alike = absurd alike
files_weaker P Q (x ∷ xs) [] gives alike = absurd alike
files_weaker P Q (x ∷ xs) (y ∷ ys) gives alike =
    let slots = slots_weaker P Q x.slots y.slots (λ ptr other among. gives ptr other (Contains-append_left (pointers_of_file x) (pointers_of_files xs) ptr among)) alike.0.slots in (
      record { id = alike.0.id; name = alike.0.name; size = alike.0.size; slots = slots },
      files_weaker P Q xs ys (λ ptr other among. gives ptr other (Contains-append_right (pointers_of_file x) (pointers_of_files xs) ptr among)) alike.1,
    )

datasets_weaker : (P Q : Ptr → Ptr → Type 0) (xs ys : List Dataset) → ((ptr other : Ptr) → Contains (pointers_of_datasets xs) ptr → P ptr other → Q ptr other) → AreDatasetsAlike P xs ys → AreDatasetsAlike Q xs ys
datasets_weaker P Q [] [] gives alike = tt
datasets_weaker P Q [] (y ∷ ys) gives alike = absurd alike
datasets_weaker P Q (x ∷ xs) [] gives alike = absurd alike
datasets_weaker P Q (x ∷ xs) (y ∷ ys) gives alike =
    let files = files_weaker P Q x.files y.files (λ ptr other among. gives ptr other (Contains-append_left (pointers_of_files x.files) (pointers_of_datasets xs) ptr among)) alike.0.files in (
      record { id = alike.0.id; slot = alike.0.slot; name = alike.0.name; next_file = alike.0.next_file; log = alike.0.log; files = files },
      datasets_weaker P Q xs ys (λ ptr other among. gives ptr other (Contains-append_right (pointers_of_files x.files) (pointers_of_datasets xs) ptr among)) alike.1,
    )

pub alike_weaker : (P Q : Ptr → Ptr → Type 0) (tree other : Tree) → ((ptr other : Ptr) → Contains (pointers_of_tree tree) ptr → P ptr other → Q ptr other) → IsAlike P tree other → IsAlike Q tree other
alike_weaker P Q tree other gives alike = record { next_dataset = alike.next_dataset; datasets = datasets_weaker P Q tree.datasets other.datasets gives alike.datasets }

-- a tree is like itself, where each of its pointers goes with itself
slots_itself : (P : Ptr → Ptr → Type 0) (es : List (ℕ × Ptr)) → ((ptr : Ptr) → Contains (map (λ e. e.1) es) ptr → P ptr ptr) → AreSlotsAlike P es es
slots_itself P [] goes = tt
slots_itself P (e ∷ es) goes = (refl, goes e.1 (here e.1 (map (λ e. e.1) es)), slots_itself P es (λ ptr among. goes ptr (behind e.1 ptr (map (λ e. e.1) es) among)))

files_itself : (P : Ptr → Ptr → Type 0) (xs : List File) → ((ptr : Ptr) → Contains (pointers_of_files xs) ptr → P ptr ptr) → AreFilesAlike P xs xs
files_itself P [] goes = tt
files_itself P (x ∷ xs) goes =
    let slots = slots_itself P x.slots (λ ptr among. goes ptr (Contains-append_left (pointers_of_file x) (pointers_of_files xs) ptr among)) in
    (record { id = refl; name = refl; size = refl; slots = slots }, files_itself P xs (λ ptr among. goes ptr (Contains-append_right (pointers_of_file x) (pointers_of_files xs) ptr among)))

datasets_itself : (P : Ptr → Ptr → Type 0) (xs : List Dataset) → ((ptr : Ptr) → Contains (pointers_of_datasets xs) ptr → P ptr ptr) → AreDatasetsAlike P xs xs
datasets_itself P [] goes = tt
datasets_itself P (x ∷ xs) goes =
    let files = files_itself P x.files (λ ptr among. goes ptr (Contains-append_left (pointers_of_files x.files) (pointers_of_datasets xs) ptr among)) in (
      record { id = refl; slot = refl; name = refl; next_file = refl; log = refl; files = files },
      datasets_itself P xs (λ ptr among. goes ptr (Contains-append_right (pointers_of_files x.files) (pointers_of_datasets xs) ptr among)),
    )

pub alike_itself : (P : Ptr → Ptr → Type 0) (tree : Tree) → ((ptr : Ptr) → Contains (pointers_of_tree tree) ptr → P ptr ptr) → IsAlike P tree tree
alike_itself P tree goes = record { next_dataset = refl; datasets = datasets_itself P tree.datasets goes }

list_itself : (P : Ptr → Ptr → Type 0) (ptrs : List Ptr) → ((ptr : Ptr) → Contains ptrs ptr → P ptr ptr) → AreAlike P ptrs ptrs
list_itself P [] goes = tt
list_itself P (ptr ∷ ptrs) goes = (goes ptr (here ptr ptrs), list_itself P ptrs (λ other among. goes other (behind ptr other ptrs among)))

-- each pointer of a tree goes with one, where a tree is like it
slots_go : (P : Ptr → Ptr → Type 0) (es fs : List (ℕ × Ptr)) (ptr : Ptr) → AreSlotsAlike P es fs → Contains (map (λ e. e.1) es) ptr → (other : Ptr) × P ptr other
slots_go P [] fs ptr alike among = nothing ptr among
slots_go P (e ∷ es) [] ptr alike among = absurd alike
slots_go P (e ∷ es) (f ∷ fs) ptr alike among =
    ⊎_elim
    (λ (same : e.1 ≡ ptr). (f.1, subst (λ (p : Ptr). P p f.1) same alike.1))
    (λ (other : Contains (map (λ e. e.1) es) ptr). slots_go P es fs ptr alike.2 other)
    (here_or_after e.1 ptr (map (λ e. e.1) es) among)

files_go : (P : Ptr → Ptr → Type 0) (xs ys : List File) (ptr : Ptr) → AreFilesAlike P xs ys → Contains (pointers_of_files xs) ptr → (other : Ptr) × P ptr other
files_go P [] ys ptr alike among = nothing ptr among
files_go P (x ∷ xs) [] ptr alike among = absurd alike
files_go P (x ∷ xs) (y ∷ ys) ptr alike among =
    ⊎_elim
    (λ (first : Contains (pointers_of_file x) ptr). slots_go P x.slots y.slots ptr alike.0.slots first)
    (λ (other : Contains (pointers_of_files xs) ptr). files_go P xs ys ptr alike.1 other)
    (Contains-append_cases (pointers_of_file x) (pointers_of_files xs) ptr among)

datasets_go : (P : Ptr → Ptr → Type 0) (xs ys : List Dataset) (ptr : Ptr) → AreDatasetsAlike P xs ys → Contains (pointers_of_datasets xs) ptr → (other : Ptr) × P ptr other
datasets_go P [] ys ptr alike among = nothing ptr among
datasets_go P (x ∷ xs) [] ptr alike among = absurd alike
datasets_go P (x ∷ xs) (y ∷ ys) ptr alike among =
    ⊎_elim
    (λ (first : Contains (pointers_of_files x.files) ptr). files_go P x.files y.files ptr alike.0.files first)
    (λ (other : Contains (pointers_of_datasets xs) ptr). datasets_go P xs ys ptr alike.1 other)
    (Contains-append_cases (pointers_of_files x.files) (pointers_of_datasets xs) ptr among)

pub goes_with_one : (P : Ptr → Ptr → Type 0) (tree other : Tree) (ptr : Ptr) → IsAlike P tree other → Contains (pointers_of_tree tree) ptr → (with : Ptr) × P ptr with
goes_with_one P tree other ptr alike among = datasets_go P tree.datasets other.datasets ptr alike.datasets among

-- each pointer of a tree in which changes were made is one that it had, or one of those that the changes took
pub pointers_of_made : (changes : List Change) (ptrs : List Ptr) (tree : Tree) → length (filter is_made changes) ≤ length ptrs
    → (ptr : Ptr) → Contains (pointers_of_tree (made_in changes ptrs tree)) ptr → Contains (pointers_of_tree tree) ptr ⊎ Contains ptrs ptr
pointers_of_made changes ptrs tree enough ptr among =
    let P : Ptr → Ptr → Type 0 = λ one other. Contains (pointers_of_tree tree) one ⊎ Contains ptrs one in
    let made = made_in changes ptrs tree in
    let go : AreAlike P ptrs ptrs = list_itself P ptrs (λ one one_of. inr one_of) in
    let itself : IsAlike P tree tree = alike_itself P tree (λ one one_of. inl one_of) in
    (goes_with_one P made made ptr (made_alike P changes ptrs ptrs tree tree go enough itself) among).1
