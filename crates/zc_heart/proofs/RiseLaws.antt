-- The files and datasets of a tree: their numbers ascend, and no two have one name.
use Rattle.std.proofs.Common.{◌≡◌, ◌≢◌, ◌∙◌, ℕ, zero, suc, ◌+◌, ◌<◌, ◌≤◌, Bool, true, false, true≢false, ◌==◌, cond, nat_lt, IsTrue, List, [], ◌∷◌, ◌++◌, map, length, Some, None, refl, sym, ap, arith}
use Rattle.std.specs.Prelude.{find}
use Rattle.std.specs.List.{AllByRecursion, list_all, list_any}
use Rattle.std.specs.Option.{option_map}
use Rattle.std.specs.Str.{bytes_eq}
use Rattle.std.proofs.lemmas.Bool.{ltb-true, or_parts, or_from, and_parts, false_from_ne_true, eqb-false, ne_eqb}
use Rattle.std.proofs.lemmas.Slice.Eq.{bytes_eq-Decides}
use Rattle.zc_tree.specs.Names.{is_among, AreNewTo}
use Rattle.zc_tree.specs.Spelling.{AscendFrom, IsDataset}
use Rattle.zc_tree.specs.Catalogue.{AreDatasets}
use Rattle.zc_tree.specs.declared.tree.File.{File}
use Rattle.zc_tree.specs.declared.tree.Dataset.{Dataset}
use Rattle.zc_plain.specs.IsPlain.{StandsAt, AreNumbered}
use Rattle.zc_plain.proofs.NumberedLaws.{stands_in_more}
use Rattle.zc_heart.specs.declared.file.HeartFile.{HeartFile}
use Rattle.zc_heart.specs.declared.directory.Named.{Named}
use Rattle.zc_heart.specs.Core.{AreApart}
use Rattle.zc_heart.specs.Directory.{is_called, id_of}
use Rattle.zc_heart.specs.Opening.{read_named, MayFollow}
use Rattle.zc_heart.proofs.ListLaws.{one_item, no_item, each_of, each_of_two, all_append}

-- each item has a lower number than those after it, and another name
abbrev pub IsBefore : {S : Type 0} → (S → ℕ) → (S → List ℕ) → S → S → Type 0
IsBefore number_of name_of s t = (number_of s < number_of t) × (name_of s ≢ name_of t)

abbrev pub AreInOrder : {S : Type 0} → (S → ℕ) → (S → List ℕ) → List S → Type 0
AreInOrder number_of name_of [] = Unit {0}
AreInOrder number_of name_of (s ∷ ss) = AllByRecursion (IsBefore number_of name_of s) ss × AreInOrder number_of name_of ss

-- what stands among the images is the image of an item
pub image_there : {S X : Type 0} (f : S → X) (P : S → Type 0) (ss : List S) (a : ℕ) (x : X) → AllByRecursion P ss → StandsAt (map f ss) a x → (s : S) × P s × (x ≡ f s)
image_there f P [] a x all stands = no_item x stands
image_there f P (s ∷ ss) zero x all stands = (s, all.0, sym (one_item (f s) x stands))
image_there f P (s ∷ ss) (suc a) x all stands = image_there f P ss a x all.1 stands

-- two images, one before the other
two_there : {S X : Type 0} (f : S → X) (number_of : X → ℕ) (name_of : X → List ℕ) (ss : List S) (a b : ℕ) (x y : X) → AreInOrder (λ s. number_of (f s)) (λ s. name_of (f s)) ss
    → a < b → StandsAt (map f ss) a x → StandsAt (map f ss) b y → (number_of x < number_of y) × (name_of x ≢ name_of y)
two_there f number_of name_of [] a b x y rises before first second = no_item x first
two_there f number_of name_of (s ∷ ss) a zero x y rises before first second = absurd (omega arith)
two_there f number_of name_of (s ∷ ss) zero (suc b) x y rises before first second =
    let other = image_there f (λ t. (number_of (f s) < number_of (f t)) × (name_of (f s) ≢ name_of (f t))) ss b y rises.0 second in
    let is : x ≡ f s = sym (one_item (f s) x first) in (
      omega (arith, ap number_of is, ap number_of other.2, other.1.0),
      λ same. other.1.1 (sym (ap name_of is) ∙ same ∙ ap name_of other.2),
    )
two_there f number_of name_of (s ∷ ss) (suc a) (suc b) x y rises before first second = two_there f number_of name_of ss a b x y rises.1 (omega arith) first second

-- so they are numbered
pub numbered_images : {S X : Type 0} (f : S → X) (number_of : X → ℕ) (name_of : X → List ℕ) (next : ℕ) (ss : List S) → 1 ≤ next
    → AllByRecursion (λ s. (1 ≤ number_of (f s)) × (number_of (f s) < next)) ss → AreInOrder (λ s. number_of (f s)) (λ s. name_of (f s)) ss → AreNumbered number_of name_of next (map f ss)
numbered_images f number_of name_of next ss some within rises = record {
  next_from_one = some;
  from_one = λ a x stands.
      let there = image_there f (λ s. (1 ≤ number_of (f s)) × (number_of (f s) < next)) ss a x within stands in
      omega (arith, ap number_of there.2, there.1.0);
  below_next = λ a x stands.
      let there = image_there f (λ s. (1 ≤ number_of (f s)) × (number_of (f s) < next)) ss a x within stands in
      omega (arith, ap number_of there.2, there.1.1);
  ascending = λ a b x y before first second. (two_there f number_of name_of ss a b x y rises before first second).0;
  one_name = λ a b x y before first second. (two_there f number_of name_of ss a b x y rises before first second).1;
}

-- ---- files

-- numbers that ascend are at least the least
files_above : (least : ℕ) (files : List File) → AscendFrom least (map (λ (file : File). file.id) files) → AllByRecursion (λ (file : File). least ≤ file.id) files
files_above least [] ascend = tt
files_above least (file ∷ files) ascend =
    (ascend.0, each_of (λ (t : File). file.id + 1 ≤ t.id) (λ (t : File). least ≤ t.id) files (λ t le. let least_is = ascend.0 in omega (arith, least_is)) (files_above (file.id + 1) files ascend.1))

-- two names that are told apart aren't one
other_name : (name other : List ℕ) → bytes_eq name other ≡ false → name ≢ other
other_name name other apart same = true≢false (sym ((bytes_eq-Decides name other).1 same) ∙ apart)

-- a name that stands among the others is none of the new ones
name_apart : (name : List ℕ) (others : List (List ℕ)) (k : ℕ) (files : List File) → StandsAt others k name → AreNewTo others (map (λ (file : File). file.name) files) → AllByRecursion (λ (t : File). name ≢ t.name) files
name_apart name others k [] stands new = tt
name_apart name others k (file ∷ files) stands new = (other_name name file.name (none_there others k stands new.0), name_apart name (file.name ∷ others) (suc k) files stands new.1) where
  none_there : (others : List (List ℕ)) (k : ℕ) → StandsAt others k name → is_among file.name others ≡ false → bytes_eq name file.name ≡ false
  none_there [] k stands none = no_item name stands
  none_there (other ∷ others) zero stands none = ap (λ (o : List ℕ). bytes_eq o file.name) (sym (one_item other name stands)) ∙ (or_parts (bytes_eq other file.name) (is_among file.name others) none).0
  none_there (other ∷ others) (suc k) stands none = none_there others k stands (or_parts (bytes_eq other file.name) (is_among file.name others) none).1

pub files_in_order : (least : ℕ) (others : List (List ℕ)) (files : List File) → AscendFrom least (map (λ (file : File). file.id) files) → AreNewTo others (map (λ (file : File). file.name) files)
    → AreInOrder (λ (file : File). file.id) (λ (file : File). file.name) files
files_in_order least others [] ascend new = tt
files_in_order least others (file ∷ files) ascend new = (
  each_of_two (λ (t : File). file.id + 1 ≤ t.id) (λ (t : File). file.name ≢ t.name) (IsBefore (λ (t : File). t.id) (λ (t : File). t.name) file) files
      (λ t le other. (omega arith, other)) (files_above (file.id + 1) files ascend.1) (name_apart file.name (file.name ∷ others) 0 files refl new.1),
  files_in_order (file.id + 1) (file.name ∷ others) files ascend.1 new.1,
)

-- a file may be put after those that come before it
none_called : (name : List ℕ) (front : List (Named HeartFile)) → AllByRecursion (λ (named : Named HeartFile). is_called name named ≡ false) front → find (is_called name) front ≡ None
none_called name [] none = refl
none_called name (named ∷ front) none = (λ i. cond (none.0 i) (Some named) (find (is_called name) front)) ∙ none_called name front none.1

pub may_follow : (found : List (ℕ × List ℕ)) (front : List (Named HeartFile)) (files : List File) → AllByRecursion (λ (named : Named HeartFile). AllByRecursion (λ (t : File). (named.id < t.id) × (named.name ≢ t.name)) files) front
    → AreInOrder (λ (file : File). file.id) (λ (file : File). file.name) files → MayFollow found front files
may_follow found front [] before rises = tt
may_follow found front (file ∷ files) before rises = (
  each_of (λ (named : Named HeartFile). AllByRecursion (λ (t : File). (named.id < t.id) × (named.name ≢ t.name)) (file ∷ files)) (λ (named : Named HeartFile). named.id < file.id) front (λ named all. all.0.0) before,
  ap (option_map id_of) (none_called file.name front
      (each_of (λ (named : Named HeartFile). AllByRecursion (λ (t : File). (named.id < t.id) × (named.name ≢ t.name)) (file ∷ files)) (λ (named : Named HeartFile). is_called file.name named ≡ false) front
      (λ named all. false_from_ne_true (is_called file.name named) (λ same. all.0.1 ((bytes_eq-Decides named.name file.name).0 same))) before)),
  may_follow found (front ++ read_named found file ∷ []) files
      (all_append (λ (named : Named HeartFile). AllByRecursion (λ (t : File). (named.id < t.id) × (named.name ≢ t.name)) files) front (read_named found file ∷ [])
      (each_of (λ (named : Named HeartFile). AllByRecursion (λ (t : File). (named.id < t.id) × (named.name ≢ t.name)) (file ∷ files)) (λ (named : Named HeartFile). AllByRecursion (λ (t : File). (named.id < t.id) × (named.name ≢ t.name)) files) front (λ named all. all.1) before)
      (rises.0, tt))
      rises.1,
)

-- ---- datasets, each after those before it

-- a test that all pass, and one that none does
all_pass : {S : Type 0} (test : S → Bool) (ss : List S) (k : ℕ) (s : S) → StandsAt ss k s → IsTrue (list_all test ss) → test s ≡ true
all_pass test [] k s stands all = no_item s stands
all_pass test (t ∷ ss) zero s stands all = ap test (sym (one_item t s stands)) ∙ (and_parts (test t) (list_all test ss) all).0
all_pass test (t ∷ ss) (suc k) s stands all = all_pass test ss k s stands (and_parts (test t) (list_all test ss) all).1

none_passes : {S : Type 0} (test : S → Bool) (ss : List S) (k : ℕ) (s : S) → StandsAt ss k s → list_any test ss ≡ false → test s ≡ false
none_passes test [] k s stands none = no_item s stands
none_passes test (t ∷ ss) zero s stands none = ap test (sym (one_item t s stands)) ∙ (or_parts (test t) (list_any test ss) none).0
none_passes test (t ∷ ss) (suc k) s stands none = none_passes test ss k s stands (or_parts (test t) (list_any test ss) none).1

-- an item that was put last stands there
last_stands : {S : Type 0} (ss : List S) (s : S) → StandsAt (ss ++ s ∷ []) (length ss) s
last_stands [] s = refl
last_stands (t ∷ ss) s = last_stands ss s

-- what is known of a dataset and of one after it
abbrev pub ComesFirst : Dataset → Dataset → Type 0
ComesFirst s t = (s.id < t.id) × (s.name ≢ t.name) × ((t.slot == s.slot) ≡ false)

after_it : (devices places group next : ℕ) (others ds : List Dataset) (k : ℕ) (s : Dataset) → StandsAt others k s → AreDatasets devices places group next others ds → AllByRecursion (ComesFirst s) ds
after_it devices places group next others [] k s stands are = tt
after_it devices places group next others (d ∷ ds) k s stands are = (
  (
    ltb-true s.id d.id (all_pass (λ (other : Dataset). nat_lt other.id d.id) others k s stands are.1.above),
    other_name s.name d.name (none_passes (λ (other : Dataset). bytes_eq other.name d.name) others k s stands are.1.other_name),
    ne_eqb d.slot s.slot (λ same. eqb-false s.slot d.slot (none_passes (λ (other : Dataset). other.slot == d.slot) others k s stands are.1.other_slot) (sym same)),
  ),
  after_it devices places group next (others ++ d ∷ []) ds k s (stands_in_more others (d ∷ []) k s stands) are.2,
)

pub datasets_in_order : (devices places group next : ℕ) (others ds : List Dataset) → AreDatasets devices places group next others ds → AreInOrder (λ (d : Dataset). d.id) (λ (d : Dataset). d.name) ds
datasets_in_order devices places group next others [] are = tt
datasets_in_order devices places group next others (d ∷ ds) are = (
  each_of (ComesFirst d) (IsBefore (λ (t : Dataset). t.id) (λ (t : Dataset). t.name) d) ds (λ t first. (first.0, first.1)) (after_it devices places group next (others ++ d ∷ []) ds (length others) d (last_stands others d) are.2),
  datasets_in_order devices places group next (others ++ d ∷ []) ds are.2,
)

-- no two have one log area
slots_none : (d : Dataset) (ds : List Dataset) → AllByRecursion (λ (t : Dataset). (t.slot == d.slot) ≡ false) ds → list_any (λ other. other == d.slot) (map (λ (t : Dataset). t.slot) ds) ≡ false
slots_none d [] none = refl
slots_none d (t ∷ ds) none = or_from (t.slot == d.slot) (list_any (λ other. other == d.slot) (map (λ (u : Dataset). u.slot) ds)) none.0 (slots_none d ds none.1)

pub slots_apart : (devices places group next : ℕ) (others ds : List Dataset) → AreDatasets devices places group next others ds → AreApart (map (λ (d : Dataset). d.slot) ds)
slots_apart devices places group next others [] are = tt
slots_apart devices places group next others (d ∷ ds) are = (
  slots_none d ds (each_of (ComesFirst d) (λ (t : Dataset). (t.slot == d.slot) ≡ false) ds (λ t first. first.2) (after_it devices places group next (others ++ d ∷ []) ds (length others) d (last_stands others d) are.2)),
  slots_apart devices places group next (others ++ d ∷ []) ds are.2,
)

-- what holds of each dataset by itself
pub each_dataset : (devices places group next : ℕ) (others ds : List Dataset) → AreDatasets devices places group next others ds → AllByRecursion (IsDataset devices places group next) ds
each_dataset devices places group next others [] are = tt
each_dataset devices places group next others (d ∷ ds) are = (are.0, each_dataset devices places group next (others ++ d ∷ []) ds are.2)
