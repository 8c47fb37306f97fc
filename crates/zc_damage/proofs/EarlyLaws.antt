-- Where an early check hits nothing its fact holds everywhere, and the other way round.
use Rattle.std.proofs.Common.{◌≡◌, ◌∙◌, ℕ, zero, suc, ◌<◌, ◌≤◌, Bool, true, false, not, ◌&&◌, cond, eqb, ltb, eq-eqb, Option, Some, None, List, [], ◌∷◌, map, filter, length, get_or, Contains, refl, sym, ap, subst, arith}
use Rattle.std.specs.List.{AllByRecursion}
use Rattle.std.specs.Str.{bytes_eq}
use Rattle.std.proofs.lemmas.Bool.{eqb-true, ltb-false, le-ltb, and_parts, not-false}
use Rattle.std.proofs.lemmas.Slice.Eq.{bytes_eq-Decides}
use Rattle.std.proofs.lemmas.List.Elements.{All-from_recursion, recursion_from_All, All-contains, All-from_get_or, Contains-get_or}
use Rattle.zc_num.specs.Limits.{total_of}
use Rattle.zc_num.specs.declared.numbers.PlaceAt.{PlaceAt}
use Rattle.zc_blkptr.specs.declared.ptr.Ptr.{Ptr}
use Rattle.zc_tree.specs.declared.tree.Tree.{Tree}
use Rattle.zc_tree.specs.declared.tree.Dataset.{Dataset}
use Rattle.zc_tree.specs.declared.tree.LogState.{LogState}
use Rattle.zc_tree.specs.declared.tree.LogState.TheVariants.{Normal, Claimed}
use Rattle.zc_tree.specs.declared.catalogue.Parts.{Parts}
use Rattle.zc_tree.specs.Reach.{pointers_of_tree}
use Rattle.zc_damage.specs.Words.{or_else, when}
use Rattle.zc_damage.specs.Places.{number_of, is_to, pointers_to, chain_has, IsPlace, ReachPlaces}
use Rattle.zc_damage.specs.Checks.{highest_number, worn_hit, worn_hit_at, birth_hit, birth_hit_at, log_hit, log_hit_of, log_hit_in, differ, other_block, beside, owners_of, owners_at, owner_hit_in, owner_hit_at, owner_hit, early_hit}
use Rattle.zc_damage.specs.Passed.{AreLow, AreOfOneBlock, HaveOneOwner, PassesEarly}
use Rattle.zc_damage.proofs.FirstLaws.{neither, none_of_both, none_of, of_none, none_from, from_none}
use Rattle.zc_damage.proofs.PlaceNumbers.{number_below}

-- ---- tests and lists

-- what is made where a test holds is not made where it doesn't
pub when_none : {Y : Type 0} (test : Bool) (y : Y) → when test y ≡ None → test ≡ false
when_none true y none = absurd cc
when_none false y none = refl

pub none_when : {Y : Type 0} (test : Bool) (y : Y) → test ≡ false → when test y ≡ None
none_when test y fails = ap (λ (b : Bool). cond b (Some y) None) fails

-- what follows for each item
pub each_weaker : {X : Type 0} (P Q : X → Type 0) → ((x : X) → P x → Q x) → (xs : List X) → AllByRecursion P xs → AllByRecursion Q xs
each_weaker P Q follows [] holds = tt
each_weaker P Q follows (x ∷ xs) holds = (follows x holds.0, each_weaker P Q follows xs holds.1)

-- each image has what each item has of its image
pub each_image : {X Y : Type 0} (P : Y → Type 0) (g : X → Y) (xs : List X) → AllByRecursion P (map g xs) → AllByRecursion (λ x. P (g x)) xs
each_image P g [] holds = tt
each_image P g (x ∷ xs) holds = (holds.0, each_image P g xs holds.1)

pub image_each : {X Y : Type 0} (P : Y → Type 0) (g : X → Y) (xs : List X) → AllByRecursion (λ x. P (g x)) xs → AllByRecursion P (map g xs)
image_each P g [] holds = tt
image_each P g (x ∷ xs) holds = (holds.0, image_each P g xs holds.1)

-- an item of a list that passes the test is one of those that pass
pub contains_passing : {X : Type 0} (test : X → Bool) (xs : List X) (x : X) → Contains xs x → test x ≡ true → Contains (filter test xs) x
contains_passing {X} test xs x there passes = at_index xs there.0 there.1 there.2
  where
    kept : (y : X) (ys : List X) (b : Bool) → Contains (filter test ys) x → Contains (cond b (y ∷ filter test ys) (filter test ys)) x
    kept y ys true rest = (suc rest.0, omega (arith, rest.1), rest.2)
    kept y ys false rest = rest

    at_index : (xs : List X) (k : ℕ) → k < length xs → get_or xs k x ≡ x → Contains (filter test xs) x
    at_index [] k within is = absurd (omega arith)
    at_index (y ∷ ys) zero within is =
        subst (λ (b : Bool). Contains (cond b (y ∷ filter test ys) (filter test ys)) x) (sym (ap test is ∙ passes)) (zero, omega arith, is)
    at_index (y ∷ ys) (suc k) within is = kept y ys (test y) (at_index ys k (omega arith) is)

-- one of those that pass is an item of the list
pub passing_contains : {X : Type 0} (test : X → Bool) (xs : List X) (x : X) → Contains (filter test xs) x → Contains xs x × (test x ≡ true)
passing_contains test [] x there = absurd (omega (arith, there.1))
passing_contains {X} test (y ∷ ys) x there = by_test (test y) refl there (λ rest. passing_contains test ys x rest)
  where
    behind : (Contains ys x × (test x ≡ true)) → Contains (y ∷ ys) x × (test x ≡ true)
    behind rest = ((suc rest.0.0, omega (arith, rest.0.1), rest.0.2), rest.1)

    at_index : test y ≡ true → (k : ℕ) → k < length (y ∷ filter test ys) → get_or (y ∷ filter test ys) k x ≡ x → (Contains (filter test ys) x → Contains ys x × (test x ≡ true)) → Contains (y ∷ ys) x × (test x ≡ true)
    at_index passes zero within is others = ((zero, omega arith, is), ap test (sym is) ∙ passes)
    at_index passes (suc k) within is others = behind (others (k, omega arith, is))

    by_test : (b : Bool) → test y ≡ b → Contains (cond b (y ∷ filter test ys) (filter test ys)) x → (Contains (filter test ys) x → Contains ys x × (test x ≡ true)) → Contains (y ∷ ys) x × (test x ≡ true)
    by_test true passes there others = at_index passes there.0 there.1 there.2 others
    by_test false fails there others = behind (others there)

-- ---- worn

pub worn_none : (tree : Tree) → worn_hit tree ≡ None → AreLow tree
worn_none tree none =
    let low : (number : ℕ) → worn_hit_at tree.group number ≡ None → number ≤ highest_number = λ number passed. ltb-false highest_number number (when_none (ltb highest_number number) _ passed) in
    let all = none_of (worn_hit_at tree.group) (tree.group ∷ (tree.next_dataset ∷ map (λ (dataset : Dataset). dataset.next_file) tree.datasets)) none in
    record {
      group = low tree.group all.0;
      next_dataset = low tree.next_dataset all.1.0;
      next_files = each_weaker _ _ (λ dataset. low dataset.next_file) tree.datasets (each_image (λ number. worn_hit_at tree.group number ≡ None) (λ (dataset : Dataset). dataset.next_file) tree.datasets all.1.1);
    }

pub none_worn : (tree : Tree) → AreLow tree → worn_hit tree ≡ None
none_worn tree low =
    let passed : (number : ℕ) → number ≤ highest_number → worn_hit_at tree.group number ≡ None = λ number le. none_when (ltb highest_number number) _ (le-ltb highest_number number le) in
    of_none (worn_hit_at tree.group) (tree.group ∷ (tree.next_dataset ∷ map (λ (dataset : Dataset). dataset.next_file) tree.datasets)) (
      passed tree.group low.group,
      (
        passed tree.next_dataset low.next_dataset,
        image_each (λ number. worn_hit_at tree.group number ≡ None) (λ (dataset : Dataset). dataset.next_file) tree.datasets (each_weaker _ _ (λ dataset. passed dataset.next_file) tree.datasets low.next_files),
      ),
    )

-- ---- birth

pub birth_none : (group : ℕ) (reach : List Ptr) → birth_hit group reach ≡ None → AllByRecursion (λ ptr. ptr.logical ≤ group) reach
birth_none group reach none = each_weaker _ _ (λ ptr passed. ltb-false group ptr.logical (when_none (ltb group ptr.logical) _ passed)) reach (none_of (birth_hit_at group) reach none)

pub none_birth : (group : ℕ) (reach : List Ptr) → AllByRecursion (λ ptr. ptr.logical ≤ group) reach → birth_hit group reach ≡ None
none_birth group reach low = of_none (birth_hit_at group) reach (each_weaker _ _ (λ ptr le. none_when (ltb group ptr.logical) _ (le-ltb group ptr.logical le)) reach low)

-- ---- log

pub log_none : (devices places : ℕ) (datasets : List Dataset) → log_hit devices places datasets ≡ None → AllByRecursion (λ dataset. dataset.log ≡ Normal) datasets
log_none devices places datasets none = each_weaker _ _ (λ dataset passed. unclaimed dataset.slot dataset.log passed) datasets (none_of (log_hit_of devices places) datasets none)
  where
    unclaimed : (slot : ℕ) (log : LogState) → log_hit_in devices places slot log ≡ None → log ≡ Normal
    unclaimed slot Normal passed = refl
    unclaimed slot (Claimed epoch blocks) passed = absurd cc

pub none_log : (devices places : ℕ) (datasets : List Dataset) → AllByRecursion (λ dataset. dataset.log ≡ Normal) datasets → log_hit devices places datasets ≡ None
none_log devices places datasets normal = of_none (log_hit_of devices places) datasets (each_weaker _ _ (λ dataset is. ap (log_hit_in devices places dataset.slot) is) datasets normal)

-- ---- owner

-- pointers that don't differ are of one block, and the other way round
pub one_block : (first other : Ptr) → differ first other ≡ false → AreOfOneBlock first other
one_block first other same =
    let parts = and_parts (eqb first.physical other.physical) (bytes_eq first.digest other.digest) (not-false (eqb first.physical other.physical && bytes_eq first.digest other.digest) same) in
    (eqb-true first.physical other.physical parts.0, (bytes_eq-Decides first.digest other.digest).0 parts.1)

pub not_different : (first other : Ptr) → AreOfOneBlock first other → differ first other ≡ false
not_different first other same =
    ap (λ (b : Bool). not (b && bytes_eq first.digest other.digest)) (eq-eqb first.physical other.physical same.0)
    ∙ ap (λ (b : Bool). not b) ((bytes_eq-Decides first.digest other.digest).1 same.1)

-- the pointers to a place, where it has no two owners
record HasOwner (in_catalogue : Bool) (ptrs : List Ptr) : Type 0 where
  agree : (first other : Ptr) → Contains ptrs first → Contains ptrs other → AreOfOneBlock first other
  free : (ptr : Ptr) → Contains ptrs ptr → in_catalogue ≡ false

joined : (first one other : Ptr) → AreOfOneBlock first one → AreOfOneBlock first other → AreOfOneBlock one other
joined first one other left right = (sym left.0 ∙ right.0, sym left.1 ∙ right.1)

-- each of them is of the block of the first
with_first : (first : Ptr) (ptrs : List Ptr) → AllByRecursion (λ ptr. differ first ptr ≡ false) ptrs → (ptr : Ptr) → Contains (first ∷ ptrs) ptr → AreOfOneBlock first ptr
with_first first ptrs same ptr there =
    All-contains (AreOfOneBlock first) (first ∷ ptrs) ptr
    (All-from_recursion (AreOfOneBlock first) (first ∷ ptrs) ((refl, refl), each_weaker _ _ (λ other. one_block first other) ptrs same)) there

no_births : (first : ℕ) (other : Option ℕ) → beside first other ≡ None → other ≡ None
no_births first None none = refl
no_births first (Some birth) none = absurd cc

has_owner : (in_catalogue : Bool) (ptrs : List Ptr) → owners_of in_catalogue ptrs ≡ None → HasOwner in_catalogue ptrs
has_owner in_catalogue [] none = record { agree = λ first other there. absurd (omega (arith, there.1)); free = λ ptr there. absurd (omega (arith, there.1)) }
has_owner true (first ∷ ptrs) none = absurd cc
has_owner false (first ∷ ptrs) none =
    let births = no_births first.physical (other_block first ptrs) none in
    let same = each_weaker _ _ (λ ptr passed. when_none (differ first ptr) ptr.physical passed) ptrs (none_of (λ (ptr : Ptr). when (differ first ptr) ptr.physical) ptrs births) in
    record {
      agree = λ one other one_there other_there. joined first one other (with_first first ptrs same one one_there) (with_first first ptrs same other other_there);
      free = λ ptr there. refl;
    }

-- and the other way round
owner_has : (in_catalogue : Bool) (ptrs : List Ptr) → HasOwner in_catalogue ptrs → owners_of in_catalogue ptrs ≡ None
owner_has in_catalogue [] owner = refl
owner_has in_catalogue (first ∷ ptrs) owner =
    let here : Contains (first ∷ ptrs) first = (zero, omega arith, refl) in
    let Same : Ptr → Type 0 = λ (ptr : Ptr). differ first ptr ≡ false in
    let same : AllByRecursion Same ptrs =
    recursion_from_All Same ptrs (All-from_get_or Same ptrs first
    (λ i within. not_different first (get_or ptrs i first) (owner.agree first (get_or ptrs i first) here (there i within)))) in
    let births : other_block first ptrs ≡ None =
    of_none (λ (ptr : Ptr). when (differ first ptr) ptr.physical) ptrs (each_weaker _ _ (λ ptr is. none_when (differ first ptr) ptr.physical is) ptrs same) in
    ap (λ (b : Bool). cond b (Some (0, first.physical)) (beside first.physical (other_block first ptrs))) (owner.free first here) ∙ ap (beside first.physical) births
  where
    there : (i : ℕ) → i < length ptrs → Contains (first ∷ ptrs) (get_or ptrs i first)
    there i within =
        let inner = Contains-get_or ptrs i first within in
        (suc inner.0, omega (arith, inner.1), inner.2)

-- two owners are a hit
no_owners : (places number : ℕ) (owners : Option (ℕ × ℕ)) → owner_hit_in places number owners ≡ None → owners ≡ None
no_owners places number None none = refl
no_owners places number (Some births) none = absurd cc

-- each pointer of the pool's is to one of its places
pub owner_none : (devices places : ℕ) (chain : List PlaceAt) (reach : List Ptr) → ReachPlaces devices places reach → owner_hit devices places chain reach ≡ None → HaveOneOwner places chain reach
owner_none devices places chain reach all none =
    let number : Ptr → ℕ = λ ptr. number_of places ptr.device ptr.place in
    let there : (ptr : Ptr) → Contains reach ptr → IsPlace devices places ptr.device ptr.place =
    λ ptr has. All-contains (λ (p : Ptr). IsPlace devices places p.device p.place) reach ptr all has in
    let owner = λ (ptr : Ptr) (has : Contains reach ptr).
    has_owner (chain_has places chain (number ptr)) (pointers_to places reach (number ptr))
    (no_owners places (number ptr) (owners_at places chain reach (number ptr))
    (none_from (owner_hit_at places chain reach) 0 (total_of devices places) none (number ptr) (omega arith)
    (omega (arith, number_below devices places ptr.device ptr.place (there ptr has).0 (there ptr has).1)))) in
    record {
      one_block = λ first other has_first has_other same.
          HasOwner.agree (owner first has_first) first other
          (contains_passing (is_to places (number first)) reach first has_first (eq-eqb (number first) (number first) refl))
          (contains_passing (is_to places (number first)) reach other has_other (eq-eqb (number other) (number first) (sym same)));
      not_in_catalogue = λ ptr has. HasOwner.free (owner ptr has) ptr (contains_passing (is_to places (number ptr)) reach ptr has (eq-eqb (number ptr) (number ptr) refl));
    }

pub none_owner : (devices places : ℕ) (chain : List PlaceAt) (reach : List Ptr) → HaveOneOwner places chain reach → owner_hit devices places chain reach ≡ None
none_owner devices places chain reach one =
    from_none (owner_hit_at places chain reach) 0 (total_of devices places)
    (λ number from below.
    ap (owner_hit_in places number)
    (owner_has (chain_has places chain number) (pointers_to places reach number)
    (record {
      agree = λ first other has_first has_other.
          let in_first = passing_contains (is_to places number) reach first has_first in
          let in_other = passing_contains (is_to places number) reach other has_other in
          one.one_block first other in_first.0 in_other.0
          (eqb-true (number_of places first.device first.place) number in_first.1 ∙ sym (eqb-true (number_of places other.device other.place) number in_other.1));
      free = λ ptr has.
          let in_reach = passing_contains (is_to places number) reach ptr has in
          ap (chain_has places chain) (sym (eqb-true (number_of places ptr.device ptr.place) number in_reach.1)) ∙ one.not_in_catalogue ptr in_reach.0;
    })))

-- ---- all of them

pub early_none : (devices places : ℕ) (parts : Parts) (chain : List PlaceAt) → ReachPlaces devices places (pointers_of_tree parts.tree) → early_hit devices places parts chain ≡ None → PassesEarly devices places parts chain
early_none devices places parts chain all none =
    let reach = pointers_of_tree parts.tree in
    let worn = neither (worn_hit parts.tree) (or_else (birth_hit parts.tree.group reach) (or_else (log_hit devices places parts.tree.datasets) (owner_hit devices places chain reach))) none in
    let birth = neither (birth_hit parts.tree.group reach) (or_else (log_hit devices places parts.tree.datasets) (owner_hit devices places chain reach)) worn.1 in
    let log = neither (log_hit devices places parts.tree.datasets) (owner_hit devices places chain reach) birth.1 in
    record {
      numbers = worn_none parts.tree worn.0;
      births = birth_none parts.tree.group reach birth.0;
      logs = log_none devices places parts.tree.datasets log.0;
      owners = owner_none devices places chain reach all log.1;
    }

pub none_early : (devices places : ℕ) (parts : Parts) (chain : List PlaceAt) → PassesEarly devices places parts chain → early_hit devices places parts chain ≡ None
none_early devices places parts chain passes =
    let reach = pointers_of_tree parts.tree in
    none_of_both (worn_hit parts.tree) (or_else (birth_hit parts.tree.group reach) (or_else (log_hit devices places parts.tree.datasets) (owner_hit devices places chain reach)))
    (none_worn parts.tree passes.numbers)
    (none_of_both (birth_hit parts.tree.group reach) (or_else (log_hit devices places parts.tree.datasets) (owner_hit devices places chain reach))
    (none_birth parts.tree.group reach passes.births)
    (none_of_both (log_hit devices places parts.tree.datasets) (owner_hit devices places chain reach)
    (none_log devices places parts.tree.datasets passes.logs)
    (none_owner devices places chain reach passes.owners)))
