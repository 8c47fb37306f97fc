-- What is kept of blocks by their stamps, after it was put or taken, and how many stamps some file has.
use Rattle.std.proofs.Common.{◌≡◌, ◌∙◌, ℕ, suc, ◌+◌, ◌≤◌, ◌==◌, Bool, true, false, not, cond, ◌||◌, ◌&&◌, List, [], ◌∷◌, ◌++◌, length, map, Option, Some, None, IsTrue, is_some, refl, sym, ap, ⊎_elim, unwrap_or, option_map, arith, count_by}
use Rattle.std.specs.Prelude.{filter, Result, Ok, Err, OnOk, OnErr}
use Rattle.std.specs.BTreeMap.{is_at, insert_entry}
use Rattle.std.specs.Cmp.{IsTotalOrder, IsEquivalence}
use Rattle.std.specs.List.{AllByRecursion, list_any, IsDistinct}
use Rattle.std.specs.List.Sorted.{IsStrictlySortedBy}
use Rattle.std.specs.Map.{lookup, remove_entry, keys_of, values_of}
use Rattle.std.specs.Ordering.{nat_cmp, is_eq, ordering_then, eq_by_cmp}
use Rattle.std.specs.Set.{is_member}
use Rattle.std.specs.declared.cmp.Ordering.{Ordering}
use Rattle.std.specs.declared.cmp.Ordering.TheVariants.{Less, Equal, Greater}
use Rattle.std.proofs.lemmas.Bool.{cases_Bool, eq-eqb, ne_eqb, eqb-true, and_parts, and_from, true≢false}
use Rattle.std.proofs.lemmas.Cmp.{nat_cmp_total, on_total, then_total, eq_by_cmp_equiv, nat_eq_equiv, on_equiv, and_equiv}
use Rattle.std.proofs.lemmas.List.Folds.{list_any-append}
use Rattle.std.proofs.lemmas.List.Sums.{sum_by-cons}
use Rattle.std.proofs.lemmas.Map.Entries.{sum_by-insert_entry, sum_by-remove_entry, lookup-filter-values, option_filter}
use Rattle.std.proofs.lemmas.Map.Keys.{IsDistinct-from_sorted, IsDistinct-push}
use Rattle.std.proofs.lemmas.Map.Made.{is_some-lookup, length-from_same_keys, IsDistinct-keys_filter}
use Rattle.zc_plain.specs.Charge.{is_stamp, with_one, with_each}
use Rattle.zc_heart.specs.declared.stamps.Stamp.{Stamp}
use Rattle.zc_heart.specs.declared.stamps.Count.{Count}
use Rattle.zc_heart.specs.declared.stamps.Stamps.{Stamps}
use Rattle.zc_heart.specs.Standing.{stands, standing}
use Rattle.zc_heart.specs.Stamps.{stamp_cmp, pair_of, stamp_at, files_of, AreCounted}
use Rattle.zc_heart.proofs.DirectoryLaws.{same_number}

-- ---- stamps that are one

same_key : (a b : ℕ) → is_eq (nat_cmp a b) ≡ (a == b)
same_key a b = same_number a b ∙ flipped
  where
    flipped : (b == a) ≡ (a == b)
    flipped = nat_eq_equiv.symm b a

both_equal : (x y : Ordering) → is_eq (ordering_then x y) ≡ (is_eq x && is_eq y)
both_equal Less y = refl
both_equal Equal y = refl
both_equal Greater y = refl

-- the order of stamps tells apart what the test does
pub same_stamp : (a b : Stamp) → is_at (stamp_cmp a) b ≡ is_stamp (pair_of a) (pair_of b)
same_stamp a b =
    both_equal (nat_cmp a.entry b.entry) (nat_cmp a.index b.index)
    ∙ ap (λ (t : Bool). t && is_eq (nat_cmp a.index b.index)) (same_key a.entry b.entry)
    ∙ ap (λ (t : Bool). (a.entry == b.entry) && t) (same_key a.index b.index)

-- stamps that the test takes for one are one
pub one_stamp : (a b : ℕ × ℕ) → is_stamp a b ≡ true → a ≡ b
one_stamp a b same =
    let parts = and_parts (a.0 == b.0) (a.1 == b.1) same in
    let entry : a.0 ≡ b.0 = eqb-true a.0 b.0 parts.0 in
    let index : a.1 ≡ b.1 = eqb-true a.1 b.1 parts.1 in
    ap (λ (e : ℕ). (e, a.1)) entry ∙ ap (λ (i : ℕ). (b.0, i)) index

pub stamp_itself : (a : ℕ × ℕ) → is_stamp a a ≡ true
stamp_itself a = and_from (a.0 == a.0) (a.1 == a.1) (eq-eqb a.0 a.0 refl) (eq-eqb a.1 a.1 refl)

pub stamps_equiv : IsEquivalence is_stamp
stamps_equiv = and_equiv (on_equiv (λ (a : ℕ × ℕ). a.0) nat_eq_equiv) (on_equiv (λ (a : ℕ × ℕ). a.1) nat_eq_equiv)

pub stamps_total : IsTotalOrder stamp_cmp
stamps_total = then_total (on_total (λ (a : Stamp). a.entry) nat_cmp_total) (on_total (λ (a : Stamp). a.index) nat_cmp_total)

-- ---- what is kept

-- what is kept of a stamp among these entries
abbrev pub kept_in : List (Stamp × Count) → ℕ × ℕ → Option Count
kept_in entries stamp = lookup (is_at (stamp_cmp (stamp_at stamp))) entries

-- of this stamp this is kept, and of each other what was
pub kept_put : (before after : List (Stamp × Count)) (at : Stamp) (kept : Option Count)
    → ((q : Stamp) → lookup (is_at (stamp_cmp q)) after ≡ cond (is_at (stamp_cmp at) q) kept (lookup (is_at (stamp_cmp q)) before))
    → (stamp : ℕ × ℕ) → kept_in after stamp ≡ cond (is_stamp (pair_of at) stamp) kept (kept_in before stamp)
kept_put before after at kept updates stamp = updates (stamp_at stamp) ∙ ap (λ (t : Bool). cond t kept (kept_in before stamp)) (same_stamp at (stamp_at stamp))

-- where something was put of a stamp that reads as nothing, all reads as it did
pub reads_same : {X : Type 0} (f : Option Count → X) (before after : List (Stamp × Count)) (at : Stamp) (kept : Option Count)
    → ((q : Stamp) → lookup (is_at (stamp_cmp q)) after ≡ cond (is_at (stamp_cmp at) q) kept (lookup (is_at (stamp_cmp q)) before))
    → f kept ≡ f (kept_in before (pair_of at)) → (stamp : ℕ × ℕ) → f (kept_in after stamp) ≡ f (kept_in before stamp)
reads_same f before after at kept updates same stamp =
    ⊎_elim
    (λ (here : is_stamp (pair_of at) stamp ≡ true).
    ap f (kept_put before after at kept updates stamp ∙ ap (λ (t : Bool). cond t kept (kept_in before stamp)) here) ∙ same ∙ ap (λ (s : ℕ × ℕ). f (kept_in before s)) (one_stamp (pair_of at) stamp here))
    (λ (apart : is_stamp (pair_of at) stamp ≡ false).
    ap f (kept_put before after at kept updates stamp ∙ ap (λ (t : Bool). cond t kept (kept_in before stamp)) apart))
    (cases_Bool (is_stamp (pair_of at) stamp))

-- where something was put, there is still room wherever there was
pub room_stays : (before after : List (Stamp × Count)) (at : Stamp) (count : Count)
    → ((q : Stamp) → lookup (is_at (stamp_cmp q)) after ≡ cond (is_at (stamp_cmp at) q) (Some count) (lookup (is_at (stamp_cmp q)) before))
    → (stamp : ℕ × ℕ) → IsTrue (is_some (kept_in before stamp)) → IsTrue (is_some (kept_in after stamp))
room_stays before after at count updates stamp room =
    ⊎_elim
    (λ (here : is_stamp (pair_of at) stamp ≡ true).
    ap is_some (kept_put before after at (Some count) updates stamp ∙ ap (λ (t : Bool). cond t (Some count) (kept_in before stamp)) here))
    (λ (apart : is_stamp (pair_of at) stamp ≡ false).
    ap is_some (kept_put before after at (Some count) updates stamp ∙ ap (λ (t : Bool). cond t (Some count) (kept_in before stamp)) apart) ∙ room)
    (cases_Bool (is_stamp (pair_of at) stamp))

-- what isn't some is none
pub none_of : {X : Type 0} (found : Option X) → is_some found ≡ false → found ≡ None
none_of None isnt = refl
none_of (Some x) isnt = absurd (true≢false isnt)

-- ---- how many stamps some file has, as one is put or taken

pub stands_once : (count : Count) → stands count ≤ 1
stands_once count =
    ⊎_elim
    (λ (none : (count.files == 0) ≡ true). let zero : stands count ≡ 0 = rw none in omega arith)
    (λ (some : (count.files == 0) ≡ false). let one : stands count ≡ 1 = rw some in omega arith)
    (cases_Bool (count.files == 0))

pub few_stand : (entries : List (Stamp × Count)) → standing entries ≤ length entries
few_stand [] = omega arith
few_stand (entry ∷ entries) = omega (arith, sum_by-cons stands entry.1 (values_of entries), stands_once entry.1, few_stand entries)

pub stands_put : (entries : List (Stamp × Count)) (at : Stamp) (count before : Count) → IsStrictlySortedBy stamp_cmp (keys_of entries) → lookup (is_at (stamp_cmp at)) entries ≡ Some before
    → standing (insert_entry stamp_cmp entries at count) + stands before ≡ standing entries + stands count
stands_put entries at count before ascending there =
    ap (λ (found : Option Count). standing (insert_entry stamp_cmp entries at count) + unwrap_or (option_map stands found) 0) (sym there) ∙ sum_by-insert_entry stands stamps_total entries at count ascending

pub stands_room : (entries : List (Stamp × Count)) (at : Stamp) (count : Count) → IsStrictlySortedBy stamp_cmp (keys_of entries) → lookup (is_at (stamp_cmp at)) entries ≡ None
    → standing (insert_entry stamp_cmp entries at count) ≡ standing entries + stands count
stands_room entries at count ascending none =
    let more = ap (λ (found : Option Count). standing (insert_entry stamp_cmp entries at count) + unwrap_or (option_map stands found) 0) (sym none) ∙ sum_by-insert_entry stands stamps_total entries at count ascending in
    omega (arith, more)

-- room alone makes none of them, whether there was memory for it or not
pub stands_tried : {A E : Type 0} (result : Result A E) (before after : List (Stamp × Count)) (at : Stamp) (room : Count) → IsStrictlySortedBy stamp_cmp (keys_of before) → lookup (is_at (stamp_cmp at)) before ≡ None → stands room ≡ 0
    → OnOk result (after ≡ insert_entry stamp_cmp before at room) → OnErr result (after ≡ before) → standing after ≡ standing before
stands_tried (Ok done) before after at room ascending none nothing put stays = let more = stands_room before at room ascending none in let same = ap standing put in omega (arith, more, same, nothing)
stands_tried (Err fault) before after at room ascending none nothing put stays = ap standing stays

pub stands_taken : (entries : List (Stamp × Count)) (at : Stamp) (before : Count) → lookup (is_at (stamp_cmp at)) entries ≡ Some before → standing (remove_entry (is_at (stamp_cmp at)) entries) + stands before ≡ standing entries
stands_taken entries at before there =
    ap (λ (found : Option Count). standing (remove_entry (is_at (stamp_cmp at)) entries) + unwrap_or (option_map stands found) 0) (sym there) ∙ sum_by-remove_entry stands (is_at (stamp_cmp at)) entries

-- ---- how many different stamps a list has

module _ {X : Type 0} {same : X → X → Bool} (laws : IsEquivalence same) where
  -- one more, once
  any_with_one : (items : List X) (item q : X) → list_any (same q) (with_one same items item) ≡ (list_any (same q) items || same q item)
  any_with_one items item q =
      ⊎_elim
      (λ (there : list_any (same item) items ≡ true).
      let stays : with_one same items item ≡ items = ap (λ (t : Bool). cond t items (items ++ item ∷ [])) there in
      ap (list_any (same q)) stays ∙ known (list_any (same q) items) (same q item) (λ equal. equal_any q item items equal ∙ there))
      (λ (absent : list_any (same item) items ≡ false).
      let grows : with_one same items item ≡ items ++ item ∷ [] = ap (λ (t : Bool). cond t items (items ++ item ∷ [])) absent in
      ap (list_any (same q)) grows ∙ list_any-append (same q) items (item ∷ []) ∙ ap (λ (t : Bool). list_any (same q) items || t) (last (same q item)))
      (cases_Bool (list_any (same item) items))
    where
      known : (a b : Bool) → (b ≡ true → a ≡ true) → a ≡ (a || b)
      known true b from = refl
      known false true from = from refl
      known false false from = refl

      last : (a : Bool) → (a || false) ≡ a
      last true = refl
      last false = refl

      equal_any : (q item : X) (items : List X) → same q item ≡ true → list_any (same q) items ≡ list_any (same item) items
      equal_any q item [] equal = refl
      equal_any q item (x ∷ xs) equal = ap (λ (t : Bool). t || list_any (same q) xs) (laws.congr q item x equal) ∙ ap (λ (t : Bool). same item x || t) (equal_any q item xs equal)

  distinct_with_one : (items : List X) (item : X) → IsDistinct same items → IsDistinct same (with_one same items item)
  distinct_with_one items item distinct =
      ⊎_elim
      (λ (there : list_any (same item) items ≡ true). rw there distinct)
      (λ (absent : list_any (same item) items ≡ false). rw absent (IsDistinct-push laws items item distinct absent))
      (cases_Bool (list_any (same item) items))

  pub any_with_each : (items more : List X) (q : X) → list_any (same q) (with_each same items more) ≡ (list_any (same q) items || list_any (same q) more)
  unfolding with_each
  any_with_each items [] q = sym (last (list_any (same q) items))
    where
      last : (a : Bool) → (a || false) ≡ a
      last true = refl
      last false = refl
  any_with_each items (item ∷ more) q =
      any_with_each (with_one same items item) more q ∙ ap (λ (t : Bool). t || list_any (same q) more) (any_with_one items item q)
      ∙ grouped (list_any (same q) items) (same q item) (list_any (same q) more)
    where
      grouped : (a b c : Bool) → ((a || b) || c) ≡ (a || (b || c))
      grouped true b c = refl
      grouped false b c = refl

  pub distinct_with_each : (items more : List X) → IsDistinct same items → IsDistinct same (with_each same items more)
  unfolding with_each
  distinct_with_each items [] distinct = distinct
  distinct_with_each items (item ∷ more) distinct = distinct_with_each (with_one same items item) more (distinct_with_one items item distinct)

-- a stamp is in a list where it is counted
any_counted : {X : Type 0} (test : X → Bool) (items : List X) → list_any test items ≡ not (count_by test items == 0)
any_counted test [] = refl
any_counted {X} test (item ∷ items) =
    ⊎_elim
    (λ (here : test item ≡ true).
    let count : count_by test (item ∷ items) ≡ 1 + count_by test items = sum_by-cons (λ (x : X). cond (test x) 1 0) item items ∙ ap (λ (t : Bool). cond t 1 0 + count_by test items) here in
    let more : (count_by test (item ∷ items) == 0) ≡ false = ne_eqb (count_by test (item ∷ items)) 0 (λ equal. absurd (omega arith)) in
    ap (λ (t : Bool). t || list_any test items) here ∙ ap not (sym more))
    (λ (apart : test item ≡ false).
    let first : count_by test (item ∷ items) ≡ 0 + count_by test items = sum_by-cons (λ (x : X). cond (test x) 1 0) item items ∙ ap (λ (t : Bool). cond t 1 0 + count_by test items) apart in
    let count : count_by test (item ∷ items) ≡ count_by test items = omega arith in
    ap (λ (t : Bool). t || list_any test items) apart ∙ any_counted test items ∙ ap (λ (n : ℕ). not (n == 0)) (sym count))
    (cases_Bool (test item))

-- ---- the stamps that some file has

abbrev is_held : Count → Bool
is_held count = not (count.files == 0)

abbrev held_entries : List (Stamp × Count) → List (Stamp × Count)
held_entries entries = filter (λ (entry : Stamp × Count). is_held entry.1) entries

abbrev held_pairs : List (Stamp × Count) → List (ℕ × ℕ)
held_pairs entries = map pair_of (keys_of (held_entries entries))

any_pair : (stamp : ℕ × ℕ) (keys : List Stamp) → list_any (is_stamp stamp) (map pair_of keys) ≡ list_any (is_at (stamp_cmp (stamp_at stamp))) keys
any_pair stamp [] = refl
any_pair stamp (key ∷ keys) =
    ap (λ (t : Bool). t || list_any (is_stamp stamp) (map pair_of keys)) (sym (same_stamp (stamp_at stamp) key))
    ∙ ap (λ (t : Bool). is_at (stamp_cmp (stamp_at stamp)) key || t) (any_pair stamp keys)

is_some_held : (found : Option Count) → is_some (option_filter is_held found) ≡ not (files_of found == 0)
is_some_held None = refl
is_some_held (Some count) =
    ⊎_elim
    (λ (none : (count.files == 0) ≡ true). rw none)
    (λ (some : (count.files == 0) ≡ false). rw some)
    (cases_Bool (count.files == 0))

member_held : (entries : List (Stamp × Count)) (stamp : ℕ × ℕ) → IsStrictlySortedBy stamp_cmp (keys_of entries) → is_member is_stamp (held_pairs entries) stamp ≡ not (files_of (lookup (is_at (stamp_cmp (stamp_at stamp))) entries) == 0)
member_held entries stamp ascending =
    let distinct = IsDistinct-from_sorted stamp_cmp (keys_of entries) ascending in
    any_pair stamp (keys_of (held_entries entries)) ∙ sym (is_some-lookup (is_at (stamp_cmp (stamp_at stamp))) (held_entries entries))
    ∙ ap is_some (lookup-filter-values {eq = eq_by_cmp stamp_cmp} (eq_by_cmp_equiv stamps_total) is_held (stamp_at stamp) entries distinct)
    ∙ is_some_held (lookup (is_at (stamp_cmp (stamp_at stamp))) entries)

length_held : (entries : List (Stamp × Count)) → length (held_pairs entries) ≡ standing entries
length_held [] = refl
length_held (entry ∷ entries) =
    ⊎_elim
    (λ (none : (entry.1.files == 0) ≡ true).
    let zero : stands entry.1 ≡ 0 = rw none in
    let less : length (held_pairs (entry ∷ entries)) ≡ length (held_pairs entries) = rw none in
    omega (arith, less, zero, length_held entries, sum_by-cons stands entry.1 (values_of entries)))
    (λ (some : (entry.1.files == 0) ≡ false).
    let one : stands entry.1 ≡ 1 = rw some in
    let more : length (held_pairs (entry ∷ entries)) ≡ suc (length (held_pairs entries)) = rw some in
    omega (arith, more, one, length_held entries, sum_by-cons stands entry.1 (values_of entries)))
    (cases_Bool (entry.1.files == 0))

distinct_pairs : (keys : List Stamp) → IsDistinct (eq_by_cmp stamp_cmp) keys → IsDistinct is_stamp (map pair_of keys)
unfolding IsDistinct
distinct_pairs [] distinct = tt
distinct_pairs (key ∷ keys) distinct = (apart key keys distinct.0, distinct_pairs keys distinct.1)
  where
    apart : (key : Stamp) (keys : List Stamp) → AllByRecursion (λ (other : Stamp). eq_by_cmp stamp_cmp key other ≡ false) keys → AllByRecursion (λ (other : ℕ × ℕ). is_stamp (pair_of key) other ≡ false) (map pair_of keys)
    apart key [] all = tt
    apart key (other ∷ others) all = (sym (same_stamp key other) ∙ all.0, apart key others all.1)

none_distinct : IsDistinct is_stamp []
unfolding IsDistinct
none_distinct = tt

-- where every stamp is counted as often as it stands in a list, as many stand as the list has different stamps
pub standing_counted : (entries : Stamps) (list : List (ℕ × ℕ)) → IsStrictlySortedBy stamp_cmp (keys_of entries) → AreCounted entries list → standing entries ≡ length (with_each is_stamp [] list)
standing_counted entries list ascending counted =
    let distinct = IsDistinct-keys_filter (eq_by_cmp stamp_cmp) (λ (entry : Stamp × Count). is_held entry.1) entries (IsDistinct-from_sorted stamp_cmp (keys_of entries) ascending) in
    sym (length_held entries)
    ∙ length-from_same_keys stamps_equiv (held_pairs entries) (with_each is_stamp [] list) (distinct_pairs (keys_of (held_entries entries)) distinct) (distinct_with_each stamps_equiv [] list none_distinct)
    (λ stamp.
    member_held entries stamp ascending ∙ ap (λ (n : ℕ). not (n == 0)) (counted stamp) ∙ sym (any_counted (is_stamp stamp) list)
    ∙ sym (any_with_each stamps_equiv [] list stamp))

-- ---- numbers

any_number : (number : ℕ) (keys : List ℕ) → list_any (is_at (nat_cmp number)) keys ≡ list_any (λ (one : ℕ). one == number) keys
any_number number [] = refl
any_number number (key ∷ keys) = ap (λ (t : Bool). t || list_any (is_at (nat_cmp number)) keys) (same_number number key) ∙ ap (λ (t : Bool). (key == number) || t) (any_number number keys)

pub number_put : (number other : ℕ) (before after : List ℕ) → list_any (is_at (nat_cmp other)) after ≡ cond (is_at (nat_cmp number) other) true (list_any (is_at (nat_cmp other)) before)
    → list_any (λ (one : ℕ). one == other) after ≡ (list_any (λ (one : ℕ). one == other) before || (other == number))
number_put number other before after updated =
    sym (any_number other after) ∙ updated ∙ ap (λ (t : Bool). cond t true (list_any (is_at (nat_cmp other)) before)) (same_number number other)
    ∙ ap (cond (other == number) true) (any_number other before) ∙ either (other == number) (list_any (λ (one : ℕ). one == other) before)
  where
    either : (a b : Bool) → cond a true b ≡ (b || a)
    either true true = refl
    either true false = refl
    either false true = refl
    either false false = refl

pub number_taken : (number other : ℕ) (before after : List ℕ) → list_any (is_at (nat_cmp other)) after ≡ cond (is_at (nat_cmp number) other) false (list_any (is_at (nat_cmp other)) before)
    → list_any (λ (one : ℕ). one == other) after ≡ (list_any (λ (one : ℕ). one == other) before && not (other == number))
number_taken number other before after updated =
    sym (any_number other after) ∙ updated ∙ ap (λ (t : Bool). cond t false (list_any (is_at (nat_cmp other)) before)) (same_number number other)
    ∙ ap (cond (other == number) false) (any_number other before) ∙ both (other == number) (list_any (λ (one : ℕ). one == other) before)
  where
    both : (a b : Bool) → cond a false b ≡ (b && not a)
    both true true = refl
    both true false = refl
    both false true = refl
    both false false = refl
