-- A directory's two maps, after an item was put, changed or taken.
use Rattle.std.proofs.Common.{◌≡◌, ◌∙◌, ◌⊎◌, subst, ℕ, ◌<◌, ◌==◌, Bool, true, false, cond, ◌||◌, List, [], ◌∷◌, ◌++◌, length, Option, Some, None, IfSome, IsSome, refl, sym, ap, ⊎_elim, option_map, arith}
use Rattle.std.specs.Prelude.{find}
use Rattle.std.specs.declared.cmp.Ordering.TheVariants.{Less}
use Rattle.std.specs.BTreeMap.{is_at, insert_entry}
use Rattle.std.specs.Cmp.Lexicographic.{slice_cmp}
use Rattle.std.specs.List.{AllByRecursion, list_any}
use Rattle.std.specs.List.Sorted.{IsStrictlySortedBy}
use Rattle.std.specs.Map.{lookup, set_value, remove_entry, keys_of}
use Rattle.std.specs.Option.{option_or}
use Rattle.std.specs.Ordering.{nat_cmp, is_eq}
use Rattle.std.specs.Str.{bytes_eq}
use Rattle.std.proofs.lemmas.Bool.{cases_Bool, cases_eq, cases_order, lt-ltb, le-ltb, eq-eqb, ne_eqb, eqb-true, or_parts, true≢false, false_from_ne_true}
use Rattle.std.proofs.lemmas.List.Folds.{find-append}
use Rattle.std.proofs.lemmas.Map.Keys.{sorted_head, sorted_tail}
use Rattle.std.proofs.lemmas.Map.Text.{is_eq-slice_cmp}
use Rattle.std.proofs.lemmas.Slice.Eq.{bytes_eq-Decides}
use Rattle.zc_num.proofs.Entries.{put_last}
use Rattle.zc_heart.specs.declared.directory.Named.{Named}
use Rattle.zc_heart.specs.Changes.{change_by, without}
use Rattle.zc_heart.specs.Directory.{id_of, is_numbered, is_called, id_called, AreBelow, AreUnlike, with_value, items_of, IsDirectory}

-- ---- tests of numbers and names

-- a key is found at itself alone
pub same_number : (id key : ℕ) → is_at (nat_cmp id) key ≡ (key == id)
same_number id key =
    ⊎_elim
    (λ (equal : id ≡ key). rw (le-ltb id key (omega arith), eq-eqb id key equal, eq-eqb key id (sym equal)))
    (λ (apart : (id < key) ⊎ (key < id)). ⊎_elim
    (λ (less : id < key). rw (lt-ltb id key less, ne_eqb key id (λ equal. absurd (omega arith))))
    (λ (more : key < id). rw (le-ltb id key (omega arith), ne_eqb id key (λ equal. absurd (omega arith)), ne_eqb key id (λ equal. absurd (omega arith))))
    apart)
    (cases_order id key)

-- names that the test takes for one are one
one_name : (a b : List ℕ) → bytes_eq a b ≡ true → a ≡ b
one_name a b same = (bytes_eq-Decides a b).0 same

itself : (a : List ℕ) → bytes_eq a a ≡ true
itself a = (bytes_eq-Decides a a).1 refl

-- two names that differ do so in either order
other_way : (a b : List ℕ) → bytes_eq a b ≡ false → bytes_eq b a ≡ false
other_way a b apart = false_from_ne_true (bytes_eq b a) (λ same. true≢false (sym (itself b) ∙ ap (λ (c : List ℕ). bytes_eq c b) (one_name b a same) ∙ apart))

-- what is not there is not found
pub never : {X : Type 0} (found : Option X) → found ≡ None → IsSome found → ⊥
never None none some = absurd (true≢false (sym some))
never (Some x) none some = cc

-- entries of which there is none are no entries
pub no_entries : {X : Type 0} (entries : List X) → (0 < length entries → ⊥) → entries ≡ []
no_entries [] none = refl
no_entries (entry ∷ entries) none = absurd (none (omega arith))

module _ {V : Type 0} where
  -- ---- what is found

  abbrev IsPlaced : ℕ × Named V → Type 0
  IsPlaced entry = entry.0 ≡ entry.1.id

  -- the item at a number is the first of the number
  pub found_by_number : (id : ℕ) (entries : List (ℕ × Named V)) → AllByRecursion IsPlaced entries → lookup (is_at (nat_cmp id)) entries ≡ find (is_numbered id) (items_of entries)
  found_by_number id [] placed = refl
  found_by_number id (entry ∷ entries) placed =
      ap (λ (test : Bool). cond test (Some entry.1) (lookup (is_at (nat_cmp id)) entries)) (same_number id entry.0 ∙ ap (λ (key : ℕ). key == id) placed.0)
      ∙ ap (λ (rest : Option (Named V)). cond (is_numbered id entry.1) (Some entry.1) rest) (found_by_number id entries placed.1)

  -- where none passes none is found, and the other way round
  none_found : (test : Named V → Bool) (items : List (Named V)) → list_any test items ≡ false → find test items ≡ None
  none_found test [] none = refl
  none_found test (item ∷ items) none =
      let parts = or_parts (test item) (list_any test items) none in
      rw parts.0 (none_found test items parts.1)

  none_called : (name : List ℕ) (items : List (Named V)) → id_called name items ≡ None → list_any (is_called name) items ≡ false
  none_called name [] none = refl
  none_called name (item ∷ items) none =
      ⊎_elim
      (λ (here : is_called name item ≡ true). let there : Some item.id ≡ None = rw here at none in cc)
      (λ (apart : is_called name item ≡ false). let rest : id_called name items ≡ None = rw apart at none in or_from_false apart (none_called name items rest))
      (cases_Bool (is_called name item))
    where
      or_from_false : {a b : Bool} → a ≡ false → b ≡ false → (a || b) ≡ false
      or_from_false {a} {b} first second = ap (λ (t : Bool). t || b) first ∙ second

  -- an item that is found among entries has what each key has
  found_holds : (P : ℕ → Type 0) (test : Named V → Bool) (item : Named V) (entries : List (ℕ × Named V)) → AllByRecursion IsPlaced entries → AllByRecursion P (keys_of entries) → find test (items_of entries) ≡ Some item → P item.id
  found_holds P test item [] placed all found = cc
  found_holds P test item (entry ∷ entries) placed all found =
      ⊎_elim
      (λ (here : test entry.1 ≡ true).
      let same : Some entry.1 ≡ Some item = rw here at found in
      let it : entry.1 ≡ item = cc in
      subst P (placed.0 ∙ ap id_of it) all.0)
      (λ (apart : test entry.1 ≡ false).
      let rest : find test (items_of entries) ≡ Some item = rw apart at found in
      found_holds P test item entries placed.1 all.1 rest)
      (cases_Bool (test entry.1))

  -- an item that is found is also found by its number
  same_item : (test : Named V → Bool) (item : Named V) (entries : List (ℕ × Named V)) → AllByRecursion IsPlaced entries → IsStrictlySortedBy nat_cmp (keys_of entries) → find test (items_of entries) ≡ Some item → find (is_numbered item.id) (items_of entries) ≡ Some item
  same_item test item [] placed ascending found = cc
  same_item test item (entry ∷ entries) placed ascending found =
      ⊎_elim
      (λ (here : test entry.1 ≡ true).
      let same : Some entry.1 ≡ Some item = rw here at found in
      let it : entry.1 ≡ item = cc in
      let numbered : is_numbered item.id entry.1 ≡ true = eq-eqb entry.1.id item.id (ap id_of it) in
      rw numbered same)
      (λ (apart : test entry.1 ≡ false).
      let rest : find test (items_of entries) ≡ Some item = rw apart at found in
      let above : nat_cmp entry.0 item.id ≡ Less = found_holds (λ (key : ℕ). nat_cmp entry.0 key ≡ Less) test item entries placed.1 (sorted_head nat_cmp entry.0 (keys_of entries) ascending) rest in
      let other : is_numbered item.id entry.1 ≡ false =
      false_from_ne_true (is_numbered item.id entry.1)
      (λ equal. true≢false (sym (same_number entry.0 item.id ∙ eq-eqb item.id entry.0 (sym (eqb-true entry.1.id item.id equal) ∙ sym placed.0)) ∙ ap is_eq above)) in
      rw other (same_item test item entries placed.1 (sorted_tail nat_cmp entry.0 (keys_of entries) ascending) rest))
      (cases_Bool (test entry.1))

  -- the item of a name is that of its number
  pub called_item : (name : List ℕ) (entries : List (ℕ × Named V)) (ids : List (List ℕ × ℕ)) (id : ℕ) → IsDirectory entries ids → id_called name (items_of entries) ≡ Some id → find (is_numbered id) (items_of entries) ≡ find (is_called name) (items_of entries)
  called_item name entries ids id directory called = by_item (find (is_called name) (items_of entries)) refl called
    where
      by_item : (found : Option (Named V)) → find (is_called name) (items_of entries) ≡ found → option_map id_of found ≡ Some id → find (is_numbered id) (items_of entries) ≡ find (is_called name) (items_of entries)
      by_item None is missing = cc
      by_item (Some item) is there =
          let same : item.id ≡ id = cc in
          ap (λ (n : ℕ). find (is_numbered n) (items_of entries)) (sym same) ∙ same_item (is_called name) item entries directory.placed directory.ascending is ∙ sym is

  pub called_items : (name : List ℕ) (entries : List (ℕ × Named V)) (ids : List (List ℕ × ℕ)) (items : List (Named V)) (found : Option ℕ) → IsDirectory entries ids → items_of entries ≡ items → found ≡ id_called name (items_of entries)
      → IfSome found (λ id. find (is_numbered id) items ≡ find (is_called name) items)
  called_items name entries ids items None directory same is = tt
  called_items name entries ids items (Some id) directory same is =
      subst (λ (list : List (Named V)). find (is_numbered id) list ≡ find (is_called name) list) same (called_item name entries ids id directory (sym is))

  -- ---- an item after the others

  -- each entry is below a number that each item is below
  entries_below : (id : ℕ) (entries : List (ℕ × Named V)) → AllByRecursion IsPlaced entries → AreBelow id (items_of entries) → AllByRecursion (λ (entry : ℕ × Named V). entry.0 < id) entries
  entries_below id [] placed below = tt
  entries_below id (entry ∷ entries) placed below = (omega (arith, placed.0, below.0), entries_below id entries placed.1 below.1)

  items_pushed : (entries : List (ℕ × Named V)) (entry : ℕ × Named V) → items_of (entries ++ entry ∷ []) ≡ items_of entries ++ entry.1 ∷ []
  items_pushed [] entry = refl
  items_pushed (first ∷ entries) entry = ap (λ (rest : List (Named V)). first.1 ∷ rest) (items_pushed entries entry)

  placed_pushed : (entries : List (ℕ × Named V)) (entry : ℕ × Named V) → AllByRecursion IsPlaced entries → IsPlaced entry → AllByRecursion IsPlaced (entries ++ entry ∷ [])
  placed_pushed [] entry placed here = (here, tt)
  placed_pushed (first ∷ entries) entry placed here = (placed.0, placed_pushed entries entry placed.1 here)

  any_pushed : (test : Named V → Bool) (items : List (Named V)) (item : Named V) → list_any test items ≡ false → test item ≡ false → list_any test (items ++ item ∷ []) ≡ false
  any_pushed test [] item none here = rw here
  any_pushed test (first ∷ items) item none here =
      let parts = or_parts (test first) (list_any test items) none in
      rw parts.0 (any_pushed test items item parts.1 here)

  unlike_pushed : (items : List (Named V)) (item : Named V) → AreUnlike items → list_any (is_called item.name) items ≡ false → AreUnlike (items ++ item ∷ [])
  unlike_pushed [] item unlike none = (refl, tt)
  unlike_pushed (first ∷ items) item unlike none =
      let parts = or_parts (is_called item.name first) (list_any (is_called item.name) items) none in
      (any_pushed (is_called first.name) items item unlike.0 (other_way first.name item.name parts.0), unlike_pushed items item unlike.1 parts.1)

  id_pushed : (name : List ℕ) (items : List (Named V)) (item : Named V) → list_any (is_called item.name) items ≡ false → id_called name (items ++ item ∷ []) ≡ cond (is_at (slice_cmp nat_cmp item.name) name) (Some item.id) (id_called name items)
  id_pushed name items item none =
      ⊎_elim
      (λ (here : bytes_eq item.name name ≡ true).
      let nothing : find (is_called name) items ≡ None = ap (λ (n : List ℕ). find (is_called n) items) (sym (one_name item.name name here)) ∙ none_found (is_called item.name) items none in
      ap (option_map id_of) (find-append (is_called name) items (item ∷ []) ∙ ap (λ (first : Option (Named V)). option_or first (cond (bytes_eq item.name name) (Some item) None)) nothing ∙ ap (λ (test : Bool). cond test (Some item) None) here)
      ∙ ap (λ (test : Bool). cond test (Some item.id) (id_called name items)) (sym (is_eq-slice_cmp item.name name ∙ here)))
      (λ (apart : bytes_eq item.name name ≡ false).
      ap (option_map id_of) (find-append (is_called name) items (item ∷ []) ∙ ap (λ (test : Bool). option_or (find (is_called name) items) (cond test (Some item) None)) apart ∙ or_none (find (is_called name) items))
      ∙ ap (λ (test : Bool). cond test (Some item.id) (id_called name items)) (sym (is_eq-slice_cmp item.name name ∙ apart)))
      (cases_Bool (bytes_eq item.name name))
    where
      or_none : (first : Option (Named V)) → option_or first None ≡ first
      or_none None = refl
      or_none (Some item) = refl

  -- the entries with the item after the others, and what stands in them
  pub put_after : (entries : List (ℕ × Named V)) (ids : List (List ℕ × ℕ)) (item : Named V) → IsDirectory entries ids → AreBelow item.id (items_of entries) → insert_entry nat_cmp entries item.id item ≡ entries ++ (item.id, item) ∷ []
  put_after entries ids item directory below = put_last item.id item entries (entries_below item.id entries directory.placed below)

  pub items_put : (entries : List (ℕ × Named V)) (ids : List (List ℕ × ℕ)) (item : Named V) → IsDirectory entries ids → AreBelow item.id (items_of entries) → items_of (insert_entry nat_cmp entries item.id item) ≡ items_of entries ++ item ∷ []
  items_put entries ids item directory below = ap items_of (put_after entries ids item directory below) ∙ items_pushed entries (item.id, item)

  pub directory_put : (entries after : List (ℕ × Named V)) (ids ids_after : List (List ℕ × ℕ)) (item : Named V) → IsDirectory entries ids → AreBelow item.id (items_of entries) → id_called item.name (items_of entries) ≡ None
      → after ≡ insert_entry nat_cmp entries item.id item → IsStrictlySortedBy nat_cmp (keys_of after)
      → ((name : List ℕ) → lookup (is_at (slice_cmp nat_cmp name)) ids_after ≡ cond (is_at (slice_cmp nat_cmp item.name) name) (Some item.id) (lookup (is_at (slice_cmp nat_cmp name)) ids))
      → IsDirectory after ids_after
  directory_put entries after ids ids_after item directory below none put ascending added =
      let pushed = put ∙ put_after entries ids item directory below in
      let free = none_called item.name (items_of entries) none in
      let items : items_of after ≡ items_of entries ++ item ∷ [] = ap items_of pushed ∙ items_pushed entries (item.id, item) in
      record {
        placed = subst (λ (es : List (ℕ × Named V)). AllByRecursion IsPlaced es) (sym pushed) (placed_pushed entries (item.id, item) directory.placed refl);
        ascending = ascending;
        unlike = subst (λ (is : List (Named V)). AreUnlike is) (sym items) (unlike_pushed (items_of entries) item directory.unlike free);
        named = λ name.
            added name ∙ ap (cond (is_at (slice_cmp nat_cmp item.name) name) (Some item.id)) (directory.named name)
            ∙ sym (id_pushed name (items_of entries) item free) ∙ ap (id_called name) (sym items);
      }

  -- a name that was put and taken again leaves the names as they were
  pub directory_undone : (entries : List (ℕ × Named V)) (ids ids_put ids_after : List (List ℕ × ℕ)) (name : List ℕ) (id : ℕ) → IsDirectory entries ids → id_called name (items_of entries) ≡ None
      → ((other : List ℕ) → lookup (is_at (slice_cmp nat_cmp other)) ids_put ≡ cond (is_at (slice_cmp nat_cmp name) other) (Some id) (lookup (is_at (slice_cmp nat_cmp other)) ids))
      → ((other : List ℕ) → lookup (is_at (slice_cmp nat_cmp other)) ids_after ≡ cond (is_at (slice_cmp nat_cmp name) other) None (lookup (is_at (slice_cmp nat_cmp other)) ids_put))
      → IsDirectory entries ids_after
  directory_undone entries ids ids_put ids_after name id directory none put taken =
      record {
        placed = directory.placed;
        ascending = directory.ascending;
        unlike = directory.unlike;
        named = λ other. ⊎_elim
            (λ (here : bytes_eq name other ≡ true).
            let test : is_at (slice_cmp nat_cmp name) other ≡ true = is_eq-slice_cmp name other ∙ here in
            taken other ∙ ap (λ (t : Bool). cond t None (lookup (is_at (slice_cmp nat_cmp other)) ids_put)) test
            ∙ sym none ∙ ap (λ (n : List ℕ). id_called n (items_of entries)) (one_name name other here))
            (λ (apart : bytes_eq name other ≡ false).
            let test : is_at (slice_cmp nat_cmp name) other ≡ false = is_eq-slice_cmp name other ∙ apart in
            taken other ∙ ap (λ (t : Bool). cond t None (lookup (is_at (slice_cmp nat_cmp other)) ids_put)) test
            ∙ put other ∙ ap (λ (t : Bool). cond t (Some id) (lookup (is_at (slice_cmp nat_cmp other)) ids)) test ∙ directory.named other)
            (cases_Bool (bytes_eq name other));
      }

  -- ---- an item less

  -- no item after the first has its number
  all_kept : (id key : ℕ) (entries : List (ℕ × Named V)) → key ≡ id → AllByRecursion IsPlaced entries → AllByRecursion (λ (other : ℕ). nat_cmp key other ≡ Less) (keys_of entries) → without id_of id (items_of entries) ≡ items_of entries
  all_kept id key [] here placed above = refl
  all_kept id key (entry ∷ entries) here placed above =
      let apart : (entry.1.id == id) ≡ false = ap (λ (k : ℕ). k == id) (sym placed.0) ∙ sym (same_number id entry.0) ∙ ap (λ (k : ℕ). is_at (nat_cmp k) entry.0) (sym here) ∙ ap is_eq above.0 in
      rw apart (ap (λ (rest : List (Named V)). entry.1 ∷ rest) (all_kept id key entries here placed.1 above.1))

  pub items_taken : (id : ℕ) (entries : List (ℕ × Named V)) → AllByRecursion IsPlaced entries → IsStrictlySortedBy nat_cmp (keys_of entries) → items_of (remove_entry (is_at (nat_cmp id)) entries) ≡ without id_of id (items_of entries)
  items_taken id [] placed ascending = refl
  items_taken id (entry ∷ entries) placed ascending =
      ⊎_elim
      (λ (here : (entry.0 == id) ≡ true).
      let test : is_at (nat_cmp id) entry.0 ≡ true = same_number id entry.0 ∙ here in
      let numbered : (entry.1.id == id) ≡ true = ap (λ (k : ℕ). k == id) (sym placed.0) ∙ here in
      rw (test, numbered) (sym (all_kept id entry.0 entries (the_same here) placed.1 (sorted_head nat_cmp entry.0 (keys_of entries) ascending))))
      (λ (apart : (entry.0 == id) ≡ false).
      let test : is_at (nat_cmp id) entry.0 ≡ false = same_number id entry.0 ∙ apart in
      let numbered : (entry.1.id == id) ≡ false = ap (λ (k : ℕ). k == id) (sym placed.0) ∙ apart in
      rw (test, numbered) (ap (λ (rest : List (Named V)). entry.1 ∷ rest) (items_taken id entries placed.1 (sorted_tail nat_cmp entry.0 (keys_of entries) ascending))))
      (cases_Bool (entry.0 == id))
    where
      the_same : {a b : ℕ} → (a == b) ≡ true → a ≡ b
      the_same {a} {b} same = ⊎_elim (λ (equal : a ≡ b). equal) (λ (apart : a ≡ b → ⊥). absurd (true≢false (sym same ∙ ne_eqb a b apart))) (cases_eq a b)

  placed_taken : (test : ℕ → Bool) (entries : List (ℕ × Named V)) → AllByRecursion IsPlaced entries → AllByRecursion IsPlaced (remove_entry test entries)
  placed_taken test [] placed = tt
  placed_taken test (entry ∷ entries) placed =
      ⊎_elim
      (λ (here : test entry.0 ≡ true). rw here placed.1)
      (λ (apart : test entry.0 ≡ false). rw apart (placed.0, placed_taken test entries placed.1))
      (cases_Bool (test entry.0))

  any_taken : (test : ℕ → Bool) (passes : Named V → Bool) (entries : List (ℕ × Named V)) → list_any passes (items_of entries) ≡ false → list_any passes (items_of (remove_entry test entries)) ≡ false
  any_taken test passes [] none = refl
  any_taken test passes (entry ∷ entries) none =
      let parts = or_parts (passes entry.1) (list_any passes (items_of entries)) none in
      ⊎_elim
      (λ (here : test entry.0 ≡ true). rw here parts.1)
      (λ (apart : test entry.0 ≡ false). rw (apart, parts.0) (any_taken test passes entries parts.1))
      (cases_Bool (test entry.0))

  unlike_taken : (test : ℕ → Bool) (entries : List (ℕ × Named V)) → AreUnlike (items_of entries) → AreUnlike (items_of (remove_entry test entries))
  unlike_taken test [] unlike = tt
  unlike_taken test (entry ∷ entries) unlike =
      ⊎_elim
      (λ (here : test entry.0 ≡ true). rw here unlike.1)
      (λ (apart : test entry.0 ≡ false). rw apart (any_taken test (is_called entry.1.name) entries unlike.0, unlike_taken test entries unlike.1))
      (cases_Bool (test entry.0))

  -- another name is found as before
  others_found : (test : ℕ → Bool) (name : List ℕ) (entries : List (ℕ × Named V)) (found : Named V) → lookup test entries ≡ Some found → is_called name found ≡ false → find (is_called name) (items_of (remove_entry test entries)) ≡ find (is_called name) (items_of entries)
  others_found test name [] found there apart = refl
  others_found test name (entry ∷ entries) found there apart =
      ⊎_elim
      (λ (here : test entry.0 ≡ true).
      let same : Some entry.1 ≡ Some found = rw here at there in
      let item : entry.1 ≡ found = cc in
      let unlike : is_called name entry.1 ≡ false = ap (is_called name) item ∙ apart in
      rw (here, unlike))
      (λ (other : test entry.0 ≡ false).
      let rest : lookup test entries ≡ Some found = rw other at there in
      rw other (ap (cond (is_called name entry.1) (Some entry.1)) (others_found test name entries found rest apart)))
      (cases_Bool (test entry.0))

  -- an item that is found passes no test that none passes
  fails_too : (test : ℕ → Bool) (passes : Named V → Bool) (entries : List (ℕ × Named V)) (found : Named V) → lookup test entries ≡ Some found → list_any passes (items_of entries) ≡ false → passes found ≡ false
  fails_too test passes [] found there none = cc
  fails_too test passes (entry ∷ entries) found there none =
      let parts = or_parts (passes entry.1) (list_any passes (items_of entries)) none in
      ⊎_elim
      (λ (here : test entry.0 ≡ true).
      let same : Some entry.1 ≡ Some found = rw here at there in
      let item : entry.1 ≡ found = cc in
      ap passes (sym item) ∙ parts.0)
      (λ (other : test entry.0 ≡ false).
      let rest : lookup test entries ≡ Some found = rw other at there in
      fails_too test passes entries found rest parts.1)
      (cases_Bool (test entry.0))

  -- the name of the item that was taken is not found any more
  not_found : (test : ℕ → Bool) (entries : List (ℕ × Named V)) (found : Named V) → lookup test entries ≡ Some found → AreUnlike (items_of entries) → find (is_called found.name) (items_of (remove_entry test entries)) ≡ None
  not_found test [] found there unlike = refl
  not_found test (entry ∷ entries) found there unlike =
      ⊎_elim
      (λ (here : test entry.0 ≡ true).
      let same : Some entry.1 ≡ Some found = rw here at there in
      let item : entry.1 ≡ found = cc in
      rw here (ap (λ (i : Named V). find (is_called i.name) (items_of entries)) (sym item) ∙ none_found (is_called entry.1.name) (items_of entries) unlike.0))
      (λ (other : test entry.0 ≡ false).
      let rest : lookup test entries ≡ Some found = rw other at there in
      let apart : is_called found.name entry.1 ≡ false = other_way found.name entry.1.name (fails_too test (is_called entry.1.name) entries found rest unlike.0) in
      rw (other, apart) (not_found test entries found rest unlike.1))
      (cases_Bool (test entry.0))

  pub directory_taken : (id : ℕ) (entries after : List (ℕ × Named V)) (ids ids_after : List (List ℕ × ℕ)) (found : Named V) → IsDirectory entries ids → lookup (is_at (nat_cmp id)) entries ≡ Some found
      → after ≡ remove_entry (is_at (nat_cmp id)) entries → IsStrictlySortedBy nat_cmp (keys_of after)
      → ((name : List ℕ) → lookup (is_at (slice_cmp nat_cmp name)) ids_after ≡ cond (is_at (slice_cmp nat_cmp found.name) name) None (lookup (is_at (slice_cmp nat_cmp name)) ids))
      → IsDirectory after ids_after
  directory_taken id entries after ids ids_after found directory there taken ascending gone =
      let test = is_at (nat_cmp id) in
      record {
        placed = subst (λ (es : List (ℕ × Named V)). AllByRecursion IsPlaced es) (sym taken) (placed_taken test entries directory.placed);
        ascending = ascending;
        unlike = subst (λ (es : List (ℕ × Named V)). AreUnlike (items_of es)) (sym taken) (unlike_taken test entries directory.unlike);
        named = λ name. ⊎_elim
            (λ (here : bytes_eq found.name name ≡ true).
            gone name ∙ ap (λ (t : Bool). cond t None (lookup (is_at (slice_cmp nat_cmp name)) ids)) (is_eq-slice_cmp found.name name ∙ here)
            ∙ ap (option_map id_of) (sym (not_found test entries found there directory.unlike))
            ∙ ap (λ (n : List ℕ). id_called n (items_of (remove_entry test entries))) (one_name found.name name here)
            ∙ ap (λ (es : List (ℕ × Named V)). id_called name (items_of es)) (sym taken))
            (λ (apart : bytes_eq found.name name ≡ false).
            gone name ∙ ap (λ (t : Bool). cond t None (lookup (is_at (slice_cmp nat_cmp name)) ids)) (is_eq-slice_cmp found.name name ∙ apart)
            ∙ directory.named name ∙ ap (option_map id_of) (sym (others_found test name entries found there apart))
            ∙ ap (λ (es : List (ℕ × Named V)). id_called name (items_of es)) (sym taken))
            (cases_Bool (bytes_eq found.name name));
      }

  -- ---- the first item less

  pub directory_rest : (entry : ℕ × Named V) (entries after : List (ℕ × Named V)) (ids ids_after : List (List ℕ × ℕ)) → IsDirectory entries ids → entries ≡ entry ∷ after → IsStrictlySortedBy nat_cmp (keys_of after)
      → ((name : List ℕ) → lookup (is_at (slice_cmp nat_cmp name)) ids_after ≡ cond (is_at (slice_cmp nat_cmp entry.1.name) name) None (lookup (is_at (slice_cmp nat_cmp name)) ids))
      → IsDirectory after ids_after
  directory_rest entry entries after ids ids_after directory first ascending gone =
      let whole : IsDirectory (entry ∷ after) ids = subst (λ (es : List (ℕ × Named V)). IsDirectory es ids) first directory in
      let here : is_at (nat_cmp entry.0) entry.0 ≡ true = same_number entry.0 entry.0 ∙ eq-eqb entry.0 entry.0 refl in
      let there : lookup (is_at (nat_cmp entry.0)) (entry ∷ after) ≡ Some entry.1 = ap (λ (t : Bool). cond t (Some entry.1) (lookup (is_at (nat_cmp entry.0)) after)) here in
      let rest : after ≡ remove_entry (is_at (nat_cmp entry.0)) (entry ∷ after) = sym (ap (λ (t : Bool). cond t after (entry ∷ remove_entry (is_at (nat_cmp entry.0)) after)) here) in
      directory_taken entry.0 (entry ∷ after) after ids ids_after entry.1 whole there rest ascending gone

  -- ---- an item with another value

  -- no item after the first of the number is changed
  all_same : (id key : ℕ) (change : Named V → Named V) (entries : List (ℕ × Named V)) → key ≡ id → AllByRecursion IsPlaced entries → AllByRecursion (λ (other : ℕ). nat_cmp key other ≡ Less) (keys_of entries) → change_by id_of id change (items_of entries) ≡ items_of entries
  all_same id key change [] here placed above = refl
  all_same id key change (entry ∷ entries) here placed above =
      let apart : (entry.1.id == id) ≡ false = ap (λ (k : ℕ). k == id) (sym placed.0) ∙ sym (same_number id entry.0) ∙ ap (λ (k : ℕ). is_at (nat_cmp k) entry.0) (sym here) ∙ ap is_eq above.0 in
      rw apart (ap (λ (rest : List (Named V)). entry.1 ∷ rest) (all_same id key change entries here placed.1 above.1))

  items_set : (id : ℕ) (value : V) (entries : List (ℕ × Named V)) (found : Named V) → AllByRecursion IsPlaced entries → IsStrictlySortedBy nat_cmp (keys_of entries) → lookup (is_at (nat_cmp id)) entries ≡ Some found
      → items_of (set_value (is_at (nat_cmp id)) entries (with_value value found)) ≡ change_by id_of id (with_value value) (items_of entries)
  items_set id value [] found placed ascending there = refl
  items_set id value (entry ∷ entries) found placed ascending there =
      ⊎_elim
      (λ (here : (entry.0 == id) ≡ true).
      let test : is_at (nat_cmp id) entry.0 ≡ true = same_number id entry.0 ∙ here in
      let numbered : (entry.1.id == id) ≡ true = ap (λ (k : ℕ). k == id) (sym placed.0) ∙ here in
      let same : Some entry.1 ≡ Some found = rw test at there in
      let item : entry.1 ≡ found = cc in
      rw (test, numbered)
      (ap (λ (i : Named V). with_value value i ∷ items_of entries) (sym item)
      ∙ ap (λ (rest : List (Named V)). with_value value entry.1 ∷ rest) (sym (all_same id entry.0 (with_value value) entries (the_same here) placed.1 (sorted_head nat_cmp entry.0 (keys_of entries) ascending)))))
      (λ (apart : (entry.0 == id) ≡ false).
      let test : is_at (nat_cmp id) entry.0 ≡ false = same_number id entry.0 ∙ apart in
      let numbered : (entry.1.id == id) ≡ false = ap (λ (k : ℕ). k == id) (sym placed.0) ∙ apart in
      let rest : lookup (is_at (nat_cmp id)) entries ≡ Some found = rw test at there in
      rw (test, numbered) (ap (λ (more : List (Named V)). entry.1 ∷ more) (items_set id value entries found placed.1 (sorted_tail nat_cmp entry.0 (keys_of entries) ascending) rest)))
      (cases_Bool (entry.0 == id))
    where
      the_same : {a b : ℕ} → (a == b) ≡ true → a ≡ b
      the_same {a} {b} same = ⊎_elim (λ (equal : a ≡ b). equal) (λ (apart : a ≡ b → ⊥). absurd (true≢false (sym same ∙ ne_eqb a b apart))) (cases_eq a b)

  pub items_written : (id : ℕ) (value : V) (entries after : List (ℕ × Named V)) (found : Named V) (items : List (Named V)) → AllByRecursion IsPlaced entries → IsStrictlySortedBy nat_cmp (keys_of entries) → lookup (is_at (nat_cmp id)) entries ≡ Some found
      → items_of entries ≡ items → after ≡ set_value (is_at (nat_cmp id)) entries (with_value value found) → items_of after ≡ change_by id_of id (with_value value) items
  items_written id value entries after found items placed ascending there same set =
      ap items_of set ∙ items_set id value entries found placed ascending there ∙ ap (change_by id_of id (with_value value)) same

  placed_set : (test : ℕ → Bool) (value : V) (entries : List (ℕ × Named V)) (found : Named V) → lookup test entries ≡ Some found → AllByRecursion IsPlaced entries → AllByRecursion IsPlaced (set_value test entries (with_value value found))
  placed_set test value [] found there placed = tt
  placed_set test value (entry ∷ entries) found there placed =
      ⊎_elim
      (λ (here : test entry.0 ≡ true).
      let same : Some entry.1 ≡ Some found = rw here at there in
      let item : entry.1 ≡ found = cc in
      rw here (placed.0 ∙ ap (λ (i : Named V). i.id) item, placed.1))
      (λ (other : test entry.0 ≡ false).
      let rest : lookup test entries ≡ Some found = rw other at there in
      rw other (placed.0, placed_set test value entries found rest placed.1))
      (cases_Bool (test entry.0))

  any_set : (test : ℕ → Bool) (value : V) (name : List ℕ) (entries : List (ℕ × Named V)) (found : Named V) → lookup test entries ≡ Some found → list_any (is_called name) (items_of (set_value test entries (with_value value found))) ≡ list_any (is_called name) (items_of entries)
  any_set test value name [] found there = refl
  any_set test value name (entry ∷ entries) found there =
      ⊎_elim
      (λ (here : test entry.0 ≡ true).
      let same : Some entry.1 ≡ Some found = rw here at there in
      let item : entry.1 ≡ found = cc in
      rw here (ap (λ (i : Named V). is_called name i || list_any (is_called name) (items_of entries)) (sym item)))
      (λ (other : test entry.0 ≡ false).
      let rest : lookup test entries ≡ Some found = rw other at there in
      rw other (ap (λ (more : Bool). is_called name entry.1 || more) (any_set test value name entries found rest)))
      (cases_Bool (test entry.0))

  unlike_set : (test : ℕ → Bool) (value : V) (entries : List (ℕ × Named V)) (found : Named V) → lookup test entries ≡ Some found → AreUnlike (items_of entries) → AreUnlike (items_of (set_value test entries (with_value value found)))
  unlike_set test value [] found there unlike = tt
  unlike_set test value (entry ∷ entries) found there unlike =
      ⊎_elim
      (λ (here : test entry.0 ≡ true).
      let same : Some entry.1 ≡ Some found = rw here at there in
      let item : entry.1 ≡ found = cc in
      rw here (ap (λ (i : Named V). list_any (is_called i.name) (items_of entries)) (sym item) ∙ unlike.0, unlike.1))
      (λ (other : test entry.0 ≡ false).
      let rest : lookup test entries ≡ Some found = rw other at there in
      rw other (any_set test value entry.1.name entries found rest ∙ unlike.0, unlike_set test value entries found rest unlike.1))
      (cases_Bool (test entry.0))

  id_set : (test : ℕ → Bool) (value : V) (name : List ℕ) (entries : List (ℕ × Named V)) (found : Named V) → lookup test entries ≡ Some found → id_called name (items_of (set_value test entries (with_value value found))) ≡ id_called name (items_of entries)
  id_set test value name [] found there = refl
  id_set test value name (entry ∷ entries) found there =
      ⊎_elim
      (λ (here : test entry.0 ≡ true).
      let same : Some entry.1 ≡ Some found = rw here at there in
      let item : entry.1 ≡ found = cc in
      rw here (one_of found entry.1 (sym item)))
      (λ (other : test entry.0 ≡ false).
      let rest : lookup test entries ≡ Some found = rw other at there in
      rw other (id_after name entry.1 (items_of (set_value test entries (with_value value found))) (items_of entries) (id_set test value name entries found rest)))
      (cases_Bool (test entry.0))
    where
      id_after : (name : List ℕ) (item : Named V) (more items : List (Named V)) → id_called name more ≡ id_called name items → id_called name (item ∷ more) ≡ id_called name (item ∷ items)
      id_after name item more items same =
          ⊎_elim
          (λ (here : is_called name item ≡ true). rw here)
          (λ (apart : is_called name item ≡ false). rw apart same)
          (cases_Bool (is_called name item))

      one_of : (a b : Named V) → a ≡ b → id_called name (with_value value a ∷ items_of entries) ≡ id_called name (b ∷ items_of entries)
      one_of a b same =
          ⊎_elim
          (λ (here : is_called name b ≡ true). let too : is_called name a ≡ true = ap (is_called name) same ∙ here in rw (here, too) (ap (λ (i : Named V). Some i.id) same))
          (λ (apart : is_called name b ≡ false). let too : is_called name a ≡ false = ap (is_called name) same ∙ apart in rw (apart, too))
          (cases_Bool (is_called name b))

  pub directory_set : (id : ℕ) (value : V) (entries after : List (ℕ × Named V)) (ids : List (List ℕ × ℕ)) (found : Named V) → IsDirectory entries ids → lookup (is_at (nat_cmp id)) entries ≡ Some found
      → after ≡ set_value (is_at (nat_cmp id)) entries (with_value value found) → IsStrictlySortedBy nat_cmp (keys_of after) → IsDirectory after ids
  directory_set id value entries after ids found directory there set ascending =
      let test = is_at (nat_cmp id) in
      record {
        placed = subst (λ (es : List (ℕ × Named V)). AllByRecursion IsPlaced es) (sym set) (placed_set test value entries found there directory.placed);
        ascending = ascending;
        unlike = subst (λ (es : List (ℕ × Named V)). AreUnlike (items_of es)) (sym set) (unlike_set test value entries found there directory.unlike);
        named = λ name. directory.named name ∙ sym (id_set test value name entries found there) ∙ ap (λ (es : List (ℕ × Named V)). id_called name (items_of es)) (sym set);
      }
