-- The blocks that were read, by their places, and the stamps that are counted of a tree's pointers.
use Rattle.std.proofs.Common.{◌≡◌, ◌≢◌, ◌∙◌, ℕ, suc, ◌+◌, ◌-◌, ◌^◌, ◌<◌, ◌≤◌, Bool, true, false, true≢false, ◌&&◌, ◌||◌, ◌==◌, cond, List, [], ◌∷◌, map, length, get_or, take, drop, count_by, Option, Some, None, Result, Ok, Err, OnOk, refl, sym, ap, ap₂, subst, arith}
use Rattle.std.specs.Prelude.{slice_get, is_some}
use Rattle.std.specs.List.{AllByRecursion, list_any}
use Rattle.std.specs.declared.alloc.AllocError.{AllocError}
use Rattle.std.proofs.Math.Seq.{drop-cons}
use Rattle.std.proofs.lemmas.Bool.{and_parts, and_from, eqb-true, eq-eqb}
use Rattle.std.proofs.lemmas.List.{drop_more, take-take, length-take-le, get_or-take}
use Rattle.std.proofs.lemmas.List.Sums.{sum_by-cons}
use Rattle.std.proofs.lemmas.Option.{slice_get_within, get_or_from_slice_get, slice_get-get_or}
use Rattle.zc_num.specs.Ordered.{value_at, insert_entry}
use Rattle.zc_num.proofs.Entries.{value_of_put, value_of_other_put}
use Rattle.zc_blkptr.specs.declared.ptr.Ptr.{Ptr}
use Rattle.zc_plain.specs.Charge.{is_stamp}
use Rattle.zc_heart.specs.declared.opening.HeartBlock.{HeartBlock}
use Rattle.zc_heart.specs.declared.stamps.Stamps.{Stamps}
use Rattle.zc_heart.specs.Changes.{Where}
use Rattle.zc_heart.specs.Meaning.{bytes_at}
use Rattle.zc_heart.specs.Noted.{AreWhere}
use Rattle.zc_heart.specs.Opening.{place_number, number_of, stamp_at_ptr, bytes_there, HasRead, AreWhole, IsThere}
use Rattle.zc_heart.specs.Stamps.{ptr_at, files_at, Moves, IsAllKnown}
use Rattle.zc_heart.proofs.StampLaws.{stamps_equiv}
use Rattle.std.proofs.Common.{⊎_elim}
use Rattle.std.proofs.lemmas.Bool.{cases_Bool}
use Rattle.zc_heart.proofs.ListLaws.{some_of, one_item, no_item}

-- ---- blocks by their places

-- places of one number are one
same_place : (d p e q : ℕ) → p < 2 ^ 32 → q < 2 ^ 32 → place_number d p ≡ place_number e q → (d ≡ e) × (p ≡ q)
same_place d p e q low other same = (omega arith, omega arith)

-- one more block is noted, and comes before the others
pub read_more : (blocks : List HeartBlock) (found : List (ℕ × List ℕ)) (block : HeartBlock) → block.place < 2 ^ 32 → HasRead found blocks → HasRead (insert_entry (place_number block.device block.place) block.bytes found) (block ∷ blocks)
read_more blocks found block low read device place narrow = by ((block.device == device) && (block.place == place)) refl where
  key : ℕ
  key = place_number block.device block.place

  by : (here : Bool) → ((block.device == device) && (block.place == place)) ≡ here
      → bytes_there (value_at (place_number device place) (insert_entry (place_number block.device block.place) block.bytes found)) ≡ cond here block.bytes (bytes_at blocks device place)
  by true is =
      let both = and_parts (block.device == device) (block.place == place) is in
      let at : place_number device place ≡ place_number block.device block.place = ap₂ place_number (sym (eqb-true block.device device both.0)) (sym (eqb-true block.place place both.1)) in
      ap (λ (k : ℕ). bytes_there (value_at k (insert_entry (place_number block.device block.place) block.bytes found))) at
      ∙ ap bytes_there (value_of_put (place_number block.device block.place) block.bytes found)
  by false is =
      let apart : place_number device place ≢ place_number block.device block.place = λ one.
      let same = same_place device place block.device block.place narrow low one in
      true≢false (sym (and_from (block.device == device) (block.place == place) (eq-eqb block.device device (sym same.0)) (eq-eqb block.place place (sym same.1))) ∙ is) in
      ap bytes_there (value_of_other_put (place_number device place) (place_number block.device block.place) block.bytes found apart) ∙ read device place narrow

-- what is left of a list once its last item was taken off
pub record Popped {X : Type 0} (xs left next : List X) (x : X) : Type 0 where
  pub within : length next ≤ length xs
  pub is : next ≡ take (length next) xs
  pub behind : drop (length next) xs ≡ x ∷ drop (length left) xs

pub popped : {X : Type 0} (xs left next : List X) (x : X) → left ≡ take (length left) xs → length left ≤ length xs → Some x ≡ slice_get left (length left - 1) → next ≡ take (length left - 1) left → Popped xs left next x
popped {X} xs left next x is within last rest =
    let n = length left in
    let some : n - 1 < n = slice_get_within left (n - 1) x (sym last) in
    let long : length next ≡ n - 1 = ap length rest ∙ length-take-le (n - 1) left (omega arith) in
    let front : next ≡ take (n - 1) xs = rest ∙ ap (take (n - 1)) is ∙ take-take (n - 1) n xs (omega arith) in
    let item : get_or xs (n - 1) x ≡ x = sym (get_or-take n xs (n - 1) x some) ∙ ap (λ (ys : List X). get_or ys (n - 1) x) (sym is) ∙ get_or_from_slice_get left (n - 1) x x (sym last) in
    let next_is : suc (n - 1) ≡ n = omega arith in
    record {
      within = omega (arith, long, within);
      is = front ∙ ap (λ (m : ℕ). take m xs) (sym long);
      behind = ap (λ (m : ℕ). drop m xs) long ∙ drop-cons xs (n - 1) x (omega (arith, some, within)) ∙ ap₂ (λ (y : X) (m : ℕ). y ∷ drop m xs) item next_is;
    }

-- the blocks that were taken off are noted
pub read_popped : (xs left next : List HeartBlock) (found more : List (ℕ × List ℕ)) (block : HeartBlock) → Popped xs left next block → block.place < 2 ^ 32
    → more ≡ insert_entry (place_number block.device block.place) block.bytes found → HasRead found (drop (length left) xs) → HasRead more (drop (length next) xs)
read_popped xs left next found more block is low noted read =
    subst (λ (es : List (ℕ × List ℕ)). HasRead es (drop (length next) xs)) (sym noted)
    (subst (HasRead (insert_entry (place_number block.device block.place) block.bytes found)) (sym is.behind) (read_more (drop (length left) xs) found block low read))

pub whole_popped : (xs left next : List HeartBlock) (block : HeartBlock) → Popped xs left next block → length block.bytes ≡ 4096 → AreWhole (drop (length left) xs) → AreWhole (drop (length next) xs)
whole_popped xs left next block is whole others = subst AreWhole (sym is.behind) (whole, others)

-- at last none is left
none_left : {X : Type 0} (left : List X) → None ≡ slice_get left (length left - 1) → length left ≡ 0
none_left [] none = refl
none_left (x ∷ left) none =
    let long : length (x ∷ left) ≡ suc (length left) = refl in
    no_item (get_or (x ∷ left) (length (x ∷ left) - 1) x) (none ∙ slice_get-get_or (x ∷ left) (length (x ∷ left) - 1) x (omega (arith, long)))

pub all_popped : {X : Type 0} (P : List X → Type 0) (xs left : List X) → None ≡ slice_get left (length left - 1) → P (drop (length left) xs) → P xs
all_popped P xs left none holds = subst (λ (n : ℕ). P (drop n xs)) (none_left left none) holds

-- ---- blocks that are there

-- a block that is among others that have 4,096 bytes each
pub whole_at : (blocks : List HeartBlock) (device place : ℕ) → AreWhole blocks → list_any (λ (block : HeartBlock). (block.device == device) && (block.place == place)) blocks ≡ true → length (bytes_at blocks device place) ≡ 4096
whole_at [] device place whole there = absurd (true≢false (sym there))
whole_at (block ∷ blocks) device place whole there = by (whole_at blocks device place whole.1) ((block.device == device) && (block.place == place)) there where
  by : (list_any (λ (other : HeartBlock). (other.device == device) && (other.place == place)) blocks ≡ true → length (bytes_at blocks device place) ≡ 4096) → (here : Bool)
      → (here || list_any (λ (other : HeartBlock). (other.device == device) && (other.place == place)) blocks) ≡ true → length (cond here block.bytes (bytes_at blocks device place)) ≡ 4096
  by rest true is = whole.0
  by rest false is = rest is

pub is_there : (blocks : List HeartBlock) (found : List (ℕ × List ℕ)) (ptr : Ptr) → HasRead found blocks → ptr.place < 2 ^ 32 → length (bytes_at blocks ptr.device ptr.place) ≡ 4096 → IsThere found ptr
is_there blocks found ptr read low whole = by (value_at (number_of ptr) found) (read ptr.device ptr.place low) where
  by : (bytes : Option (List ℕ)) → bytes_there bytes ≡ bytes_at blocks ptr.device ptr.place → is_some bytes ≡ true
  by None is = let none : length {A = ℕ} [] ≡ 0 = refl in absurd (omega (arith, none, ap length is, whole))
  by (Some bytes) is = refl

-- ---- stamps

-- one more pointer is counted
pub counted_more : (stamp : ℕ × ℕ) (ptrs : List Ptr) (i : ℕ) (d : Ptr) (before behind total : ℕ) → i < length ptrs → behind ≡ before + count_by (is_stamp stamp) (stamp_at_ptr (get_or ptrs i d) ∷ [])
    → before + count_by (is_stamp stamp) (map stamp_at_ptr (drop i ptrs)) ≡ total → behind + count_by (is_stamp stamp) (map stamp_at_ptr (drop (i + 1) ptrs)) ≡ total
counted_more stamp ptrs i d before behind total within one so_far =
    let p : ℕ × ℕ → Bool = is_stamp stamp in
    let x : ℕ × ℕ = stamp_at_ptr (get_or ptrs i d) in
    let rest : List (ℕ × ℕ) = map stamp_at_ptr (drop (i + 1) ptrs) in
    let next : count_by p (map stamp_at_ptr (drop i ptrs)) ≡ count_by p (x ∷ rest) = ap (λ (ps : List Ptr). count_by p (map stamp_at_ptr ps)) (drop_more ptrs i d within) in
    let none : count_by p [] ≡ 0 = refl in
    omega (arith, one, so_far, next, none, sum_by-cons (λ (s : ℕ × ℕ). cond {A = ℕ} (p s) 1 0) x rest, sum_by-cons (λ (s : ℕ × ℕ). cond {A = ℕ} (p s) 1 0) x [])

-- what holds of each item from a place on
pub all_from : {X : Type 0} (P : X → Type 0) (xs : List X) (i : ℕ) (d : X) → i < length xs → AllByRecursion P (drop i xs) → P (get_or xs i d) × AllByRecursion P (drop (i + 1) xs)
all_from P xs i d within all = let moved : AllByRecursion P (get_or xs i d ∷ drop (i + 1) xs) = subst (AllByRecursion P) (drop_more xs i d within) all in (moved.0, moved.1)

-- no pointer is known where none was
pub where_none : (placing : Where) (stamps : Stamps) → ((stamp : ℕ × ℕ) → ptr_at stamps stamp ≡ None) → AreWhere placing stamps
where_none placing stamps none entry index ptr there = no_item ptr (sym (none (entry, index)) ∙ there)

-- one more is known
where_placed : (placing : Where) (old new : Stamps) (number : ℕ) (ptr : Ptr) → AreWhere placing old → ((other : ℕ × ℕ) → ptr_at new other ≡ cond (is_stamp (0, number) other) (Some ptr) (ptr_at old other)) → placing 0 number ≡ ptr → AreWhere placing new
where_placed placing old new number ptr known placed is entry index found there = by (is_stamp (0, number) (entry, index)) refl (sym (placed (entry, index)) ∙ there) where
  by : (here : Bool) → is_stamp (0, number) (entry, index) ≡ here → cond here (some_of ptr) (ptr_at old (entry, index)) ≡ Some found → placing entry index ≡ found
  by true same at =
      let both = and_parts (0 == entry) (number == index) same in
      ap₂ placing (sym (eqb-true 0 entry both.0)) (sym (eqb-true number index both.1)) ∙ is ∙ one_item ptr found at
  by false same at = known entry index found at

pub where_inserted : (placing : Where) (result : Result (Unit {0}) AllocError) (old new : Stamps) (number : ℕ) (ptr : Ptr) → AreWhere placing old
    → OnOk result ((other : ℕ × ℕ) → ptr_at new other ≡ cond (is_stamp (0, number) other) (Some ptr) (ptr_at old other)) → placing 0 number ≡ ptr → OnOk result (AreWhere placing new)
where_inserted placing (Err fault) old new number ptr known placed is = tt
where_inserted placing (Ok done) old new number ptr known placed is = where_placed placing old new number ptr known placed is

-- and each block that some file has is known, where each was before
pub known_inserted : (result : Result (Unit {0}) AllocError) (old new : Stamps) (number : ℕ) (ptr : Ptr)
    → OnOk result ((other : ℕ × ℕ) → ptr_at new other ≡ cond (is_stamp (0, number) other) (Some ptr) (ptr_at old other)) → OnOk result (Moves old new [] ((0, number) ∷ [])) → IsAllKnown old → OnOk result (IsAllKnown new)
known_inserted (Err fault) old new number ptr placed moves known = tt
known_inserted (Ok done) old new number ptr placed moves known = λ stamp some.
    ⊎_elim
    (λ (here : is_stamp (0, number) stamp ≡ true). ap is_some (placed stamp ∙ ap (λ (t : Bool). cond t (some_of ptr) (ptr_at old stamp)) here))
    (λ (apart : is_stamp (0, number) stamp ≡ false).
    let none : count_by (is_stamp stamp) ((0, number) ∷ []) ≡ 0 = ap (λ (b : Bool). 0 + cond b 1 0) (stamps_equiv.symm stamp (0, number) ∙ apart) in
    let moved = moves stamp in
    ap is_some (placed stamp ∙ ap (λ (t : Bool). cond t (some_of ptr) (ptr_at old stamp)) apart) ∙ known stamp (omega (arith, moved, none, some)))
    (cases_Bool (is_stamp (0, number) stamp))

-- nothing is known of no block
pub known_none : (stamps : Stamps) → ((stamp : ℕ × ℕ) → files_at stamps stamp ≡ 0) → IsAllKnown stamps
known_none stamps none stamp some = let zero = none stamp in absurd (omega (arith, zero, some))
