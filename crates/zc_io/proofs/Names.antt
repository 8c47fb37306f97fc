-- What stands under the names, when a slot is written or added.
use Rattle.std.proofs.Common.{◌≡◌, ℕ, Bool, true, false, List, [], ◌∷◌, ◌++◌, Option, Some, None, length, get_or, set, cond, refl, ap, sym, ◌∙◌, inl, inr, ltb, ltb-false, ◌⊎◌}
use Rattle.std.proofs.Math.Path.{fun_ext}
use Rattle.std.proofs.lemmas.Bool.{cases_Bool}
use Rattle.std.proofs.lemmas.List.Folds.{find_at, find-set, find_past, find-append}
use Rattle.std.proofs.lemmas.Option.{slice_get_past, slice_get-get_or}
use Rattle.std.proofs.lemmas.List.Quantifiers.{position-Some}
use Rattle.std.proofs.lemmas.Slice.Eq.{bytes_eq-Decides}
use Rattle.std.specs.List.{find, position, position_or_len, slice_get}
use Rattle.std.specs.Option.{option_or, is_some}
use Rattle.std.specs.Str.{bytes_eq}
use Rattle.zc_io.specs.declared.slots.Slot.{Slot}
use Rattle.zc_io.specs.Slots.{nothing, held_in, held_at, slot_in, with_held, disks_in}

-- whether a slot has a name
abbrev pub named : List ℕ → Slot → Bool
named name slot = bytes_eq slot.name name

position_is : {X : Type 0} (p : X → Bool) (xs : List X) (i : ℕ) → position p xs ≡ Some i → i ≡ position_or_len p xs
position_is p xs i e = elim (cases_Bool (ltb (position_or_len p xs) (length xs))) [
  | inl within ↦ let h = rw within at e in cc
  | inr past ↦ let h = rw past at e in cc
]

-- where no slot has the name, none is found
pub slot_missing : (slots : List Slot) (name : List ℕ) → position (named name) slots ≡ None → slot_in slots name ≡ None
slot_missing slots name e = find_at (named name) slots ∙ beyond (cases_Bool (ltb (position_or_len (named name) slots) (length slots))) where
  beyond : (ltb (position_or_len (named name) slots) (length slots) ≡ true) ⊎ (ltb (position_or_len (named name) slots) (length slots) ≡ false) → slice_get slots (position_or_len (named name) slots) ≡ None
  beyond (inl within) = let h = rw within at e in cc
  beyond (inr past) = slice_get_past slots (position_or_len (named name) slots) (ltb-false _ _ past)

-- the first slot of the name is found
pub slot_found : (slots : List Slot) (name : List ℕ) (i : ℕ) (d : Slot) → position (named name) slots ≡ Some i → slot_in slots name ≡ Some (get_or slots i d)
slot_found slots name i d e = find_at (named name) slots ∙ (ap (slice_get slots) (sym (position_is (named name) slots i e)) ∙ slice_get-get_or slots i d (position-Some (named name) slots i d e).0)

-- the name of that slot
pub slot_name : (slots : List Slot) (name : List ℕ) (i : ℕ) (d : Slot) → position (named name) slots ≡ Some i → (get_or slots i d).name ≡ name
slot_name slots name i d e = (bytes_eq-Decides (get_or slots i d).name name).0 (position-Some (named name) slots i d e).1

-- a slot that is written changes what stands under its name, and under no other
pub slot_set : (slots : List Slot) (name : List ℕ) (i : ℕ) (slot d : Slot) → position (named name) slots ≡ Some i → slot.name ≡ name
    → held_at (set slots i slot) ≡ with_held (held_at slots) name slot.held
slot_set slots name i slot d e same = fun_ext (λ n. each n (cases_Bool (bytes_eq name n))) where
  each : (n : List ℕ) → (bytes_eq name n ≡ true) ⊎ (bytes_eq name n ≡ false) → held_at (set slots i slot) n ≡ with_held (held_at slots) name slot.held n
  each n (inl t) = rw t (ap held_in (find-set (named n) slots i slot (position_is (named n) slots i (rw (← (bytes_eq-Decides name n).0 t) e)) (position-Some (named name) slots i d e).0 (rw same t)))
  each n (inr f) = rw f (ap held_in (find_past (named n) slots i slot d (rw (slot_name slots name i d e) f) (rw same f)))

-- a new slot with nothing in it changes nothing
pub slot_pushed : (slots : List Slot) (slot : Slot) → slot.held ≡ nothing → held_at (slots ++ slot ∷ []) ≡ held_at slots
slot_pushed slots slot empty = fun_ext (λ n. rw find-append (each (find (named n) slots) (bytes_eq slot.name n))) where
  each : (before : Option Slot) (here : Bool) → held_in (option_or before (cond here (Some slot) None)) ≡ held_in before
  each (Some first) here = refl
  each None true = empty
  each None false = refl

-- a new slot of a name is found, or one before it
pub slot_there : (slots : List Slot) (slot : Slot) (name : List ℕ) → slot.name ≡ name → is_some (slot_in (slots ++ slot ∷ []) name) ≡ true
slot_there slots slot name same = rw find-append (rw ((bytes_eq-Decides slot.name name).1 same) (each (find (named name) slots))) where
  each : (before : Option Slot) → is_some (option_or before (Some slot)) ≡ true
  each None = refl
  each (Some first) = refl

-- a name under which something stands has a slot
pub slot_standing : (slots : List Slot) (name : List ℕ) → is_some (disks_in (held_at slots name)) ≡ true → is_some (slot_in slots name) ≡ true
slot_standing slots name = each (slot_in slots name) where
  each : (slot : Option Slot) → is_some (disks_in (held_in slot)) ≡ true → is_some slot ≡ true
  each None e = e
  each (Some slot) e = refl
