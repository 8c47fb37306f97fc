-- Values with a number and a name each, and the two maps that hold them.
use Rattle.std.specs.Prelude.{◌≡◌, ℕ, ◌<◌, ◌==◌, Bool, false, List, [], ◌∷◌, map, find, Option, option_map}
use Rattle.std.specs.List.{AllByRecursion, list_any}
use Rattle.std.specs.List.Sorted.{IsStrictlySortedBy}
use Rattle.std.specs.Ordering.{nat_cmp}
use Rattle.std.specs.BTreeMap.{is_at}
use Rattle.std.specs.Cmp.Lexicographic.{slice_cmp}
use Rattle.std.specs.Map.{lookup, keys_of}
use Rattle.std.specs.Str.{bytes_eq}
use Rattle.zc_heart.specs.declared.directory.Named.{Named}

module _ {V : Type 0} where
  -- the number of the item
  abbrev pub id_of : Named V → ℕ
  id_of named = named.id

  -- the value of the item
  abbrev pub value_of : Named V → V
  value_of named = named.value

  -- the item has this number
  abbrev pub is_numbered : ℕ → Named V → Bool
  is_numbered id named = named.id == id

  -- the item has this name
  abbrev pub is_called : List ℕ → Named V → Bool
  is_called name named = bytes_eq named.name name

  -- the number of the item of the name, if there is one
  abbrev pub id_called : List ℕ → List (Named V) → Option ℕ
  id_called name items = option_map id_of (find (is_called name) items)

  -- each number is below this one
  abbrev pub AreBelow : ℕ → List (Named V) → Type 0
  AreBelow id items = AllByRecursion (λ (named : Named V). named.id < id) items

  -- the item with this value
  abbrev pub with_value : V → Named V → Named V
  with_value value named = record named { value = value }

  -- no two items have one name
  abbrev pub AreUnlike : List (Named V) → Type 0
  AreUnlike [] = Unit {0}
  AreUnlike (named ∷ items) = (list_any (is_called named.name) items ≡ false) × AreUnlike items

  -- the items of a map, in the order of their numbers
  abbrev pub items_of : List (ℕ × Named V) → List (Named V)
  items_of entries = map (λ (entry : ℕ × Named V). entry.1) entries

  -- Each item stands at its number, and the second map has the number of each name.
  pub record IsDirectory (entries : List (ℕ × Named V)) (ids : List (List ℕ × ℕ)) : Type 0 where
    pub placed : AllByRecursion (λ (entry : ℕ × Named V). entry.0 ≡ entry.1.id) entries
    pub ascending : IsStrictlySortedBy nat_cmp (keys_of entries)
    pub unlike : AreUnlike (items_of entries)
    pub named : (name : List ℕ) → lookup (is_at (slice_cmp nat_cmp name)) ids ≡ id_called name (items_of entries)
