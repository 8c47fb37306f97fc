-- Maps from numbers, each seen as the list of its entries in ascending order of keys.
use Rattle.std.specs.Prelude.{ℕ, List, Option}
use Rattle.std.specs.Ordering.{nat_cmp}
use Rattle.std.specs.BTreeMap as tree
use Rattle.std.specs.List.Sorted.{IsStrictlySortedBy}
use Rattle.std.specs.Map as entries

module _ {V : Type 0} where
  -- the keys, in the order of the entries
  abbrev pub keys_of : List (ℕ × V) → List ℕ
  keys_of es = entries.keys_of es

  -- the keys ascend, so none is there twice
  abbrev pub Ascends : List (ℕ × V) → Type 0
  Ascends es = IsStrictlySortedBy nat_cmp (keys_of es)

  -- the value at the key, if there is one
  abbrev pub value_at : ℕ → List (ℕ × V) → Option V
  value_at key es = entries.lookup (tree.is_at (nat_cmp key)) es

  -- the entries with the value at the key, in place of what was there
  abbrev pub insert_entry : ℕ → V → List (ℕ × V) → List (ℕ × V)
  insert_entry key value es = tree.insert_entry nat_cmp es key value

  -- the entries without the one at the key
  abbrev pub remove_entry : ℕ → List (ℕ × V) → List (ℕ × V)
  remove_entry key es = entries.remove_entry (tree.is_at (nat_cmp key)) es
