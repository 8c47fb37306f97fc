-- What a set of names knows.
use Rattle.std.specs.Prelude.{◌≡◌, ℕ, List}
use Rattle.std.specs.Ordering.{nat_cmp}
use Rattle.std.specs.Cmp.Lexicographic.{slice_cmp}
use Rattle.std.specs.BTreeSet as set
use Rattle.zc_tree.specs.declared.names.NameSet.{NameSet}
use Rattle.zc_tree.specs.Names.{is_among}

-- the set has just these names
abbrev pub Knows : NameSet → List (List ℕ) → Type 0
Knows known names = (name : List ℕ) → set.contains (slice_cmp nat_cmp) known.set name ≡ is_among name names
