-- How a catalogue is read: field by field, each with its rules, and what a reader of it answers.
use Rattle.std.specs.Prelude.{◌≡◌, ℕ, zero, suc, ◌+◌, ◌-◌, ◌==◌, nat_le, List, [], ◌∷◌, ◌++◌, length, Result, Ok, Err}
use Rattle.zc_wire.specs.Fields.{Read, ◌>>=◌, u32_field, rule}
use Rattle.zc_wire.specs.declared.fault.CatalogFault.{CatalogFault}
use Rattle.zc_wire.specs.declared.fault.CatalogFault.TheVariants.{NoMemory, BadCatalog}
use Rattle.zc_table.specs.TableBytes.{table_field}
use Rattle.zc_table.specs.declared.stored.StoredTable.{StoredTable}
use Rattle.zc_spacemap.specs.MapBytes.{map_field}
use Rattle.zc_spacemap.specs.declared.stored.StoredMap.{StoredMap}
use Rattle.zc_tree.specs.Reading.{dataset_field}
use Rattle.zc_tree.specs.declared.catalogue.Parts.{Parts}
use Rattle.zc_tree.specs.declared.tree.Dataset.{Dataset}

-- so many datasets after others
unfoldable pub datasets_field : (devices places group next_dataset number : ℕ) → List Dataset → List ℕ → Read (List Dataset)
datasets_field devices places group next_dataset zero others bytes = Ok ([], bytes)
datasets_field devices places group next_dataset (suc number) others bytes = do
  first ← dataset_field devices places group next_dataset others bytes
  more ← datasets_field devices places group next_dataset number (others ++ first.0 ∷ []) first.1
  Ok (first.0 ∷ more.0, more.1)

-- the table and the map of a device
unfoldable pub device_field : (devices places device : ℕ) → List ℕ → Read (StoredTable × StoredMap)
device_field devices places device bytes = do
  table ← table_field devices places device bytes
  free ← map_field places table.1
  Ok ((table.0, free.0), free.1)

-- the tables and the maps of so many devices from this one on
unfoldable pub devices_field : (devices places number device : ℕ) → List ℕ → Read (List StoredTable × List StoredMap)
devices_field devices places zero device bytes = Ok (([], []), bytes)
devices_field devices places (suc number) device bytes = do
  first ← device_field devices places device bytes
  more ← devices_field devices places number (device + 1) first.1
  Ok ((first.0.0 ∷ more.0.0, first.0.1 ∷ more.0.1), more.1)

-- a catalogue, which is all of the bytes
unfoldable pub catalogue_field : (devices places group next_dataset : ℕ) → List ℕ → Read Parts
catalogue_field devices places group next_dataset bytes = do
  number ← u32_field bytes
  _ ← rule (nat_le number.0 8) bytes
  datasets ← datasets_field devices places group next_dataset number.0 [] number.1
  each ← devices_field devices places devices 0 datasets.1
  _ ← rule (length each.1 == 0) each.1
  Ok (record { tree = record { group = group; next_dataset = next_dataset; datasets = datasets.0 }; tables = each.0.0; maps = each.0.1 }, each.1)

-- What a reader of a whole catalogue answered is what the read answers of so many bytes, unless memory was wanting: the value, or
-- the place of the first byte of the first field that isn't there whole or breaks a rule. Bytes after the end are such a field.
abbrev pub AnswersWhole : {X : Type 0} → ℕ → Result X CatalogFault → Read X → Type 0
AnswersWhole total (Ok x) read = read ≡ Ok (x, [])
AnswersWhole total (Err NoMemory) read = Unit {0}
AnswersWhole total (Err (BadCatalog at)) read = (left : ℕ) × (read ≡ Err left) × (at ≡ total - left)

-- a reader answered this value, unless memory was wanting
abbrev pub ReadsWhole : {X : Type 0} → X → Result X CatalogFault → Type 0
ReadsWhole value (Ok x) = x ≡ value
ReadsWhole value (Err NoMemory) = Unit {0}
ReadsWhole value (Err (BadCatalog at)) = ⊥
