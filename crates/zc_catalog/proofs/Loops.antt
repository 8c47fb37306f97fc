-- Reading and writing the parts of a catalogue one after the other, as loops do.
use Rattle.std.proofs.Common.{◌≡◌, ◌∙◌, ℕ, suc, ◌+◌, ◌-◌, ◌<◌, ◌≤◌, List, [], ◌∷◌, ◌++◌, length, drop, map, Ok, Err, refl, sym, ap, append_assoc, arith}
use Rattle.std.proofs.lemmas.List.{append-nil, drop_all}
use Rattle.zc_wire.specs.Fields.{Read, ◌>>=◌, FieldFails}
use Rattle.zc_wire.specs.declared.fields.FieldFault.{FieldFault}
use Rattle.zc_wire.specs.declared.fields.FieldFault.TheVariants as field
use Rattle.zc_table.specs.declared.plain.PlainTable.{PlainTable}
use Rattle.zc_table.specs.declared.stored.StoredTable.{StoredTable}
use Rattle.zc_table.specs.Counts.{stored_of}
use Rattle.zc_table.specs.Plain.{counts_of}
use Rattle.zc_table.specs.TableBytes.{table_bytes}
use Rattle.zc_spacemap.specs.declared.bit_map.BitMap.{BitMap}
use Rattle.zc_spacemap.specs.declared.stored.StoredMap.{StoredMap}
use Rattle.zc_spacemap.specs.MapStates.{states_of}
use Rattle.zc_spacemap.specs.MapBytes.{map_bytes, kept_places}
use Rattle.zc_tree.specs.declared.tree.Dataset.{Dataset}
use Rattle.zc_tree.specs.Reading.{dataset_field}
use Rattle.zc_tree.specs.Catalogue.{devices_bytes, stored_map}
use Rattle.zc_tree.specs.CatalogueReading.{datasets_field, device_field, devices_field}
use Rattle.zc_tree.proofs.Loops.{with_front, regroup}

-- ---- datasets

-- one more dataset is read
pub datasets_go_on : (devices places group next_dataset number i : ℕ) (front others : List Dataset) (bytes after : List ℕ) (dataset : Dataset) (total : Read (List Dataset)) → i < number → others ≡ front
    → dataset_field devices places group next_dataset others bytes ≡ Ok (dataset, after)
    → with_front front (datasets_field devices places group next_dataset (number - i) front bytes) ≡ total
    → with_front (front ++ dataset ∷ []) (datasets_field devices places group next_dataset (number - (i + 1)) (front ++ dataset ∷ []) after) ≡ total
unfolding datasets_field
datasets_go_on devices places group next_dataset number i front others bytes after dataset total lt same read so_far =
    let k : number - i ≡ suc (number - (i + 1)) = omega arith in
    let h : dataset_field devices places group next_dataset front bytes ≡ Ok (dataset, after) = ap (λ (ds : List Dataset). dataset_field devices places group next_dataset ds bytes) (sym same) ∙ read in
    let rest = datasets_field devices places group next_dataset (number - (i + 1)) (front ++ dataset ∷ []) after in
    let one : with_front front (datasets_field devices places group next_dataset (number - i) front bytes) ≡ with_front (front ++ dataset ∷ []) rest =
    rw (k, h) (regroup front dataset rest) in
    sym one ∙ so_far

-- a dataset is refused
pub datasets_end : (fault : FieldFault) (devices places group next_dataset number i : ℕ) (front others : List Dataset) (bytes : List ℕ) (total : Read (List Dataset)) → i < number → others ≡ front
    → FieldFails fault (dataset_field devices places group next_dataset others bytes)
    → with_front front (datasets_field devices places group next_dataset (number - i) front bytes) ≡ total → FieldFails fault total
unfolding datasets_field
datasets_end field.NoMemory devices places group next_dataset number i front others bytes total lt same read so_far = tt
datasets_end (field.Bad left) devices places group next_dataset number i front others bytes total lt same read so_far =
    let k : number - i ≡ suc (number - (i + 1)) = omega arith in
    let h : dataset_field devices places group next_dataset front bytes ≡ Err left = ap (λ (ds : List Dataset). dataset_field devices places group next_dataset ds bytes) (sym same) ∙ read in
    let one : with_front front (datasets_field devices places group next_dataset (number - i) front bytes) ≡ Err left = rw (k, h) refl in
    sym so_far ∙ one

-- all datasets are read
pub datasets_done : (devices places group next_dataset number i : ℕ) (front : List Dataset) (bytes : List ℕ) (total : Read (List Dataset)) → number ≤ i
    → with_front front (datasets_field devices places group next_dataset (number - i) front bytes) ≡ total → total ≡ Ok (front, bytes)
unfolding datasets_field
datasets_done devices places group next_dataset number i front bytes total le so_far =
    let k : number - i ≡ 0 = omega arith in
    let one : with_front front (datasets_field devices places group next_dataset (number - i) front bytes) ≡ Ok (front, bytes) = rw k (ap (λ (ds : List Dataset). Ok (ds, bytes)) (append-nil front)) in
    sym so_far ∙ one

-- ---- devices

-- the tables and maps that were read before, and those that are still read
abbrev pub with_fronts : List StoredTable → List StoredMap → Read (List StoredTable × List StoredMap) → Read (List StoredTable × List StoredMap)
with_fronts tables maps read = read >>= λ x. Ok ((tables ++ x.0.0, maps ++ x.0.1), x.1)

-- a device's table and map go to those that were read before
regroup_both : (tables : List StoredTable) (maps : List StoredMap) (table : StoredTable) (free : StoredMap) (read : Read (List StoredTable × List StoredMap))
    → with_fronts tables maps (read >>= λ y. Ok ((table ∷ y.0.0, free ∷ y.0.1), y.1)) ≡ with_fronts (tables ++ table ∷ []) (maps ++ free ∷ []) read
regroup_both tables maps table free (Ok y) =
    let first : tables ++ table ∷ y.0.0 ≡ (tables ++ table ∷ []) ++ y.0.0 = sym (append_assoc tables (table ∷ []) y.0.0) in
    let second : maps ++ free ∷ y.0.1 ≡ (maps ++ free ∷ []) ++ y.0.1 = sym (append_assoc maps (free ∷ []) y.0.1) in
    λ i. Ok ((first i, second i), y.1)
regroup_both tables maps table free (Err left) = refl

-- one more device is read
pub devices_go_on : (devices places number i : ℕ) (tables : List StoredTable) (maps : List StoredMap) (bytes after : List ℕ) (table : StoredTable) (free : StoredMap) (total : Read (List StoredTable × List StoredMap)) → i < number
    → device_field devices places i bytes ≡ Ok ((table, free), after)
    → with_fronts tables maps (devices_field devices places (number - i) i bytes) ≡ total
    → with_fronts (tables ++ table ∷ []) (maps ++ free ∷ []) (devices_field devices places (number - (i + 1)) (i + 1) after) ≡ total
unfolding devices_field
devices_go_on devices places number i tables maps bytes after table free total lt h so_far =
    let k : number - i ≡ suc (number - (i + 1)) = omega arith in
    let rest = devices_field devices places (number - (i + 1)) (i + 1) after in
    let one : with_fronts tables maps (devices_field devices places (number - i) i bytes) ≡ with_fronts (tables ++ table ∷ []) (maps ++ free ∷ []) rest =
    rw (k, h) (regroup_both tables maps table free rest) in
    sym one ∙ so_far

-- a device is refused
pub devices_end : (fault : FieldFault) (devices places number i : ℕ) (tables : List StoredTable) (maps : List StoredMap) (bytes : List ℕ) (total : Read (List StoredTable × List StoredMap)) → i < number
    → FieldFails fault (device_field devices places i bytes)
    → with_fronts tables maps (devices_field devices places (number - i) i bytes) ≡ total → FieldFails fault total
unfolding devices_field
devices_end field.NoMemory devices places number i tables maps bytes total lt h so_far = tt
devices_end (field.Bad left) devices places number i tables maps bytes total lt h so_far =
    let k : number - i ≡ suc (number - (i + 1)) = omega arith in
    let one : with_fronts tables maps (devices_field devices places (number - i) i bytes) ≡ Err left = rw (k, h) refl in
    sym so_far ∙ one

-- all devices are read
pub devices_done : (devices places number i : ℕ) (tables : List StoredTable) (maps : List StoredMap) (bytes : List ℕ) (total : Read (List StoredTable × List StoredMap)) → number ≤ i
    → with_fronts tables maps (devices_field devices places (number - i) i bytes) ≡ total → total ≡ Ok ((tables, maps), bytes)
unfolding devices_field
devices_done devices places number i tables maps bytes total le so_far =
    let k : number - i ≡ 0 = omega arith in
    let all : Ok ((tables ++ [], maps ++ []), bytes) ≡ Ok ((tables, maps), bytes) = λ j. Ok ((append-nil tables j, append-nil maps j), bytes) in
    let one : with_fronts tables maps (devices_field devices places (number - i) i bytes) ≡ Ok ((tables, maps), bytes) = rw k all in
    sym so_far ∙ one

-- ---- writing

-- for each device the bytes of its table and of its map
abbrev pub texts_of : List PlainTable → List BitMap → List ℕ
texts_of [] maps = []
texts_of (table ∷ tables) [] = []
texts_of (table ∷ tables) (free ∷ maps) = table_bytes (stored_of (counts_of table)) ++ (map_bytes (kept_places (states_of free)) ++ texts_of tables maps)

texts_spelled : (tables : List PlainTable) (maps : List BitMap) → texts_of tables maps ≡ devices_bytes (map stored_of (map counts_of tables)) (map stored_map (map states_of maps))
texts_spelled [] maps = refl
texts_spelled (table ∷ tables) [] = refl
texts_spelled (table ∷ tables) (free ∷ maps) =
    ap (λ (t : List ℕ). table_bytes (stored_of (counts_of table)) ++ (map_bytes (kept_places (states_of free)) ++ t)) (texts_spelled tables maps)

-- all devices are written
pub texts_done : (out before : List ℕ) (tables : List PlainTable) (maps : List BitMap) (i : ℕ) → length tables ≤ i
    → out ++ texts_of (drop i tables) (drop i maps) ≡ before ++ texts_of tables maps
    → out ≡ before ++ devices_bytes (map stored_of (map counts_of tables)) (map stored_map (map states_of maps))
texts_done out before tables maps i past so_far =
    let none : texts_of (drop i tables) (drop i maps) ≡ [] = ap (λ (ts : List PlainTable). texts_of ts (drop i maps)) (drop_all i tables past) in
    sym (append-nil out) ∙ ap (λ (t : List ℕ). out ++ t) (sym none) ∙ so_far ∙ ap (λ (t : List ℕ). before ++ t) (texts_spelled tables maps)
