-- Catalogues: what is read is spelled so, and what is spelled so is read.
use Rattle.std.proofs.Common.{◌≡◌, ℕ, zero, suc, ◌+◌, ◌%◌, ◌^◌, ◌≤◌, ◌<◌, true, eqb, leb, List, [], ◌∷◌, ◌++◌, length, Result, Ok, Err, refl, sym, ap, subst, ◌∙◌, append_assoc, arith}
use Rattle.std.specs.Prelude.{IfOk}
use Rattle.std.specs.List.{flat_map, AllByRecursion}
use Rattle.std.proofs.lemmas.Bool.{leb-true, le-leb, eqb-true}
use Rattle.std.proofs.lemmas.List.{append-nil, nil_from_length}
use Rattle.std.proofs.lemmas.List.Concat.{flat_map-cons}
use Rattle.zc_num.specs.Limits.{AreLimits}
use Rattle.zc_wire.specs.Numbers.{u32_bytes, IsBytes}
use Rattle.zc_wire.specs.declared.fault.CatalogFault.{CatalogFault}
use Rattle.zc_wire.specs.declared.fault.CatalogFault.TheVariants as catalog
use Rattle.zc_wire.specs.declared.fields.FieldFault.{FieldFault}
use Rattle.zc_wire.specs.declared.fields.FieldFault.TheVariants as field
use Rattle.zc_wire.specs.Fields.{Read, FieldFails, placed_in, u32_field}
use Rattle.zc_wire.proofs.FieldLaws.{bind_ok, rule_ok, ok_is, bind_again, rule_on, Takes, takes_then, takes_none, u32_takes, u32_again}
use Rattle.zc_table.specs.declared.stored.StoredTable.{StoredTable}
use Rattle.zc_table.specs.TableBytes.{table_bytes, table_field, IsTable}
use Rattle.zc_table.proofs.TableLaws.{table_takes, table_again, places_few}
use Rattle.zc_spacemap.specs.declared.stored.StoredMap.{StoredMap}
use Rattle.zc_spacemap.specs.MapBytes.{map_bytes, map_field}
use Rattle.zc_spacemap.proofs.MapLaws.{map_takes, map_again}
use Rattle.zc_tree.specs.declared.tree.Dataset.{Dataset}
use Rattle.zc_tree.specs.declared.catalogue.Parts.{Parts}
use Rattle.zc_tree.specs.Spelling.{dataset_bytes}
use Rattle.zc_tree.specs.Reading.{dataset_field}
use Rattle.zc_tree.specs.Catalogue.{devices_bytes, catalogue_bytes, AreDatasets, AreTables, AreParts}
use Rattle.zc_tree.specs.CatalogueReading.{datasets_field, device_field, devices_field, catalogue_field, AnswersWhole, ReadsWhole}
use Rattle.zc_tree.proofs.FileLaws.{AreSmall, small_limits}
use Rattle.zc_tree.proofs.DatasetLaws.{dataset_takes, dataset_again}

-- ---- datasets

-- what a read of so many datasets has found
pub record DatasetsFound (devices places group next_dataset number : ℕ) (others : List Dataset) (bytes : List ℕ) (datasets : List Dataset) (rest : List ℕ) : Type 0 where
  pub takes : Takes bytes (flat_map dataset_bytes datasets) rest
  pub all : length datasets ≡ number
  pub fits : AreDatasets devices places group next_dataset others datasets

pub datasets_take : (devices places group next_dataset number : ℕ) (others : List Dataset) (bytes : List ℕ) (x : List Dataset × List ℕ) → IsBytes bytes
    → datasets_field devices places group next_dataset number others bytes ≡ Ok x → DatasetsFound devices places group next_dataset number others bytes x.0 x.1
unfolding datasets_field
datasets_take devices places group next_dataset zero others bytes x fits e =
    subst (λ (y : List Dataset × List ℕ). DatasetsFound devices places group next_dataset 0 others bytes y.0 y.1) (ok_is ([], bytes) x e) (record { takes = takes_none bytes fits; all = refl; fits = tt })
datasets_take devices places group next_dataset (suc number) others bytes x fits e =
    let a = bind_ok (dataset_field devices places group next_dataset others bytes) _ x e in
    let behind : List Dataset = others ++ a.0.0 ∷ [] in
    let b = bind_ok (datasets_field devices places group next_dataset number behind a.0.1) _ x a.2 in
    let first = dataset_takes devices places group next_dataset others bytes a.0 fits a.1 in
    let more = datasets_take devices places group next_dataset number behind a.0.1 b.0 first.takes.rest_fits b.1 in
    let both = takes_then bytes (dataset_bytes a.0.0) a.0.1 (flat_map dataset_bytes b.0.0) b.0.1 first.takes more.takes in
    let whole : Takes bytes (flat_map dataset_bytes (a.0.0 ∷ b.0.0)) b.0.1 = subst (λ (t : List ℕ). Takes bytes t b.0.1) (sym (flat_map-cons dataset_bytes a.0.0 b.0.0)) both in
    subst (λ (y : List Dataset × List ℕ). DatasetsFound devices places group next_dataset (suc number) others bytes y.0 y.1) (ok_is (a.0.0 ∷ b.0.0, b.0.1) x b.2)
    (record { takes = whole; all = ap suc more.all; fits = (first.fits, first.behind, more.fits) })

pub datasets_again : (devices places group next_dataset : ℕ) (others datasets : List Dataset) (rest : List ℕ) → AreSmall devices places → group < 2 ^ 64 → next_dataset < 2 ^ 64
    → AreDatasets devices places group next_dataset others datasets
    → datasets_field devices places group next_dataset (length datasets) others (flat_map dataset_bytes datasets ++ rest) ≡ Ok (datasets, rest)
unfolding datasets_field
datasets_again devices places group next_dataset others [] rest small group_width width fits = refl
datasets_again devices places group next_dataset others (dataset ∷ datasets) rest small group_width width fits =
    let back : List ℕ = flat_map dataset_bytes datasets ++ rest in
    let regrouped : flat_map dataset_bytes (dataset ∷ datasets) ++ rest ≡ dataset_bytes dataset ++ back =
    ap (λ (t : List ℕ). t ++ rest) (flat_map-cons dataset_bytes dataset datasets) ∙ append_assoc (dataset_bytes dataset) (flat_map dataset_bytes datasets) rest in
    ap (datasets_field devices places group next_dataset (suc (length datasets)) others) regrouped
    ∙ bind_again (dataset_field devices places group next_dataset others (dataset_bytes dataset ++ back)) _ (dataset, back) _
    (dataset_again devices places group next_dataset others dataset back small group_width width fits.0 fits.1)
    (bind_again (datasets_field devices places group next_dataset (length datasets) (others ++ dataset ∷ []) back) _ (datasets, rest) _
    (datasets_again devices places group next_dataset (others ++ dataset ∷ []) datasets rest small group_width width fits.2) refl)

-- ---- the table and the map of a device

-- what a read of a device's table and map has found
pub record DeviceFound (devices places device : ℕ) (bytes : List ℕ) (table : StoredTable) (free : StoredMap) (rest : List ℕ) : Type 0 where
  pub takes : Takes bytes (table_bytes table ++ map_bytes free.allocated) rest
  pub is_table : IsTable devices places device table
  pub is_map : length free.allocated ≡ places

pub device_takes : (devices places device : ℕ) (bytes : List ℕ) (x : (StoredTable × StoredMap) × List ℕ) → places % 8 ≡ 0 → IsBytes bytes
    → device_field devices places device bytes ≡ Ok x → DeviceFound devices places device bytes x.0.0 x.0.1 x.1
unfolding device_field
device_takes devices places device bytes x whole fits e =
    let a = bind_ok (table_field devices places device bytes) _ x e in
    let b = bind_ok (map_field places a.0.1) _ x a.2 in
    let table = table_takes devices places device bytes a.0.0 a.0.1 fits a.1 in
    let free = map_takes places a.0.1 b.0.1 b.0.0 whole table.0.rest_fits b.1 in
    subst (λ (y : (StoredTable × StoredMap) × List ℕ). DeviceFound devices places device bytes y.0.0 y.0.1 y.1) (ok_is ((a.0.0, b.0.0), b.0.1) x b.2) (record {
      takes = takes_then bytes (table_bytes a.0.0) a.0.1 (map_bytes b.0.0.allocated) b.0.1 table.0 free.0;
      is_table = table.1;
      is_map = free.1;
    })

pub device_again : (devices places device : ℕ) (table : StoredTable) (free : StoredMap) (rest : List ℕ) → places % 8 ≡ 0 → places < 2 ^ 32 → IsTable devices places device table → length free.allocated ≡ places
    → device_field devices places device (table_bytes table ++ (map_bytes free.allocated ++ rest)) ≡ Ok ((table, free), rest)
unfolding device_field
device_again devices places device table free rest whole few is_table is_map =
    let back : List ℕ = map_bytes free.allocated ++ rest in
    bind_again (table_field devices places device (table_bytes table ++ back)) _ (table, back) _ (table_again devices places device table back few is_table)
    (bind_again (map_field places back) _ (free, rest) _ (map_again places free rest whole is_map) refl)

-- ---- all devices

abbrev pub AreMaps : ℕ → List StoredMap → Type 0
AreMaps places maps = AllByRecursion (λ (free : StoredMap). length free.allocated ≡ places) maps

-- what a read of the tables and maps of so many devices has found
pub record DevicesFound (devices places number device : ℕ) (bytes : List ℕ) (tables : List StoredTable) (maps : List StoredMap) (rest : List ℕ) : Type 0 where
  pub takes : Takes bytes (devices_bytes tables maps) rest
  pub each_table : length tables ≡ number
  pub are_tables : AreTables devices places device tables
  pub each_map : length maps ≡ number
  pub are_maps : AreMaps places maps

pub devices_take : (devices places number device : ℕ) (bytes : List ℕ) (x : (List StoredTable × List StoredMap) × List ℕ) → places % 8 ≡ 0 → IsBytes bytes
    → devices_field devices places number device bytes ≡ Ok x → DevicesFound devices places number device bytes x.0.0 x.0.1 x.1
unfolding devices_field
devices_take devices places zero device bytes x whole fits e =
    subst (λ (y : (List StoredTable × List StoredMap) × List ℕ). DevicesFound devices places 0 device bytes y.0.0 y.0.1 y.1) (ok_is (([], []), bytes) x e)
    (record { takes = takes_none bytes fits; each_table = refl; are_tables = tt; each_map = refl; are_maps = tt })
devices_take devices places (suc number) device bytes x whole fits e =
    let a = bind_ok (device_field devices places device bytes) _ x e in
    let b = bind_ok (devices_field devices places number (device + 1) a.0.1) _ x a.2 in
    let first = device_takes devices places device bytes a.0 whole fits a.1 in
    let more = devices_take devices places number (device + 1) a.0.1 b.0 whole first.takes.rest_fits b.1 in
    let table : List ℕ = table_bytes a.0.0.0 in
    let free : List ℕ = map_bytes a.0.0.1.allocated in
    let others : List ℕ = devices_bytes b.0.0.0 b.0.0.1 in
    let both = takes_then bytes (table ++ free) a.0.1 others b.0.1 first.takes more.takes in
    let spelled : Takes bytes (table ++ (free ++ others)) b.0.1 = subst (λ (t : List ℕ). Takes bytes t b.0.1) (append_assoc table free others) both in
    subst (λ (y : (List StoredTable × List StoredMap) × List ℕ). DevicesFound devices places (suc number) device bytes y.0.0 y.0.1 y.1)
    (ok_is ((a.0.0.0 ∷ b.0.0.0, a.0.0.1 ∷ b.0.0.1), b.0.1) x b.2) (record {
      takes = spelled;
      each_table = ap suc more.each_table;
      are_tables = (first.is_table, more.are_tables);
      each_map = ap suc more.each_map;
      are_maps = (first.is_map, more.are_maps);
    })

pub devices_again : (devices places device : ℕ) (tables : List StoredTable) (maps : List StoredMap) (rest : List ℕ) → places % 8 ≡ 0 → places < 2 ^ 32 → length tables ≡ length maps
    → AreTables devices places device tables → AreMaps places maps
    → devices_field devices places (length tables) device (devices_bytes tables maps ++ rest) ≡ Ok ((tables, maps), rest)
unfolding devices_field
devices_again devices places device [] [] rest whole few each are_tables are_maps = refl
devices_again devices places device [] (free ∷ maps) rest whole few each are_tables are_maps = absurd (omega arith)
devices_again devices places device (table ∷ tables) [] rest whole few each are_tables are_maps = absurd (omega arith)
devices_again devices places device (table ∷ tables) (free ∷ maps) rest whole few each are_tables are_maps =
    let back : List ℕ = devices_bytes tables maps ++ rest in
    let regrouped : (table_bytes table ++ (map_bytes free.allocated ++ devices_bytes tables maps)) ++ rest ≡ table_bytes table ++ (map_bytes free.allocated ++ back) = simp append_assoc in
    ap (devices_field devices places (suc (length tables)) device) regrouped
    ∙ bind_again (device_field devices places device (table_bytes table ++ (map_bytes free.allocated ++ back))) _ ((table, free), back) _
    (device_again devices places device table free back whole few are_tables.0 are_maps.0)
    (bind_again (devices_field devices places (length tables) (device + 1) back) _ ((tables, maps), rest) _
    (devices_again devices places (device + 1) tables maps rest whole few (omega arith) are_tables.1 are_maps.1) refl)

-- ---- a catalogue

record CatalogueParts (devices places group next_dataset : ℕ) (bytes : List ℕ) (x : Parts × List ℕ) : Type 0 where
  number : ℕ × List ℕ
  datasets : List Dataset × List ℕ
  each : (List StoredTable × List StoredMap) × List ℕ
  number_is : u32_field bytes ≡ Ok number
  few : leb number.0 8 ≡ true
  datasets_is : datasets_field devices places group next_dataset number.0 [] number.1 ≡ Ok datasets
  each_is : devices_field devices places devices 0 datasets.1 ≡ Ok each
  at_end : eqb (length each.1) 0 ≡ true
  made : record { tree = record { group = group; next_dataset = next_dataset; datasets = datasets.0 }; tables = each.0.0; maps = each.0.1 } ≡ x.0
  rest : each.1 ≡ x.1

catalogue_parts : (devices places group next_dataset : ℕ) (bytes : List ℕ) (x : Parts × List ℕ) → catalogue_field devices places group next_dataset bytes ≡ Ok x → CatalogueParts devices places group next_dataset bytes x
unfolding catalogue_field
catalogue_parts devices places group next_dataset bytes x e =
    let n = bind_ok (u32_field bytes) _ x e in
    let few = rule_ok (leb n.0.0 8) bytes _ x n.2 in
    let d = bind_ok (datasets_field devices places group next_dataset n.0.0 [] n.0.1) _ x few.1 in
    let v = bind_ok (devices_field devices places devices 0 d.0.1) _ x d.2 in
    let end = rule_ok (eqb (length v.0.1) 0) v.0.1 _ x v.2 in
    let found : Parts × List ℕ = (record { tree = record { group = group; next_dataset = next_dataset; datasets = d.0.0 }; tables = v.0.0.0; maps = v.0.0.1 }, v.0.1) in
    let is : found ≡ x = ok_is found x end.1 in
    record {
      number = n.0;
      datasets = d.0;
      each = v.0;
      number_is = n.1;
      few = few.0;
      datasets_is = d.1;
      each_is = v.1;
      at_end = end.0;
      made = ap (λ (y : Parts × List ℕ). y.0) is;
      rest = ap (λ (y : Parts × List ℕ). y.1) is;
    }

-- what a read of a catalogue has found: it is all of the bytes
pub record CatalogueFound (devices places group next_dataset : ℕ) (bytes : List ℕ) (parts : Parts) : Type 0 where
  pub fits : AreParts devices places group next_dataset parts
  pub spelled : bytes ≡ catalogue_bytes parts

pub catalogue_takes : (devices places group next_dataset : ℕ) (bytes : List ℕ) (x : Parts × List ℕ) → AreLimits devices places → IsBytes bytes
    → catalogue_field devices places group next_dataset bytes ≡ Ok x → CatalogueFound devices places group next_dataset bytes x.0 × (x.1 ≡ [])
unfolding catalogue_bytes
catalogue_takes devices places group next_dataset bytes x limits fits e =
    let p = catalogue_parts devices places group next_dataset bytes x e in
    let whole : places % 8 ≡ 0 = omega (arith, limits.whole_regions) in
    let number = u32_takes bytes p.number.0 p.number.1 fits p.number_is in
    let datasets = datasets_take devices places group next_dataset p.number.0 [] p.number.1 p.datasets number.0.rest_fits p.datasets_is in
    let each = devices_take devices places devices 0 p.datasets.1 p.each whole datasets.takes.rest_fits p.each_is in
    let text : List ℕ = flat_map dataset_bytes p.datasets.0 ++ devices_bytes p.each.0.0 p.each.0.1 in
    let behind = takes_then p.number.1 (flat_map dataset_bytes p.datasets.0) p.datasets.1 (devices_bytes p.each.0.0 p.each.0.1) p.each.1 datasets.takes each.takes in
    let all : Takes bytes (u32_bytes (length p.datasets.0) ++ text) p.each.1 =
    subst (λ (n : ℕ). Takes bytes (u32_bytes n ++ text) p.each.1) (sym datasets.all) (takes_then bytes (u32_bytes p.number.0) p.number.1 text p.each.1 number.0 behind) in
    let none : p.each.1 ≡ [] = nil_from_length p.each.1 (eqb-true (length p.each.1) 0 p.at_end) in
    let spelled : bytes ≡ u32_bytes (length p.datasets.0) ++ text =
    all.parts ∙ ap (λ (t : List ℕ). (u32_bytes (length p.datasets.0) ++ text) ++ t) none ∙ append-nil (u32_bytes (length p.datasets.0) ++ text) in
    let made : Parts = record { tree = record { group = group; next_dataset = next_dataset; datasets = p.datasets.0 }; tables = p.each.0.0; maps = p.each.0.1 } in
    let few : length p.datasets.0 ≤ 8 = omega (arith, datasets.all, leb-true p.number.0 8 p.few) in
    let found : CatalogueFound devices places group next_dataset bytes made = record {
      fits = record {
        group_is = refl;
        next_dataset_is = refl;
        few_datasets = few;
        datasets = datasets.fits;
        each_table = each.each_table;
        tables = each.are_tables;
        each_map = each.each_map;
        maps = each.are_maps;
      };
      spelled = spelled;
    } in
    (subst (CatalogueFound devices places group next_dataset bytes) p.made found, sym p.rest ∙ none)

pub catalogue_again : (devices places group next_dataset : ℕ) (parts : Parts) → AreLimits devices places → group < 2 ^ 64 → next_dataset < 2 ^ 64
    → AreParts devices places group next_dataset parts → catalogue_field devices places group next_dataset (catalogue_bytes parts) ≡ Ok (parts, [])
unfolding catalogue_field catalogue_bytes
catalogue_again devices places group next_dataset parts limits group_width width fits =
    let small = small_limits devices places limits in
    let whole : places % 8 ≡ 0 = omega (arith, limits.whole_regions) in
    let datasets = parts.tree.datasets in
    let r2 : List ℕ = devices_bytes parts.tables parts.maps in
    let r1 : List ℕ = flat_map dataset_bytes datasets ++ r2 in
    let each : devices_field devices places devices 0 r2 ≡ Ok ((parts.tables, parts.maps), []) =
    ap (devices_field devices places devices 0) (sym (append-nil r2))
    ∙ ap (λ (n : ℕ). devices_field devices places n 0 (r2 ++ [])) (sym fits.each_table)
    ∙ devices_again devices places 0 parts.tables parts.maps [] whole (places_few devices places limits) (fits.each_table ∙ sym fits.each_map) fits.tables fits.maps in
    let made : Parts = record { tree = record { group = group; next_dataset = next_dataset; datasets = datasets }; tables = parts.tables; maps = parts.maps } in
    let is : made ≡ parts =
    λ i. record { tree = record { group = sym fits.group_is i; next_dataset = sym fits.next_dataset_is i; datasets = datasets }; tables = parts.tables; maps = parts.maps } in
    bind_again (u32_field (u32_bytes (length datasets) ++ r1)) _ (length datasets, r1) _ (u32_again (length datasets) r1 (omega (arith, fits.few_datasets)))
    (rule_on (leb (length datasets) 8) (u32_bytes (length datasets) ++ r1) _ _ (le-leb (length datasets) 8 fits.few_datasets)
    (bind_again (datasets_field devices places group next_dataset (length datasets) [] r1) _ (datasets, r2) _
    (datasets_again devices places group next_dataset [] datasets r2 small group_width width fits.datasets)
    (bind_again (devices_field devices places devices 0 r2) _ ((parts.tables, parts.maps), []) _ each
    (ap (λ (y : Parts). Ok (y, [])) is))))

-- two catalogues of one root with one spelling are one
pub catalogue_same : (devices places group next_dataset : ℕ) (parts other : Parts) → AreLimits devices places → group < 2 ^ 64 → next_dataset < 2 ^ 64
    → AreParts devices places group next_dataset parts → AreParts devices places group next_dataset other → catalogue_bytes parts ≡ catalogue_bytes other → parts ≡ other
catalogue_same devices places group next_dataset parts other limits group_width width fits other_fits same =
    ap (λ (y : Parts × List ℕ). y.0) (ok_is (parts, []) (other, [])
    (sym (catalogue_again devices places group next_dataset parts limits group_width width fits) ∙ ap (catalogue_field devices places group next_dataset) same
    ∙ catalogue_again devices places group next_dataset other limits group_width width other_fits))

-- ---- what a reader of a whole catalogue answers

-- where it is Ok, the bytes are the spelling of what it found
pub whole_is_found : (devices places group next_dataset : ℕ) (bytes : List ℕ) (result : Result Parts CatalogFault) → AreLimits devices places → IsBytes bytes
    → AnswersWhole (length bytes) result (catalogue_field devices places group next_dataset bytes)
    → IfOk result (λ parts. AreParts devices places group next_dataset parts × (bytes ≡ catalogue_bytes parts))
whole_is_found devices places group next_dataset bytes (Ok parts) limits fits answer =
    let found = catalogue_takes devices places group next_dataset bytes (parts, []) limits fits answer in
    (found.0.fits, found.0.spelled)
whole_is_found devices places group next_dataset bytes (Err fault) limits fits answer = tt

-- bytes that are the spelling of a catalogue are read as that one
pub whole_is_read : (devices places group next_dataset : ℕ) (bytes : List ℕ) (result : Result Parts CatalogFault) → AreLimits devices places → group < 2 ^ 64 → next_dataset < 2 ^ 64
    → AnswersWhole (length bytes) result (catalogue_field devices places group next_dataset bytes)
    → (parts : Parts) → AreParts devices places group next_dataset parts → bytes ≡ catalogue_bytes parts → ReadsWhole parts result
whole_is_read devices places group next_dataset bytes result limits group_width width answer parts fits spelled =
    whole_reads (length bytes) result (catalogue_field devices places group next_dataset bytes) parts answer
    (ap (catalogue_field devices places group next_dataset) spelled ∙ catalogue_again devices places group next_dataset parts limits group_width width fits)
  where
    whole_reads : {X : Type 0} (total : ℕ) (result : Result X CatalogFault) (read : Read X) (x : X) → AnswersWhole total result read → read ≡ Ok (x, []) → ReadsWhole x result
    whole_reads {X} total (Ok y) read x answer is =
        let found : X × List ℕ = (y, []) in
        let sought : X × List ℕ = (x, []) in
        ap (λ (p : X × List ℕ). p.0) (ok_is found sought (sym answer ∙ is))
    whole_reads total (Err catalog.NoMemory) read x answer is = tt
    whole_reads total (Err (catalog.BadCatalog at)) read x answer is = let clash = sym is ∙ answer.1 in absurd cc

-- a fault of a read, placed among all bytes
pub fault_whole : {X : Type 0} (total : ℕ) (fault : FieldFault) (placed : CatalogFault) (read : Read X) → placed ≡ placed_in total fault → FieldFails fault read → AnswersWhole {X = X} total (Err placed) read
fault_whole {X} total field.NoMemory placed read is fails = subst (λ (e : CatalogFault). AnswersWhole {X = X} total (Err e) read) (sym is) tt
fault_whole {X} total (field.Bad left) placed read is fails = subst (λ (e : CatalogFault). AnswersWhole {X = X} total (Err e) read) (sym is) (left, fails, refl)
