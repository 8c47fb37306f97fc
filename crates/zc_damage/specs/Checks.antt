-- The checks of what a catalogue says: each is the first hit in its order, or None.
use Rattle.std.specs.Prelude.{ℕ, ◌+◌, ◌-◌, ◌*◌, ◌/◌, ◌%◌, ◌^◌, ◌<◌, ◌==◌, ◌&&◌, Bool, not, nat_lt, List, [], ◌∷◌, map, drop, sum, Option, Some, None, count_by, if◌then◌else◌}
use Rattle.std.specs.List.{All, range_with_len}
use Rattle.std.specs.Str.{bytes_eq}
use Rattle.zc_num.specs.Words.{each}
use Rattle.zc_num.specs.Limits.{log_places_of, data_places_of, total_of}
use Rattle.zc_num.specs.Ordered.{value_at}
use Rattle.zc_num.specs.declared.numbers.PlaceAt.{PlaceAt}
use Rattle.zc_wire.specs.Numbers.{u64_bytes}
use Rattle.zc_blkptr.specs.declared.ptr.Ptr.{Ptr}
use Rattle.zc_root.specs.Root.{slot_of, body_place}
use Rattle.zc_table.specs.declared.stored.StoredTable.{StoredTable}
use Rattle.zc_spacemap.specs.declared.stored.StoredMap.{StoredMap}
use Rattle.zc_tree.specs.declared.tree.Tree.{Tree}
use Rattle.zc_tree.specs.declared.tree.Dataset.{Dataset}
use Rattle.zc_tree.specs.declared.tree.File.{File}
use Rattle.zc_tree.specs.declared.tree.LogState.{LogState}
use Rattle.zc_tree.specs.declared.tree.LogState.TheVariants.{Normal, Claimed}
use Rattle.zc_tree.specs.declared.catalogue.Parts.{Parts}
use Rattle.zc_tree.specs.Reach.{pointers_of_tree}
use Rattle.zc_damage.specs.declared.damage.Hit.{Hit}
use Rattle.zc_damage.specs.declared.damage.Damage.{Damage}
use Rattle.zc_damage.specs.declared.damage.DamageKind.{DamageKind}
use Rattle.zc_damage.specs.declared.damage.DamageKind.TheVariants.{Worn, Birth, Log, Owner, Tail, Count, Region, Map, Charge}
use Rattle.zc_damage.specs.Words.{or_else, when, first_of, first_from}
use Rattle.zc_damage.specs.Places.{pointers_to, is_reached, extra_at, chain_has, is_owned, stored_count, stored_counter, is_allocated}

-- the damage that a hit with numbers is: each of the two in eight bytes
abbrev pub damage_of : Hit → Damage
damage_of hit = record { kind = hit.kind; device = hit.device; place = hit.place; kept = u64_bytes hit.kept; found = u64_bytes hit.found }

-- a hit at the place with this number
abbrev pub hit_at : DamageKind → (places number kept found : ℕ) → Hit
hit_at kind places number kept found = record { kind = kind; device = number / places; place = number % places; kept = kept; found = found }

-- a hit at the body of the root of this group
abbrev pub hit_at_root : DamageKind → (group kept found : ℕ) → Hit
hit_at_root kind group kept found = record { kind = kind; device = 0; place = body_place (slot_of group); kept = kept; found = found }

-- ---- worn: a number of a root that is above the highest that an import takes

-- the highest number of a group, a dataset or a file that an import takes
abbrev pub highest_number : ℕ
highest_number = 2 ^ 62

-- the numbers of a tree that go on rising: its group, the next dataset, the next file of each dataset
abbrev pub rising_numbers : Tree → List ℕ
rising_numbers tree = tree.group ∷ (tree.next_dataset ∷ map (λ dataset. dataset.next_file) tree.datasets)

abbrev pub worn_hit_at : (group number : ℕ) → Option Hit
worn_hit_at group number = when (nat_lt highest_number number) (hit_at_root Worn group highest_number number)

abbrev pub worn_hit : Tree → Option Hit
worn_hit tree = first_of (worn_hit_at tree.group) (rising_numbers tree)

-- ---- birth: a pointer that came into its file after the root's group

abbrev pub birth_hit_at : (group : ℕ) → Ptr → Option Hit
birth_hit_at group ptr = when (nat_lt group ptr.logical) (record { kind = Birth; device = ptr.device; place = ptr.place; kept = group; found = ptr.logical })

abbrev pub birth_hit : (group : ℕ) → List Ptr → Option Hit
birth_hit group reach = first_of (birth_hit_at group) reach

-- ---- log: a dataset with a claimed log, as long as none is read

abbrev pub log_hit_in : (devices places slot : ℕ) → LogState → Option Hit
log_hit_in devices places slot Normal = None
log_hit_in devices places slot (Claimed epoch blocks) =
    Some (record { kind = Log; device = 0; place = 4 + slot * log_places_of devices places; kept = blocks; found = 0 })

abbrev pub log_hit_of : (devices places : ℕ) → Dataset → Option Hit
log_hit_of devices places dataset = log_hit_in devices places dataset.slot dataset.log

abbrev pub log_hit : (devices places : ℕ) → List Dataset → Option Hit
log_hit devices places datasets = first_of (log_hit_of devices places) datasets

-- each dataset has one of the eight log areas
abbrev pub HaveAreas : List Dataset → Type 0
HaveAreas datasets = All (λ dataset. dataset.slot < 8) datasets

-- ---- owner: pointers to one place that are not of one block, or a pointer to a place of the catalogue

-- the pointers are not of one block
abbrev pub differ : Ptr → Ptr → Bool
differ first ptr = not (first.physical == ptr.physical && bytes_eq first.digest ptr.digest)

-- the physical birth of the first that isn't of the block of this one
abbrev pub other_block : Ptr → List Ptr → Option ℕ
other_block first ptrs = first_of (λ ptr. when (differ first ptr) ptr.physical) ptrs

-- one birth beside another that is there
abbrev pub beside : ℕ → Option ℕ → Option (ℕ × ℕ)
beside birth None = None
beside birth (Some other) = Some (birth, other)

-- of the pointers to one place: the physical births of the two that don't agree, 0 for the catalogue
abbrev pub owners_of : Bool → List Ptr → Option (ℕ × ℕ)
owners_of in_catalogue [] = None
owners_of in_catalogue (first ∷ ptrs) = if in_catalogue then Some (0, first.physical) else beside first.physical (other_block first ptrs)

-- the owners of the place with this number
abbrev pub owners_at : (places : ℕ) → List PlaceAt → List Ptr → ℕ → Option (ℕ × ℕ)
owners_at places chain reach number = owners_of (chain_has places chain number) (pointers_to places reach number)

-- two owners are a hit at their place
abbrev pub owner_hit_in : (places number : ℕ) → Option (ℕ × ℕ) → Option Hit
owner_hit_in places number None = None
owner_hit_in places number (Some births) = Some (hit_at Owner places number births.0 births.1)

abbrev pub owner_hit_at : (places : ℕ) → List PlaceAt → List Ptr → ℕ → Option Hit
owner_hit_at places chain reach number = owner_hit_in places number (owners_at places chain reach number)

abbrev pub owner_hit : (devices places : ℕ) → List PlaceAt → List Ptr → Option Hit
owner_hit devices places chain reach = first_from (owner_hit_at places chain reach) 0 (total_of devices places)

-- ---- tail: a byte past the size of a file that isn't 0

-- the number of the last block of a file of this size, which isn't 0
abbrev pub last_block : ℕ → ℕ
last_block size = (size - 1) / 4096

-- the byte, where it isn't 0
abbrev pub if_not_zero : ℕ → Option ℕ
if_not_zero byte = when (not (byte == 0)) byte

-- the first byte that isn't 0 after so many bytes
abbrev pub byte_after : ℕ → List ℕ → Option ℕ
byte_after count bytes = first_of if_not_zero (drop count bytes)

-- the pointer of the block that has the last byte of a file, where it has one that is no hole
abbrev pub last_pointer : File → Option Ptr
last_pointer file = if file.size == 0 then None else value_at (last_block file.size) file.slots

-- a byte is a hit at the pointer's place
abbrev pub tail_hit_with : Ptr → Option ℕ → Option Hit
tail_hit_with ptr None = None
tail_hit_with ptr (Some byte) = Some (record { kind = Tail; device = ptr.device; place = ptr.place; kept = 0; found = byte })

-- of the bytes at each place: the first byte of the pointer's block past the size that isn't 0
abbrev pub tail_hit_in : (ℕ → ℕ → List ℕ) → (size : ℕ) → Option Ptr → Option Hit
tail_hit_in bytes_at size None = None
tail_hit_in bytes_at size (Some ptr) = tail_hit_with ptr (byte_after (size - 4096 * last_block size) (bytes_at ptr.device ptr.place))

-- the same of the last block of the file
abbrev pub tail_hit_of : (ℕ → ℕ → List ℕ) → File → Option Hit
tail_hit_of bytes_at file = tail_hit_in bytes_at file.size (last_pointer file)

abbrev pub tail_hit_among : (ℕ → ℕ → List ℕ) → List File → Option Hit
tail_hit_among bytes_at files = first_of (tail_hit_of bytes_at) files

abbrev pub tail_hit : (ℕ → ℕ → List ℕ) → List Dataset → Option Hit
tail_hit bytes_at datasets = first_of (λ dataset. tail_hit_among bytes_at dataset.files) datasets

-- ---- count: a count that isn't the number of pointers to the place less one

abbrev pub count_hit_with : (places number kept found : ℕ) → Option Hit
count_hit_with places number kept found = when (not (kept == found)) (hit_at Count places number kept found)

abbrev pub count_hit_at : (places : ℕ) → List StoredTable → List Ptr → ℕ → Option Hit
count_hit_at places tables reach number = count_hit_with places number (stored_count places tables number) (extra_at places reach number)

abbrev pub count_hit : (devices places : ℕ) → List StoredTable → List Ptr → Option Hit
count_hit devices places tables reach = first_from (count_hit_at places tables reach) 0 (total_of devices places)

-- ---- region: a counter that isn't the sum over its region

-- the extra pointers to the places of the region
abbrev pub region_extra : (places : ℕ) → List Ptr → ℕ → ℕ
region_extra places reach region = sum (each 64 (λ k. extra_at places reach (64 * region + k)))

abbrev pub region_hit_with : (places number kept found : ℕ) → Option Hit
region_hit_with places number kept found = when (not (kept == found)) (hit_at Region places number kept found)

abbrev pub region_hit_at : (places : ℕ) → List StoredTable → List Ptr → ℕ → Option Hit
region_hit_at places tables reach region = region_hit_with places (64 * region) (stored_counter places tables (64 * region)) (region_extra places reach region)

abbrev pub region_hit : (devices places : ℕ) → List StoredTable → List Ptr → Option Hit
region_hit devices places tables reach = first_from (region_hit_at places tables reach) 0 (total_of devices places / 64)

-- ---- map: a place that is allocated and not owned, or owned and not allocated

-- 1 or 0
abbrev pub one_if : Bool → ℕ
one_if test = if test then 1 else 0

abbrev pub map_hit_with : (places number kept found : ℕ) → Option Hit
map_hit_with places number kept found = when (not (kept == found)) (hit_at Map places number kept found)

abbrev pub map_hit_at : (devices places : ℕ) → List StoredMap → List PlaceAt → List Ptr → ℕ → Option Hit
map_hit_at devices places maps chain reach number =
    map_hit_with places number (one_if (is_allocated places maps number)) (one_if (is_owned devices places chain reach number))

abbrev pub map_hit : (devices places : ℕ) → List StoredMap → List PlaceAt → List Ptr → Option Hit
map_hit devices places maps chain reach = first_from (map_hit_at devices places maps chain reach) 0 (total_of devices places)

-- ---- charge: more places with blocks than a pool has for them

-- how many places are reached
abbrev pub reached_places : (devices places : ℕ) → List Ptr → ℕ
reached_places devices places reach = count_by (is_reached places reach) (range_with_len 0 (total_of devices places))

abbrev pub charge_hit : (devices places group : ℕ) → List Ptr → Option Hit
charge_hit devices places group reach =
    when (nat_lt (data_places_of devices places) (reached_places devices places reach))
    (hit_at_root Charge group (data_places_of devices places) (reached_places devices places reach))

-- ---- in order

-- the first hit among the checks that come before any block is read
abbrev pub early_hit : (devices places : ℕ) → Parts → List PlaceAt → Option Hit
early_hit devices places parts chain =
    or_else (worn_hit parts.tree)
    (or_else (birth_hit parts.tree.group (pointers_of_tree parts.tree))
    (or_else (log_hit devices places parts.tree.datasets)
    (owner_hit devices places chain (pointers_of_tree parts.tree))))

-- the first hit among the checks that come once all blocks are read and have their digests
abbrev pub late_hit : (devices places : ℕ) → Parts → List PlaceAt → (ℕ → ℕ → List ℕ) → Option Hit
late_hit devices places parts chain bytes_at =
    or_else (tail_hit bytes_at parts.tree.datasets)
    (or_else (count_hit devices places parts.tables (pointers_of_tree parts.tree))
    (or_else (region_hit devices places parts.tables (pointers_of_tree parts.tree))
    (or_else (map_hit devices places parts.maps chain (pointers_of_tree parts.tree))
    (charge_hit devices places parts.tree.group (pointers_of_tree parts.tree)))))
