-- Files: what is read is spelled so, and what is spelled so is read.
use Rattle.std.proofs.Common.{◌≡◌, ℕ, zero, suc, ◌+◌, ◌*◌, ◌^◌, ◌≤◌, ◌<◌, Bool, true, false, not, ◌&&◌, ltb, leb, List, [], ◌∷◌, ◌++◌, length, map, Ok, refl, sym, ap, subst, ◌∙◌, append_assoc, length-append, arith, IsTrue}
use Rattle.std.specs.List.{AllByRecursion, list_all}
use Rattle.std.proofs.lemmas.Bool.{leb-true, le-leb, lt-ltb}
use Rattle.std.proofs.lemmas.List.{length-map}
use Rattle.zc_num.specs.Limits.{AreLimits, files_of, pointers_of, file_bytes_of, log_places_of}
use Rattle.zc_wire.specs.Numbers.{u32_bytes, u64_bytes, IsBytes}
use Rattle.zc_wire.specs.Fields.{u32_field, u64_field}
use Rattle.zc_wire.proofs.FieldLaws.{bind_ok, ok_is, bind_again, rule_on, both_hold, Takes, takes_then, takes_none, u32_takes, u32_again, u64_takes, u64_again}
use Rattle.zc_command.specs.Names.{is_name_byte, most_name, IsName}
use Rattle.zc_blkptr.specs.declared.ptr.Ptr.{Ptr}
use Rattle.zc_tree.specs.declared.tree.File.{File}
use Rattle.zc_tree.specs.Names.{is_among, AreNewTo}
use Rattle.zc_tree.specs.Reach.{pointers_of_file, pointers_of_files}
use Rattle.zc_tree.specs.Spelling.{name_bytes, entries_bytes, file_bytes, files_bytes, IsFile, AscendFrom}
use Rattle.zc_tree.specs.Reading.{name_length_field, name_field, entries_field, file_field, files_field}
use Rattle.zc_tree.proofs.Loops.{entries_length}
use Rattle.zc_tree.proofs.FileParts.{file_parts, FileBounds, file_bounds}
use Rattle.zc_tree.proofs.EntryLaws.{name_length_takes, name_length_again, name_takes, name_again, entries_take, entries_again}

-- what the limits bound fits the fields
pub record AreSmall (devices places : ℕ) : Type 0 where
  pub files : files_of devices places < 2 ^ 32
  pub pointers : pointers_of devices places < 2 ^ 32
  pub bytes : file_bytes_of devices places < 2 ^ 64
  pub log : log_places_of devices places < 2 ^ 32

pub small_limits : (devices places : ℕ) → AreLimits devices places → AreSmall devices places
small_limits devices places limits =
    let few : devices * places ≤ 131072 = limits.few_places in
    record { files = omega arith; pointers = omega arith; bytes = omega arith; log = omega arith }

-- a name with its length in front
pub name_joined : (bytes : List ℕ) (n : ℕ) (middle name rest : List ℕ) → Takes bytes (u32_bytes n) middle → Takes middle name rest → length name ≡ n → Takes bytes (name_bytes name) rest
unfolding name_bytes
name_joined bytes n middle name rest first second len =
    subst (λ (k : ℕ). Takes bytes (u32_bytes k ++ name) rest) (sym len) (takes_then bytes (u32_bytes n) middle name rest first second)

-- the length of a name and its bytes make a name
pub is_name : (name : List ℕ) (n : ℕ) → length name ≡ n → 1 ≤ n → n ≤ most_name → IsTrue (list_all is_name_byte name) → IsName name
is_name name n len some few holds = record { some_byte = omega arith; few_bytes = omega arith; name_bytes = holds }

-- a test that doesn't fail doesn't hold
pub not_true : (b : Bool) → not b ≡ true → b ≡ false
not_true true e = absurd cc
not_true false e = refl

-- what a read of a file has found
pub record FileFound (devices places next_file least used : ℕ) (names : List (List ℕ)) (bytes : List ℕ) (file : File) (rest : List ℕ) : Type 0 where
  pub takes : Takes bytes (file_bytes file) rest
  pub fits : IsFile devices places next_file file
  pub bounds : FileBounds devices places next_file least used file
  pub new : is_among file.name names ≡ false

pub file_takes : (devices places next_file least used : ℕ) (names : List (List ℕ)) (bytes : List ℕ) (x : File × List ℕ) → IsBytes bytes → 1 ≤ least
    → file_field devices places next_file least used names bytes ≡ Ok x → FileFound devices places next_file least used names bytes x.0 x.1
unfolding file_bytes
file_takes devices places next_file least used names bytes x fits some e =
    let p = file_parts devices places next_file least used names bytes x e in
    let b = file_bounds devices places next_file least used names bytes x e in
    let id = u64_takes bytes p.id.0 p.id.1 fits p.id_is in
    let count = name_length_takes p.id.1 p.count id.0.rest_fits p.count_is in
    let name = name_takes p.count.0 p.count.1 p.name count.0.rest_fits p.name_is in
    let size = u64_takes p.name.1 p.size.0 p.size.1 name.0.rest_fits p.size_is in
    let pointers = u32_takes p.size.1 p.pointers.0 p.pointers.1 size.0.rest_fits p.pointers_is in
    let slots = entries_take devices places p.size.0 p.pointers.0 0 p.pointers.1 p.slots pointers.0.rest_fits p.slots_is in
    let len : length p.slots.0 ≡ p.pointers.0 = entries_length devices places p.size.0 p.pointers.0 0 p.pointers.1 p.slots p.slots_is in
    let made : File = record { id = p.id.0; name = p.name.0; size = p.size.0; slots = p.slots.0 } in
    let t5 = subst (λ (k : ℕ). Takes p.size.1 (u32_bytes k ++ entries_bytes p.slots.0) p.slots.1) (sym len) (takes_then p.size.1 (u32_bytes p.pointers.0) p.pointers.1 (entries_bytes p.slots.0) p.slots.1 pointers.0 slots.0) in
    let t4 = takes_then p.name.1 (u64_bytes p.size.0) p.size.1 (u32_bytes (length p.slots.0) ++ entries_bytes p.slots.0) p.slots.1 size.0 t5 in
    let t3 = takes_then p.id.1 (name_bytes p.name.0) p.name.1 (u64_bytes p.size.0 ++ (u32_bytes (length p.slots.0) ++ entries_bytes p.slots.0)) p.slots.1
    (name_joined p.id.1 p.count.0 p.count.1 p.name.0 p.name.1 count.0 name.0 name.1) t4 in
    let t2 : Takes bytes (file_bytes made) p.slots.1 = takes_then bytes (u64_bytes p.id.0) p.id.1 (name_bytes p.name.0 ++ (u64_bytes p.size.0 ++ (u32_bytes (length p.slots.0) ++ entries_bytes p.slots.0))) p.slots.1 id.0 t3 in
    let id_is : p.id.0 ≡ x.0.id = ap (λ (f : File). f.id) p.made in
    let is_file : IsFile devices places next_file made = record {
      made = omega (arith, b.above);
      before_next = omega (arith, b.below_next);
      name = is_name p.name.0 p.count.0 name.1 count.1 count.2 name.2;
      few_bytes = leb-true p.size.0 (file_bytes_of devices places) p.size_rule;
      blocks_ascend = slots.2;
      entries = slots.1;
    } in
    let new : is_among p.name.0 names ≡ false = not_true (is_among p.name.0 names) p.name_rule in
    record {
      takes = subst (λ (rest : List ℕ). Takes bytes (file_bytes x.0) rest) p.rest (subst (λ (f : File). Takes bytes (file_bytes f) p.slots.1) p.made t2);
      fits = subst (IsFile devices places next_file) p.made is_file;
      bounds = b;
      new = subst (λ (f : File). is_among f.name names ≡ false) p.made new;
    }

pub file_again : (devices places next_file least used : ℕ) (names : List (List ℕ)) (file : File) (rest : List ℕ) → AreSmall devices places → next_file < 2 ^ 64 → IsFile devices places next_file file
    → least ≤ file.id → used + length file.slots ≤ pointers_of devices places → is_among file.name names ≡ false
    → file_field devices places next_file least used names (file_bytes file ++ rest) ≡ Ok (file, rest)
unfolding file_field file_bytes name_bytes
file_again devices places next_file least used names file rest small width fits le few new =
    let r5 = entries_bytes file.slots ++ rest in
    let r4 = u32_bytes (length file.slots) ++ r5 in
    let r3 = u64_bytes file.size ++ r4 in
    let r2 = file.name ++ r3 in
    let r1 = u32_bytes (length file.name) ++ r2 in
    let regrouped : (u64_bytes file.id ++ ((u32_bytes (length file.name) ++ file.name) ++ (u64_bytes file.size ++ (u32_bytes (length file.slots) ++ entries_bytes file.slots)))) ++ rest ≡ u64_bytes file.id ++ r1 = simp append_assoc in
    ap (file_field devices places next_file least used names) regrouped
    ∙ bind_again (u64_field (u64_bytes file.id ++ r1)) _ (file.id, r1) _ (u64_again file.id r1 (omega (arith, fits.before_next)))
    (rule_on (leb least file.id && ltb file.id next_file) (u64_bytes file.id ++ r1) _ _ (both_hold (leb least file.id) (ltb file.id next_file) (le-leb least file.id le) (lt-ltb file.id next_file fits.before_next))
    (bind_again (name_length_field r1) _ (length file.name, r2) _ (name_length_again (length file.name) r2 (omega (arith, fits.name.some_byte)) fits.name.few_bytes)
    (bind_again (name_field (length file.name) r2) _ (file.name, r3) _ (name_again file.name r3 fits.name.name_bytes)
    (rule_on (not (is_among file.name names)) r2 _ _ (ap not new)
    (bind_again (u64_field r3) _ (file.size, r4) _ (u64_again file.size r4 (omega (arith, fits.few_bytes, small.bytes)))
    (rule_on (leb file.size (file_bytes_of devices places)) r3 _ _ (le-leb file.size (file_bytes_of devices places) fits.few_bytes)
    (bind_again (u32_field r4) _ (length file.slots, r5) _ (u32_again (length file.slots) r5 (omega (arith, few, small.pointers)))
    (rule_on (leb (used + length file.slots) (pointers_of devices places)) r4 _ _ (le-leb (used + length file.slots) (pointers_of devices places) few)
    (bind_again (entries_field devices places file.size (length file.slots) 0 r5) _ (file.slots, rest) _ (entries_again devices places file.size 0 file.slots rest fits.entries fits.blocks_ascend) refl)))))))))

-- ---- several files

abbrev pub ids_of : List File → List ℕ
ids_of files = map (λ (file : File). file.id) files

abbrev pub names_of : List File → List (List ℕ)
names_of files = map (λ (file : File). file.name) files

-- what a read of files has found
pub record FilesFound (devices places next_file least used : ℕ) (names : List (List ℕ)) (bytes : List ℕ) (count : ℕ) (files : List File) (rest : List ℕ) : Type 0 where
  pub takes : Takes bytes (files_bytes files) rest
  pub fits : AllByRecursion (IsFile devices places next_file) files
  pub ascend : AscendFrom least (ids_of files)
  pub new : AreNewTo names (names_of files)
  pub few : used + length (pointers_of_files files) ≤ pointers_of devices places
  pub all : length files ≡ count

pub pointers_more : (file : File) (files : List File) → length (pointers_of_files (file ∷ files)) ≡ length file.slots + length (pointers_of_files files)
pointers_more file files = length-append (pointers_of_file file) (pointers_of_files files) ∙ ap (λ (n : ℕ). n + length (pointers_of_files files)) (length-map file.slots (λ (entry : ℕ × Ptr). entry.1))

pub files_take : (devices places next_file count least used : ℕ) (names : List (List ℕ)) (bytes : List ℕ) (x : List File × List ℕ) → IsBytes bytes → 1 ≤ least → used ≤ pointers_of devices places
    → files_field devices places next_file count least used names bytes ≡ Ok x → FilesFound devices places next_file least used names bytes count x.0 x.1
unfolding files_field
files_take devices places next_file zero least used names bytes x fits some few e =
    subst (λ (y : List File × List ℕ). FilesFound devices places next_file least used names bytes 0 y.0 y.1) (ok_is ([], bytes) x e)
    (record { takes = takes_none bytes fits; fits = tt; ascend = tt; new = tt; few = omega arith; all = refl })
files_take devices places next_file (suc count) least used names bytes x fits some few e =
    let a = bind_ok (file_field devices places next_file least used names bytes) _ x e in
    let file = a.0.0 in
    let b = bind_ok (files_field devices places next_file count (file.id + 1) (used + length file.slots) (file.name ∷ names) a.0.1) _ x a.2 in
    let first = file_takes devices places next_file least used names bytes a.0 fits some a.1 in
    let second = files_take devices places next_file count (file.id + 1) (used + length file.slots) (file.name ∷ names) a.0.1 b.0 first.takes.rest_fits (omega arith) first.bounds.few b.1 in
    subst (λ (y : List File × List ℕ). FilesFound devices places next_file least used names bytes (suc count) y.0 y.1) (ok_is (file ∷ b.0.0, b.0.1) x b.2) (record {
      takes = takes_then bytes (file_bytes file) a.0.1 (files_bytes b.0.0) b.0.1 first.takes second.takes;
      fits = (first.fits, second.fits);
      ascend = (first.bounds.above, second.ascend);
      new = (first.new, second.new);
      few = omega (arith, second.few, pointers_more file b.0.0);
      all = ap suc second.all;
    })

pub files_again : (devices places next_file least used : ℕ) (names : List (List ℕ)) (files : List File) (rest : List ℕ) → AreSmall devices places → next_file < 2 ^ 64
    → AllByRecursion (IsFile devices places next_file) files → AscendFrom least (ids_of files) → AreNewTo names (names_of files) → used + length (pointers_of_files files) ≤ pointers_of devices places
    → files_field devices places next_file (length files) least used names (files_bytes files ++ rest) ≡ Ok (files, rest)
unfolding files_field
files_again devices places next_file least used names [] rest small width fits ascend new few = refl
files_again devices places next_file least used names (file ∷ files) rest small width fits ascend new few =
    let regrouped : (file_bytes file ++ files_bytes files) ++ rest ≡ file_bytes file ++ (files_bytes files ++ rest) = append_assoc (file_bytes file) (files_bytes files) rest in
    let more = pointers_more file files in
    ap (files_field devices places next_file (suc (length files)) least used names) regrouped
    ∙ bind_again (file_field devices places next_file least used names (file_bytes file ++ (files_bytes files ++ rest))) _ (file, files_bytes files ++ rest) _
    (file_again devices places next_file least used names file (files_bytes files ++ rest) small width fits.0 ascend.0 (omega (arith, few, more)) new.0)
    (bind_again (files_field devices places next_file (length files) (file.id + 1) (used + length file.slots) (file.name ∷ names) (files_bytes files ++ rest)) _ (files, rest) _
    (files_again devices places next_file (file.id + 1) (used + length file.slots) (file.name ∷ names) files rest small width fits.1 ascend.1 new.1 (omega (arith, few, more))) refl)
