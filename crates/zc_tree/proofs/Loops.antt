-- Reading entries and files one after the other, as loops do.
use Rattle.std.proofs.Common.{◌≡◌, ℕ, zero, suc, ◌+◌, ◌-◌, ◌*◌, ◌≤◌, ◌<◌, true, ◌&&◌, ltb, leb, List, [], ◌∷◌, ◌++◌, length, map, reverse, Ok, Err, refl, sym, ap, ◌∙◌, append_assoc, arith}
use Rattle.std.specs.List.{AllByRecursion}
use Rattle.std.proofs.lemmas.List.{append-nil, map-append, reverse-append}
use Rattle.std.proofs.lemmas.Bool.{leb-true, and_parts}
use Rattle.zc_wire.specs.declared.fields.FieldFault.{FieldFault}
use Rattle.zc_wire.specs.declared.fields.FieldFault.TheVariants as field
use Rattle.zc_wire.specs.Fields.{Read, ◌>>=◌, FieldFails, u32_field, rule}
use Rattle.zc_wire.proofs.FieldLaws.{bind_ok, rule_ok, ok_is}
use Rattle.zc_blkptr.specs.declared.ptr.Ptr.{Ptr}
use Rattle.zc_blkptr.specs.PtrField.{ptr_field}
use Rattle.zc_tree.specs.declared.tree.File.{File}
use Rattle.zc_tree.specs.Reading.{entry_field, entries_field, file_field, files_field}

-- what was read before, and what is still read
abbrev pub with_front : {X : Type 0} → List X → Read (List X) → Read (List X)
with_front front read = read >>= λ x. Ok (front ++ x.0, x.1)

-- the names of files, the last first
abbrev pub names_so_far : List File → List (List ℕ)
names_so_far files = reverse (map (λ file. file.name) files)

pub regroup : {X : Type 0} (front : List X) (x : X) (read : Read (List X)) → with_front front (read >>= λ y. Ok (x ∷ y.0, y.1)) ≡ with_front (front ++ x ∷ []) read
regroup {X} front x (Ok y) = ap (λ (xs : List X). Ok (xs, y.1)) (simp append_assoc)
regroup front x (Err left) = refl

-- ---- entries

-- one more entry is read
pub entries_go_on : (devices places size count i least : ℕ) (front : List (ℕ × Ptr)) (bytes after : List ℕ) (entry : ℕ × Ptr) (total : Read (List (ℕ × Ptr))) → i < count
    → entry_field devices places size least bytes ≡ Ok (entry, after)
    → with_front front (entries_field devices places size (count - i) least bytes) ≡ total
    → with_front (front ++ entry ∷ []) (entries_field devices places size (count - (i + 1)) (entry.0 + 1) after) ≡ total
unfolding entries_field
entries_go_on devices places size count i least front bytes after entry total lt h so_far =
    let k : count - i ≡ suc (count - (i + 1)) = omega arith in
    let one : with_front front (entries_field devices places size (count - i) least bytes) ≡ with_front (front ++ entry ∷ []) (entries_field devices places size (count - (i + 1)) (entry.0 + 1) after) =
    rw (k, h) (regroup front entry (entries_field devices places size (count - (i + 1)) (entry.0 + 1) after)) in
    sym one ∙ so_far

-- an entry is refused
pub entries_end : (fault : FieldFault) (devices places size count i least : ℕ) (front : List (ℕ × Ptr)) (bytes : List ℕ) (total : Read (List (ℕ × Ptr))) → i < count
    → FieldFails fault (entry_field devices places size least bytes)
    → with_front front (entries_field devices places size (count - i) least bytes) ≡ total → FieldFails fault total
unfolding entries_field
entries_end field.NoMemory devices places size count i least front bytes total lt h so_far = tt
entries_end (field.Bad left) devices places size count i least front bytes total lt h so_far =
    let k : count - i ≡ suc (count - (i + 1)) = omega arith in
    let one : with_front front (entries_field devices places size (count - i) least bytes) ≡ Err left = rw (k, h) refl in
    sym so_far ∙ one

-- all entries are read
pub entries_done : (devices places size count i least : ℕ) (front : List (ℕ × Ptr)) (bytes : List ℕ) (total : Read (List (ℕ × Ptr))) → count ≤ i
    → with_front front (entries_field devices places size (count - i) least bytes) ≡ total → total ≡ Ok (front, bytes)
unfolding entries_field
entries_done devices places size count i least front bytes total le so_far =
    let k : count - i ≡ 0 = omega arith in
    let one : with_front front (entries_field devices places size (count - i) least bytes) ≡ Ok (front, bytes) = rw k (ap (λ (es : List (ℕ × Ptr)). Ok (es, bytes)) (append-nil front)) in
    sym so_far ∙ one

-- an entry that is read is at least the least
pub entry_least : (devices places size least : ℕ) (bytes : List ℕ) (x : (ℕ × Ptr) × List ℕ) → entry_field devices places size least bytes ≡ Ok x → least ≤ x.0.0
unfolding entry_field
entry_least devices places size least bytes x e =
    let a = bind_ok (u32_field bytes) (λ block. rule (leb least block.0 && ltb (block.0 * 4096) size) bytes >>= λ _. ptr_field devices places block.1 >>= λ ptr. Ok ((block.0, ptr.0), ptr.1)) x e in
    let r = rule_ok (leb least a.0.0 && ltb (a.0.0 * 4096) size) bytes (λ _. ptr_field devices places a.0.1 >>= λ ptr. Ok ((a.0.0, ptr.0), ptr.1)) x a.2 in
    let p = bind_ok (ptr_field devices places a.0.1) (λ ptr. Ok ((a.0.0, ptr.0), ptr.1)) x r.1 in
    let is : a.0.0 ≡ x.0.0 = ap (λ (y : (ℕ × Ptr) × List ℕ). y.0.0) (ok_is ((a.0.0, p.0.0), p.0.1) x p.2) in
    let least_is : leb least a.0.0 ≡ true = (and_parts (leb least a.0.0) (ltb (a.0.0 * 4096) size) r.0).0 in
    omega (arith, leb-true least a.0.0 least_is)

-- what is below one number is below a greater one, and so is what comes after it
pub all_below_more : (es : List (ℕ × Ptr)) (least more key : ℕ) (ptr : Ptr) → least ≤ more → key < more → AllByRecursion (λ (e : ℕ × Ptr). e.0 < least) es → AllByRecursion (λ (e : ℕ × Ptr). e.0 < more) (es ++ (key, ptr) ∷ [])
all_below_more [] least more key ptr le lt lower = (lt, tt)
all_below_more (e ∷ es) least more key ptr le lt lower = (omega (arith, lower.0), all_below_more es least more key ptr le lt lower.1)

pub all_below_greater : (es : List (ℕ × Ptr)) (least key : ℕ) → least ≤ key → AllByRecursion (λ (e : ℕ × Ptr). e.0 < least) es → AllByRecursion (λ (e : ℕ × Ptr). e.0 < key) es
all_below_greater [] least key le lower = tt
all_below_greater (e ∷ es) least key le lower = (omega (arith, lower.0), all_below_greater es least key le lower.1)

-- ---- files

-- the name of one more file is known first
pub names_more : (files : List File) (file : File) → names_so_far (files ++ file ∷ []) ≡ file.name ∷ names_so_far files
names_more files file = ap reverse (map-append (λ (f : File). f.name) files (file ∷ [])) ∙ reverse-append (map (λ (f : File). f.name) files) (file.name ∷ [])

-- one more file is read
pub files_go_on : (devices places next_file count i least used : ℕ) (front : List File) (bytes after : List ℕ) (file : File) (total : Read (List File)) → i < count
    → file_field devices places next_file least used (names_so_far front) bytes ≡ Ok (file, after)
    → with_front front (files_field devices places next_file (count - i) least used (names_so_far front) bytes) ≡ total
    → with_front (front ++ file ∷ []) (files_field devices places next_file (count - (i + 1)) (file.id + 1) (used + length file.slots) (names_so_far (front ++ file ∷ [])) after) ≡ total
unfolding files_field
files_go_on devices places next_file count i least used front bytes after file total lt h so_far =
    let k : count - i ≡ suc (count - (i + 1)) = omega arith in
    let rest = files_field devices places next_file (count - (i + 1)) (file.id + 1) (used + length file.slots) (file.name ∷ names_so_far front) after in
    let one : with_front front (files_field devices places next_file (count - i) least used (names_so_far front) bytes) ≡ with_front (front ++ file ∷ []) rest =
    rw (k, h) (regroup front file rest) in
    let names : with_front (front ++ file ∷ []) rest ≡ with_front (front ++ file ∷ []) (files_field devices places next_file (count - (i + 1)) (file.id + 1) (used + length file.slots) (names_so_far (front ++ file ∷ [])) after) =
    ap (λ (ns : List (List ℕ)). with_front (front ++ file ∷ []) (files_field devices places next_file (count - (i + 1)) (file.id + 1) (used + length file.slots) ns after)) (sym (names_more front file)) in
    sym names ∙ sym one ∙ so_far

-- a file is refused
pub files_end : (fault : FieldFault) (devices places next_file count i least used : ℕ) (front : List File) (bytes : List ℕ) (total : Read (List File)) → i < count
    → FieldFails fault (file_field devices places next_file least used (names_so_far front) bytes)
    → with_front front (files_field devices places next_file (count - i) least used (names_so_far front) bytes) ≡ total → FieldFails fault total
unfolding files_field
files_end field.NoMemory devices places next_file count i least used front bytes total lt h so_far = tt
files_end (field.Bad left) devices places next_file count i least used front bytes total lt h so_far =
    let k : count - i ≡ suc (count - (i + 1)) = omega arith in
    let one : with_front front (files_field devices places next_file (count - i) least used (names_so_far front) bytes) ≡ Err left = rw (k, h) refl in
    sym so_far ∙ one

-- all files are read
pub files_done : (devices places next_file count i least used : ℕ) (front : List File) (bytes : List ℕ) (total : Read (List File)) → count ≤ i
    → with_front front (files_field devices places next_file (count - i) least used (names_so_far front) bytes) ≡ total → total ≡ Ok (front, bytes)
unfolding files_field
files_done devices places next_file count i least used front bytes total le so_far =
    let k : count - i ≡ 0 = omega arith in
    let one : with_front front (files_field devices places next_file (count - i) least used (names_so_far front) bytes) ≡ Ok (front, bytes) = rw k (ap (λ (fs : List File). Ok (fs, bytes)) (append-nil front)) in
    sym so_far ∙ one

-- as many entries are read as are counted
pub entries_length : (devices places size count least : ℕ) (bytes : List ℕ) (x : List (ℕ × Ptr) × List ℕ) → entries_field devices places size count least bytes ≡ Ok x → length x.0 ≡ count
unfolding entries_field
entries_length devices places size zero least bytes x e = ap (λ (y : List (ℕ × Ptr) × List ℕ). length y.0) (sym (ok_is ([], bytes) x e))
entries_length devices places size (suc count) least bytes x e =
    let a = bind_ok (entry_field devices places size least bytes) _ x e in
    let b = bind_ok (entries_field devices places size count (a.0.0.0 + 1) a.0.1) _ x a.2 in
    ap (λ (y : List (ℕ × Ptr) × List ℕ). length y.0) (sym (ok_is (a.0.0 ∷ b.0.0, b.0.1) x b.2)) ∙ ap suc (entries_length devices places size count (a.0.0.0 + 1) a.0.1 b.0 b.1)
