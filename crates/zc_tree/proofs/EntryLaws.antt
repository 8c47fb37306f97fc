-- Entries and names: what is read is spelled so, and what is spelled so is read.
use Rattle.std.proofs.Common.{◌≡◌, ℕ, zero, suc, ◌+◌, ◌*◌, ◌≤◌, ◌&&◌, ltb, leb, List, [], ◌∷◌, ◌++◌, length, map, Ok, refl, ap, subst, ◌∙◌, append_assoc, arith, IsTrue}
use Rattle.std.specs.List.{AllByRecursion, list_all}
use Rattle.std.proofs.lemmas.Bool.{leb-true, ltb-true, le-leb, lt-ltb, and_parts}
use Rattle.zc_wire.specs.Numbers.{u32_bytes, IsBytes}
use Rattle.zc_wire.specs.Fields.{u32_field, bytes_field}
use Rattle.zc_wire.proofs.FieldLaws.{bind_ok, rule_ok, ok_is, bind_again, rule_on, both_hold, Takes, takes_then, takes_none, u32_takes, u32_again, bytes_take, bytes_again}
use Rattle.zc_command.specs.Names.{is_name_byte, most_name}
use Rattle.zc_blkptr.specs.declared.ptr.Ptr.{Ptr}
use Rattle.zc_blkptr.specs.Ptr.{ptr_bytes}
use Rattle.zc_blkptr.specs.PtrField.{ptr_field}
use Rattle.zc_blkptr.proofs.PtrLaws.{ptr_takes, ptr_again}
use Rattle.zc_tree.specs.Spelling.{entry_bytes, entries_bytes, IsEntry, AscendFrom}
use Rattle.zc_tree.specs.Reading.{name_length_field, name_field, entry_field, entries_field}

-- ---- names

pub name_length_takes : (bytes : List ℕ) (x : ℕ × List ℕ) → IsBytes bytes → name_length_field bytes ≡ Ok x → Takes bytes (u32_bytes x.0) x.1 × (1 ≤ x.0) × (x.0 ≤ most_name)
unfolding name_length_field
name_length_takes bytes x fits e =
    let a = bind_ok (u32_field bytes) _ x e in
    let r = rule_ok (leb 1 a.0.0 && leb a.0.0 most_name) bytes _ x a.2 in
    let t = u32_takes bytes a.0.0 a.0.1 fits a.1 in
    let parts = and_parts (leb 1 a.0.0) (leb a.0.0 most_name) r.0 in
    subst (λ (y : ℕ × List ℕ). Takes bytes (u32_bytes y.0) y.1 × (1 ≤ y.0) × (y.0 ≤ most_name)) (ok_is a.0 x r.1) (t.0, leb-true 1 a.0.0 parts.0, leb-true a.0.0 most_name parts.1)

pub name_length_again : (n : ℕ) (rest : List ℕ) → 1 ≤ n → n ≤ most_name → name_length_field (u32_bytes n ++ rest) ≡ Ok (n, rest)
unfolding name_length_field
name_length_again n rest some few =
    bind_again (u32_field (u32_bytes n ++ rest)) _ (n, rest) _ (u32_again n rest (omega arith))
    (rule_on (leb 1 n && leb n most_name) (u32_bytes n ++ rest) _ _ (both_hold (leb 1 n) (leb n most_name) (le-leb 1 n some) (le-leb n most_name few)) refl)

pub name_takes : (count : ℕ) (bytes : List ℕ) (x : List ℕ × List ℕ) → IsBytes bytes → name_field count bytes ≡ Ok x → Takes bytes x.0 x.1 × (length x.0 ≡ count) × IsTrue (list_all is_name_byte x.0)
unfolding name_field
name_takes count bytes x fits e =
    let a = bind_ok (bytes_field count bytes) _ x e in
    let r = rule_ok (list_all is_name_byte a.0.0) bytes _ x a.2 in
    let t = bytes_take count bytes a.0.0 a.0.1 fits a.1 in
    subst (λ (y : List ℕ × List ℕ). Takes bytes y.0 y.1 × (length y.0 ≡ count) × IsTrue (list_all is_name_byte y.0)) (ok_is a.0 x r.1) (t.0, t.1, r.0)

pub name_again : (name rest : List ℕ) → IsTrue (list_all is_name_byte name) → name_field (length name) (name ++ rest) ≡ Ok (name, rest)
unfolding name_field
name_again name rest holds =
    bind_again (bytes_field (length name) (name ++ rest)) _ (name, rest) _ (bytes_again (length name) name rest refl) (rule_on (list_all is_name_byte name) (name ++ rest) _ _ holds refl)

-- ---- entries

pub entry_takes : (devices places size least : ℕ) (bytes : List ℕ) (x : (ℕ × Ptr) × List ℕ) → IsBytes bytes → entry_field devices places size least bytes ≡ Ok x
    → Takes bytes (entry_bytes x.0) x.1 × IsEntry devices places size x.0 × (least ≤ x.0.0)
unfolding entry_field entry_bytes
entry_takes devices places size least bytes x fits e =
    let a = bind_ok (u32_field bytes) _ x e in
    let r = rule_ok (leb least a.0.0 && ltb (a.0.0 * 4096) size) bytes _ x a.2 in
    let p = bind_ok (ptr_field devices places a.0.1) _ x r.1 in
    let t = u32_takes bytes a.0.0 a.0.1 fits a.1 in
    let q = ptr_takes devices places a.0.1 p.0.0 p.0.1 t.0.rest_fits p.1 in
    let parts = and_parts (leb least a.0.0) (ltb (a.0.0 * 4096) size) r.0 in
    let found : Takes bytes (u32_bytes a.0.0 ++ ptr_bytes p.0.0) p.0.1 × IsEntry devices places size (a.0.0, p.0.0) × (least ≤ a.0.0) = (
      takes_then bytes (u32_bytes a.0.0) a.0.1 (ptr_bytes p.0.0) p.0.1 t.0 q.0,
      record { before_size = ltb-true (a.0.0 * 4096) size parts.1; width = t.1; pointer = q.1 },
      leb-true least a.0.0 parts.0,
    ) in
    subst (λ (y : (ℕ × Ptr) × List ℕ). Takes bytes (u32_bytes y.0.0 ++ ptr_bytes y.0.1) y.1 × IsEntry devices places size y.0 × (least ≤ y.0.0)) (ok_is ((a.0.0, p.0.0), p.0.1) x p.2) found

pub entry_again : (devices places size least : ℕ) (entry : ℕ × Ptr) (rest : List ℕ) → IsEntry devices places size entry → least ≤ entry.0 → entry_field devices places size least (entry_bytes entry ++ rest) ≡ Ok (entry, rest)
unfolding entry_field entry_bytes
entry_again devices places size least entry rest fits le =
    let regrouped : (u32_bytes entry.0 ++ ptr_bytes entry.1) ++ rest ≡ u32_bytes entry.0 ++ (ptr_bytes entry.1 ++ rest) = append_assoc (u32_bytes entry.0) (ptr_bytes entry.1) rest in
    ap (entry_field devices places size least) regrouped
    ∙ bind_again (u32_field (u32_bytes entry.0 ++ (ptr_bytes entry.1 ++ rest))) _ (entry.0, ptr_bytes entry.1 ++ rest) _ (u32_again entry.0 (ptr_bytes entry.1 ++ rest) fits.width)
    (rule_on (leb least entry.0 && ltb (entry.0 * 4096) size) (u32_bytes entry.0 ++ (ptr_bytes entry.1 ++ rest)) _ _ (both_hold (leb least entry.0) (ltb (entry.0 * 4096) size) (le-leb least entry.0 le) (lt-ltb (entry.0 * 4096) size fits.before_size))
    (bind_again (ptr_field devices places (ptr_bytes entry.1 ++ rest)) _ (entry.1, rest) _ (ptr_again devices places entry.1 rest fits.pointer) refl))

-- the blocks of entries
abbrev pub blocks_of : List (ℕ × Ptr) → List ℕ
blocks_of entries = map (λ (entry : ℕ × Ptr). entry.0) entries

pub entries_take : (devices places size count least : ℕ) (bytes : List ℕ) (x : List (ℕ × Ptr) × List ℕ) → IsBytes bytes → entries_field devices places size count least bytes ≡ Ok x
    → Takes bytes (entries_bytes x.0) x.1 × AllByRecursion (IsEntry devices places size) x.0 × AscendFrom least (blocks_of x.0)
unfolding entries_field
entries_take devices places size zero least bytes x fits e =
    subst (λ (y : List (ℕ × Ptr) × List ℕ). Takes bytes (entries_bytes y.0) y.1 × AllByRecursion (IsEntry devices places size) y.0 × AscendFrom least (blocks_of y.0)) (ok_is ([], bytes) x e) (takes_none bytes fits, tt, tt)
entries_take devices places size (suc count) least bytes x fits e =
    let a = bind_ok (entry_field devices places size least bytes) _ x e in
    let b = bind_ok (entries_field devices places size count (a.0.0.0 + 1) a.0.1) _ x a.2 in
    let first = entry_takes devices places size least bytes a.0 fits a.1 in
    let second = entries_take devices places size count (a.0.0.0 + 1) a.0.1 b.0 first.0.rest_fits b.1 in
    subst (λ (y : List (ℕ × Ptr) × List ℕ). Takes bytes (entries_bytes y.0) y.1 × AllByRecursion (IsEntry devices places size) y.0 × AscendFrom least (blocks_of y.0)) (ok_is (a.0.0 ∷ b.0.0, b.0.1) x b.2)
    (takes_then bytes (entry_bytes a.0.0) a.0.1 (entries_bytes b.0.0) b.0.1 first.0 second.0, (first.1, second.1), (first.2, second.2))

pub entries_again : (devices places size least : ℕ) (entries : List (ℕ × Ptr)) (rest : List ℕ) → AllByRecursion (IsEntry devices places size) entries → AscendFrom least (blocks_of entries)
    → entries_field devices places size (length entries) least (entries_bytes entries ++ rest) ≡ Ok (entries, rest)
unfolding entries_field
entries_again devices places size least [] rest fits ascend = refl
entries_again devices places size least (entry ∷ entries) rest fits ascend =
    let regrouped : (entry_bytes entry ++ entries_bytes entries) ++ rest ≡ entry_bytes entry ++ (entries_bytes entries ++ rest) = append_assoc (entry_bytes entry) (entries_bytes entries) rest in
    ap (entries_field devices places size (suc (length entries)) least) regrouped
    ∙ bind_again (entry_field devices places size least (entry_bytes entry ++ (entries_bytes entries ++ rest))) _ (entry, entries_bytes entries ++ rest) _
    (entry_again devices places size least entry (entries_bytes entries ++ rest) fits.0 ascend.0)
    (bind_again (entries_field devices places size (length entries) (entry.0 + 1) (entries_bytes entries ++ rest)) _ (entries, rest) _
    (entries_again devices places size (entry.0 + 1) entries rest fits.1 ascend.1) refl)
