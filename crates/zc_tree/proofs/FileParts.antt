-- A file that was read, taken apart.
use Rattle.std.proofs.Common.{◌≡◌, ℕ, ◌+◌, ◌≤◌, ◌<◌, true, not, ◌&&◌, ltb, leb, List, length, Ok, ap, arith}
use Rattle.std.proofs.lemmas.Bool.{leb-true, ltb-true, and_parts}
use Rattle.zc_num.specs.Limits.{pointers_of, file_bytes_of}
use Rattle.zc_wire.specs.Fields.{u32_field, u64_field}
use Rattle.zc_wire.proofs.FieldLaws.{bind_ok, rule_ok, ok_is}
use Rattle.zc_blkptr.specs.declared.ptr.Ptr.{Ptr}
use Rattle.zc_tree.specs.declared.tree.File.{File}
use Rattle.zc_tree.specs.Names.{is_among}
use Rattle.zc_tree.specs.Reading.{name_length_field, name_field, entries_field, file_field}
use Rattle.zc_tree.proofs.Loops.{entries_length}

-- the fields of a file that was read, each with what the one before left
pub record FileParts (devices places next_file least used : ℕ) (names : List (List ℕ)) (bytes : List ℕ) (x : File × List ℕ) : Type 0 where
  pub id : ℕ × List ℕ
  pub count : ℕ × List ℕ
  pub name : List ℕ × List ℕ
  pub size : ℕ × List ℕ
  pub pointers : ℕ × List ℕ
  pub slots : List (ℕ × Ptr) × List ℕ
  pub id_is : u64_field bytes ≡ Ok id
  pub id_rule : (leb least id.0 && ltb id.0 next_file) ≡ true
  pub count_is : name_length_field id.1 ≡ Ok count
  pub name_is : name_field count.0 count.1 ≡ Ok name
  pub name_rule : not (is_among name.0 names) ≡ true
  pub size_is : u64_field name.1 ≡ Ok size
  pub size_rule : leb size.0 (file_bytes_of devices places) ≡ true
  pub pointers_is : u32_field size.1 ≡ Ok pointers
  pub pointers_rule : leb (used + pointers.0) (pointers_of devices places) ≡ true
  pub slots_is : entries_field devices places size.0 pointers.0 0 pointers.1 ≡ Ok slots
  pub made : record { id = id.0; name = name.0; size = size.0; slots = slots.0 } ≡ x.0
  pub rest : slots.1 ≡ x.1

pub file_parts : (devices places next_file least used : ℕ) (names : List (List ℕ)) (bytes : List ℕ) (x : File × List ℕ) → file_field devices places next_file least used names bytes ≡ Ok x → FileParts devices places next_file least used names bytes x
unfolding file_field
file_parts devices places next_file least used names bytes x e =
    let a = bind_ok (u64_field bytes) _ x e in
    let ar = rule_ok (leb least a.0.0 && ltb a.0.0 next_file) bytes _ x a.2 in
    let b = bind_ok (name_length_field a.0.1) _ x ar.1 in
    let c = bind_ok (name_field b.0.0 b.0.1) _ x b.2 in
    let cr = rule_ok (not (is_among c.0.0 names)) b.0.1 _ x c.2 in
    let d = bind_ok (u64_field c.0.1) _ x cr.1 in
    let dr = rule_ok (leb d.0.0 (file_bytes_of devices places)) c.0.1 _ x d.2 in
    let p = bind_ok (u32_field d.0.1) _ x dr.1 in
    let pr = rule_ok (leb (used + p.0.0) (pointers_of devices places)) d.0.1 _ x p.2 in
    let s = bind_ok (entries_field devices places d.0.0 p.0.0 0 p.0.1) _ x pr.1 in
    let is = ok_is _ x s.2 in
    record {
      id = a.0;
      count = b.0;
      name = c.0;
      size = d.0;
      pointers = p.0;
      slots = s.0;
      id_is = a.1;
      id_rule = ar.0;
      count_is = b.1;
      name_is = c.1;
      name_rule = cr.0;
      size_is = d.1;
      size_rule = dr.0;
      pointers_is = p.1;
      pointers_rule = pr.0;
      slots_is = s.1;
      made = ap (λ (y : File × List ℕ). y.0) is;
      rest = ap (λ (y : File × List ℕ). y.1) is;
    }

-- the bounds of a file that was read
pub record FileBounds (devices places next_file least used : ℕ) (file : File) : Type 0 where
  pub above : least ≤ file.id
  pub below_next : file.id < next_file
  pub few : used + length file.slots ≤ pointers_of devices places

pub file_bounds : (devices places next_file least used : ℕ) (names : List (List ℕ)) (bytes : List ℕ) (x : File × List ℕ) → file_field devices places next_file least used names bytes ≡ Ok x → FileBounds devices places next_file least used x.0
file_bounds devices places next_file least used names bytes x e =
    let p = file_parts devices places next_file least used names bytes x e in
    let id : p.id.0 ≡ x.0.id = ap (λ (f : File). f.id) p.made in
    let slots : length p.slots.0 ≡ length x.0.slots = ap (λ (f : File). length f.slots) p.made in
    let count : length p.slots.0 ≡ p.pointers.0 = entries_length devices places p.size.0 p.pointers.0 0 p.pointers.1 p.slots p.slots_is in
    let bounds = and_parts (leb least p.id.0) (ltb p.id.0 next_file) p.id_rule in
    record {
      above = omega (arith, leb-true least p.id.0 bounds.0);
      below_next = omega (arith, ltb-true p.id.0 next_file bounds.1);
      few = omega (arith, leb-true (used + p.pointers.0) (pointers_of devices places) p.pointers_rule);
    }
