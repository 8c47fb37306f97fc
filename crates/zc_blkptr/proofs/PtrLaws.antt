-- The laws of a pointer as a field: what is read is spelled so, and what is spelled so is read.
use Rattle.std.proofs.Common.{◌≡◌, ℕ, true, List, [], ◌++◌, length, take, drop, Ok, refl, sym, ap, subst, ◌∙◌, append_assoc, length-append, arith}
use Rattle.std.proofs.lemmas.List.{drop_at, take_at, append-nil, length-take, length-drop, drop-drop, take_all}
use Rattle.std.proofs.lemmas.Bool.Decides.{nat_tests}
use Rattle.zc_wire.specs.Numbers.{u32_bytes, u64_bytes, u32_of, u64_of, IsBytes}
use Rattle.zc_wire.specs.Fields.{◌>>=◌, bytes_field, rule}
use Rattle.zc_wire.proofs.Bytes.{bytes_dropped, bytes_taken}
use Rattle.zc_wire.proofs.Numbers.{u32_bytes_length, u64_bytes_length, u32_read_back, u64_read_back, u32_below, u64_below, u32_front, u64_front}
use Rattle.zc_wire.proofs.FieldLaws.{bind_ok, rule_ok, ok_is, Takes, bytes_take, bytes_again}
use Rattle.zc_blkptr.specs.declared.ptr.Ptr.{Ptr}
use Rattle.zc_blkptr.specs.Ptr.{ptr_bytes, HasWidths, IsPtr}
use Rattle.zc_blkptr.specs.PtrField.{ptr_in, is_ptr, ptr_field}
use Rattle.zc_blkptr.proofs.Spelling.{ptr_length}

-- the fields of a pointer's spelling are the pointer's
pub ptr_read_back : (ptr : Ptr) (rest : List ℕ) → HasWidths ptr → ptr_in (ptr_bytes ptr ++ rest) ≡ ptr
unfolding ptr_in ptr_bytes
ptr_read_back ptr rest fits =
    let d = u32_bytes ptr.device in
    let p = u32_bytes ptr.place in
    let l = u64_bytes ptr.logical in
    let y = u64_bytes ptr.physical in
    let r4 : List ℕ = ptr.digest ++ rest in
    let whole : (d ++ (p ++ (l ++ (y ++ ptr.digest)))) ++ rest ≡ d ++ (p ++ (l ++ (y ++ r4))) = simp append_assoc in
    let dl = u32_bytes_length ptr.device in
    let pl = u32_bytes_length ptr.place in
    let ll = u64_bytes_length ptr.logical in
    let yl = u64_bytes_length ptr.physical in
    let at4 : drop 4 (d ++ (p ++ (l ++ (y ++ r4)))) ≡ p ++ (l ++ (y ++ r4)) = drop_at d _ 4 dl in
    let at8 : drop 8 (d ++ (p ++ (l ++ (y ++ r4)))) ≡ l ++ (y ++ r4) = ap (drop 8) (sym (append_assoc d p (l ++ (y ++ r4)))) ∙ drop_at (d ++ p) _ 8 (omega (arith, length-append d p)) in
    let at16 : drop 16 (d ++ (p ++ (l ++ (y ++ r4)))) ≡ y ++ r4 =
    ap (drop 16) (sym (append_assoc d p (l ++ (y ++ r4))) ∙ sym (append_assoc (d ++ p) l (y ++ r4))) ∙ drop_at ((d ++ p) ++ l) _ 16 (omega (arith, length-append d p, length-append (d ++ p) l)) in
    let at24 : drop 24 (d ++ (p ++ (l ++ (y ++ r4)))) ≡ r4 =
    ap (drop 24) (sym (append_assoc d p (l ++ (y ++ r4))) ∙ sym (append_assoc (d ++ p) l (y ++ r4)) ∙ sym (append_assoc ((d ++ p) ++ l) y r4)) ∙ drop_at (((d ++ p) ++ l) ++ y) _ 24 (omega (arith, length-append d p, length-append (d ++ p) l, length-append ((d ++ p) ++ l) y)) in
    let device : u32_of ((d ++ (p ++ (l ++ (y ++ ptr.digest)))) ++ rest) ≡ ptr.device = ap u32_of whole ∙ u32_read_back ptr.device _ fits.device in
    let place : u32_of (drop 4 ((d ++ (p ++ (l ++ (y ++ ptr.digest)))) ++ rest)) ≡ ptr.place = ap (λ (t : List ℕ). u32_of (drop 4 t)) whole ∙ ap u32_of at4 ∙ u32_read_back ptr.place _ fits.place in
    let logical : u64_of (drop 8 ((d ++ (p ++ (l ++ (y ++ ptr.digest)))) ++ rest)) ≡ ptr.logical = ap (λ (t : List ℕ). u64_of (drop 8 t)) whole ∙ ap u64_of at8 ∙ u64_read_back ptr.logical _ fits.logical in
    let physical : u64_of (drop 16 ((d ++ (p ++ (l ++ (y ++ ptr.digest)))) ++ rest)) ≡ ptr.physical = ap (λ (t : List ℕ). u64_of (drop 16 t)) whole ∙ ap u64_of at16 ∙ u64_read_back ptr.physical _ fits.physical in
    let digest : take 16 (drop 24 ((d ++ (p ++ (l ++ (y ++ ptr.digest)))) ++ rest)) ≡ ptr.digest = ap (λ (t : List ℕ). take 16 (drop 24 t)) whole ∙ ap (take 16) at24 ∙ take_at ptr.digest rest 16 fits.digest in
    λ i. record { device = device i; place = place i; logical = logical i; physical = physical i; digest = digest i }

-- the same for its 40 bytes alone
pub ptr_read_whole : (ptr : Ptr) (bytes : List ℕ) → HasWidths ptr → bytes ≡ ptr_bytes ptr → ptr_in bytes ≡ ptr
ptr_read_whole ptr bytes fits spelled = ap ptr_in (spelled ∙ sym (append-nil (ptr_bytes ptr))) ∙ ptr_read_back ptr [] fits

-- the test says what the definition says
pub ptr_from_test : (devices places : ℕ) (ptr : Ptr) → HasWidths ptr → is_ptr devices places ptr ≡ true → IsPtr devices places ptr
ptr_from_test devices places ptr widths holds = grind (arith, nat_tests)

pub ptr_to_test : (devices places : ℕ) (ptr : Ptr) → IsPtr devices places ptr → is_ptr devices places ptr ≡ true
ptr_to_test devices places ptr fits = grind (arith, nat_tests)

-- 40 bytes are the spelling of the pointer whose fields stand there
pub ptr_spelled_back : (bytes : List ℕ) → length bytes ≡ 40 → IsBytes bytes → HasWidths (ptr_in bytes) × (bytes ≡ ptr_bytes (ptr_in bytes))
unfolding ptr_in ptr_bytes
ptr_spelled_back bytes len fits =
    let b4 = drop 4 bytes in
    let b8 = drop 8 bytes in
    let b16 = drop 16 bytes in
    let b24 = drop 24 bytes in
    let f4 = bytes_dropped 4 bytes fits in
    let f8 = bytes_dropped 8 bytes fits in
    let f16 = bytes_dropped 16 bytes fits in
    let f24 = bytes_dropped 24 bytes fits in
    let l4 : length b4 ≡ 36 = omega (arith, length-drop 4 bytes) in
    let l8 : length b8 ≡ 32 = omega (arith, length-drop 8 bytes) in
    let l16 : length b16 ≡ 24 = omega (arith, length-drop 16 bytes) in
    let l24 : length b24 ≡ 16 = omega (arith, length-drop 24 bytes) in
    let e1 : bytes ≡ u32_bytes (u32_of bytes) ++ b4 = u32_front bytes (omega arith) fits in
    let e2 : b4 ≡ u32_bytes (u32_of b4) ++ b8 = u32_front b4 (omega arith) f4 ∙ ap (λ (t : List ℕ). u32_bytes (u32_of b4) ++ t) (drop-drop 4 4 bytes) in
    let e3 : b8 ≡ u64_bytes (u64_of b8) ++ b16 = u64_front b8 (omega arith) f8 ∙ ap (λ (t : List ℕ). u64_bytes (u64_of b8) ++ t) (drop-drop 8 8 bytes) in
    let e4 : b16 ≡ u64_bytes (u64_of b16) ++ b24 = u64_front b16 (omega arith) f16 ∙ ap (λ (t : List ℕ). u64_bytes (u64_of b16) ++ t) (drop-drop 8 16 bytes) in
    let e5 : b24 ≡ take 16 b24 = sym (take_all 16 b24 (omega arith)) in
    let d24 : b16 ≡ u64_bytes (u64_of b16) ++ take 16 b24 = e4 ∙ ap (λ (t : List ℕ). u64_bytes (u64_of b16) ++ t) e5 in
    let d16 : b8 ≡ u64_bytes (u64_of b8) ++ (u64_bytes (u64_of b16) ++ take 16 b24) = e3 ∙ ap (λ (t : List ℕ). u64_bytes (u64_of b8) ++ t) d24 in
    let d8 : b4 ≡ u32_bytes (u32_of b4) ++ (u64_bytes (u64_of b8) ++ (u64_bytes (u64_of b16) ++ take 16 b24)) = e2 ∙ ap (λ (t : List ℕ). u32_bytes (u32_of b4) ++ t) d16 in (
      record {
        device = u32_below bytes fits;
        place = u32_below b4 f4;
        logical = u64_below b8 f8;
        physical = u64_below b16 f16;
        digest = omega (arith, length-take 16 b24);
        digest_fits = bytes_taken 16 b24 f24;
      },
      e1 ∙ ap (λ (t : List ℕ). u32_bytes (u32_of bytes) ++ t) d8,
    )

-- what is read is a pointer of such a pool, spelled so
pub ptr_takes : (devices places : ℕ) (bytes : List ℕ) (ptr : Ptr) (rest : List ℕ) → IsBytes bytes → ptr_field devices places bytes ≡ Ok (ptr, rest) → Takes bytes (ptr_bytes ptr) rest × IsPtr devices places ptr
unfolding ptr_field
ptr_takes devices places bytes ptr rest fits e =
    let b = bind_ok (bytes_field 40 bytes) (λ whole. rule (is_ptr devices places (ptr_in whole.0)) bytes >>= λ _. Ok (ptr_in whole.0, whole.1)) (ptr, rest) e in
    let t = bytes_take 40 bytes b.0.0 b.0.1 fits b.1 in
    let r = rule_ok (is_ptr devices places (ptr_in b.0.0)) bytes (λ _. Ok (ptr_in b.0.0, b.0.1)) (ptr, rest) b.2 in
    let back = ptr_spelled_back b.0.0 t.1 t.2 in
    let spelled : Takes bytes (ptr_bytes (ptr_in b.0.0)) b.0.1 = subst (λ (text : List ℕ). Takes bytes text b.0.1) back.1 t.0 in
    subst (λ (p : Ptr × List ℕ). Takes bytes (ptr_bytes p.0) p.1 × IsPtr devices places p.0) (ok_is (ptr_in b.0.0, b.0.1) (ptr, rest) r.1)
    (spelled, ptr_from_test devices places (ptr_in b.0.0) back.0 r.0)

-- what is spelled so is read, whatever follows
pub ptr_again : (devices places : ℕ) (ptr : Ptr) (rest : List ℕ) → IsPtr devices places ptr → ptr_field devices places (ptr_bytes ptr ++ rest) ≡ Ok (ptr, rest)
unfolding ptr_field
ptr_again devices places ptr rest fits =
    let field : bytes_field 40 (ptr_bytes ptr ++ rest) ≡ Ok (ptr_bytes ptr, rest) = bytes_again 40 (ptr_bytes ptr) rest (ptr_length ptr fits.widths.digest) in
    let read : ptr_in (ptr_bytes ptr) ≡ ptr = ptr_read_whole ptr (ptr_bytes ptr) fits.widths refl in
    let test : is_ptr devices places (ptr_in (ptr_bytes ptr)) ≡ true = ap (is_ptr devices places) read ∙ ptr_to_test devices places ptr fits in
    rw (field, test, read) refl
