-- The laws of fields: what is read is spelled so, and what is spelled so is read.
use Rattle.std.proofs.Common.{◌≡◌, ℕ, ◌+◌, ◌-◌, ◌^◌, ◌<◌, ◌≤◌, Bool, true, false, cond, ◌&&◌, ltb, List, [], ◌++◌, length, take, drop, Result, Ok, Err, refl, sym, ap, subst, ◌∙◌, append_assoc, arith}
use Rattle.std.proofs.lemmas.Bool.{ltb-false, le-ltb}
use Rattle.std.proofs.lemmas.List.{take_at, drop_at, take-append-drop, length-append, length-take, append-nil}
use Rattle.zc_wire.specs.Numbers.{u32_bytes, u64_bytes, u32_of, u64_of, IsBytes}
use Rattle.zc_wire.specs.declared.fault.CatalogFault.{CatalogFault}
use Rattle.zc_wire.specs.declared.fault.CatalogFault.TheVariants as catalog
use Rattle.zc_wire.specs.declared.fields.FieldFault.{FieldFault}
use Rattle.zc_wire.specs.declared.fields.FieldFault.TheVariants as field
use Rattle.zc_wire.specs.Fields.{FieldFails, placed_in, Read, ◌>>=◌, u32_field, u64_field, bytes_field, rule, FieldAnswers, Reads, StandsInFront}
use Rattle.zc_wire.proofs.Bytes.{bytes_dropped, bytes_taken}
use Rattle.zc_wire.proofs.Numbers.{u32_bytes_length, u64_bytes_length, u32_spelled_back, u64_spelled_back, u32_below, u64_below, u32_read_back, u64_read_back}

-- a read that answered a value
abbrev done : {A : Type 0} → A → Result A ℕ
done x = Ok x

-- two values of one answer are one
pub ok_is : {A : Type 0} (x y : A) → done x ≡ done y → x ≡ y
ok_is x y e = cc

-- the value of a step that did not fail
pub bind_ok : {A B : Type 0} (r : Result A ℕ) (f : A → Result B ℕ) (y : B) → (r >>= f) ≡ Ok y → (x : A) × (r ≡ Ok x) × (f x ≡ Ok y)
bind_ok (Ok x) f y e = (x, refl, e)
bind_ok (Err left) f y e = absurd cc

-- a test that held
pub rule_ok : {B : Type 0} (test : Bool) (bytes : List ℕ) (f : Unit {0} → Result B ℕ) (y : B) → (rule test bytes >>= f) ≡ Ok y → (test ≡ true) × (f tt ≡ Ok y)
rule_ok true bytes f y e = (refl, e)
rule_ok false bytes f y e = absurd cc

-- a test that holds lets the read go on
pub rule_again : {B : Type 0} (test : Bool) (bytes : List ℕ) (f : Unit {0} → Result B ℕ) → test ≡ true → (rule test bytes >>= f) ≡ f tt
rule_again test bytes f holds = rw holds refl

-- bytes begin with a text, and these bytes follow it
pub record Takes (bytes text rest : List ℕ) : Type 0 where
  pub parts : bytes ≡ text ++ rest
  pub rest_fits : IsBytes rest

-- one text after the other
pub takes_then : (a x b y c : List ℕ) → Takes a x b → Takes b y c → Takes a (x ++ y) c
takes_then a x b y c p q = record { parts = p.parts ∙ ap (λ (t : List ℕ). x ++ t) q.parts ∙ sym (append_assoc x y c); rest_fits = q.rest_fits }

-- no text
pub takes_none : (a : List ℕ) → IsBytes a → Takes a [] a
takes_none a fits = record { parts = refl; rest_fits = fits }

-- how many bytes the text has
pub takes_length : (a x b : List ℕ) → Takes a x b → length a ≡ length x + length b
takes_length a x b p = ap length p.parts ∙ length-append x b

guard_ok : {A : Type 0} (b : Bool) (left : ℕ) (x y : A) → cond b (Err left) (Ok x) ≡ Ok y → (b ≡ false) × (x ≡ y)
guard_ok true left x y e = absurd cc
guard_ok false left x y e = (refl, cc)

-- ---- so many bytes

pub bytes_take : (n : ℕ) (bytes text rest : List ℕ) → IsBytes bytes → bytes_field n bytes ≡ Ok (text, rest) → Takes bytes text rest × (length text ≡ n) × IsBytes text
bytes_take n bytes text rest fits e =
    let g = guard_ok (ltb (length bytes) n) (length bytes) (take n bytes, drop n bytes) (text, rest) e in
    let long : n ≤ length bytes = ltb-false _ _ g.0 in
    let found : Takes bytes (take n bytes) (drop n bytes) × (length (take n bytes) ≡ n) × IsBytes (take n bytes) =
    (record { parts = sym (take-append-drop n bytes); rest_fits = bytes_dropped n bytes fits }, omega (arith, length-take n bytes), bytes_taken n bytes fits) in
    subst (λ (p : List ℕ × List ℕ). Takes bytes p.0 p.1 × (length p.0 ≡ n) × IsBytes p.0) g.1 found

pub bytes_again : (n : ℕ) (text rest : List ℕ) → length text ≡ n → bytes_field n (text ++ rest) ≡ Ok (text, rest)
bytes_again n text rest len =
    let long : ltb (length (text ++ rest)) n ≡ false = le-ltb _ _ (omega (arith, length-append text rest)) in
    rw (long, take_at text rest n len, drop_at text rest n len) refl

-- ---- numbers of 32 bits

pub u32_takes : (bytes : List ℕ) (n : ℕ) (rest : List ℕ) → IsBytes bytes → u32_field bytes ≡ Ok (n, rest) → Takes bytes (u32_bytes n) rest × (n < 2 ^ 32)
u32_takes bytes n rest fits e =
    let g = guard_ok (ltb (length bytes) 4) (length bytes) (u32_of (take 4 bytes), drop 4 bytes) (n, rest) e in
    let long : 4 ≤ length bytes = ltb-false _ _ g.0 in
    let front : u32_bytes (u32_of (take 4 bytes)) ≡ take 4 bytes = u32_spelled_back (take 4 bytes) (omega (arith, length-take 4 bytes)) (bytes_taken 4 bytes fits) in
    let found : Takes bytes (u32_bytes (u32_of (take 4 bytes))) (drop 4 bytes) × (u32_of (take 4 bytes) < 2 ^ 32) =
    (record { parts = sym (take-append-drop 4 bytes) ∙ ap (λ (t : List ℕ). t ++ drop 4 bytes) (sym front); rest_fits = bytes_dropped 4 bytes fits }, u32_below (take 4 bytes) (bytes_taken 4 bytes fits)) in
    subst (λ (p : ℕ × List ℕ). Takes bytes (u32_bytes p.0) p.1 × (p.0 < 2 ^ 32)) g.1 found

pub u32_again : (n : ℕ) (rest : List ℕ) → n < 2 ^ 32 → u32_field (u32_bytes n ++ rest) ≡ Ok (n, rest)
u32_again n rest fits =
    let len = u32_bytes_length n in
    let long : ltb (length (u32_bytes n ++ rest)) 4 ≡ false = le-ltb _ _ (omega (arith, length-append (u32_bytes n) rest)) in
    let number : u32_of (u32_bytes n) ≡ n = ap u32_of (sym (append-nil (u32_bytes n))) ∙ u32_read_back n [] fits in
    rw (long, take_at (u32_bytes n) rest 4 len, drop_at (u32_bytes n) rest 4 len, number) refl

-- ---- numbers of 64 bits

pub u64_takes : (bytes : List ℕ) (n : ℕ) (rest : List ℕ) → IsBytes bytes → u64_field bytes ≡ Ok (n, rest) → Takes bytes (u64_bytes n) rest × (n < 2 ^ 64)
u64_takes bytes n rest fits e =
    let g = guard_ok (ltb (length bytes) 8) (length bytes) (u64_of (take 8 bytes), drop 8 bytes) (n, rest) e in
    let long : 8 ≤ length bytes = ltb-false _ _ g.0 in
    let front : u64_bytes (u64_of (take 8 bytes)) ≡ take 8 bytes = u64_spelled_back (take 8 bytes) (omega (arith, length-take 8 bytes)) (bytes_taken 8 bytes fits) in
    let found : Takes bytes (u64_bytes (u64_of (take 8 bytes))) (drop 8 bytes) × (u64_of (take 8 bytes) < 2 ^ 64) =
    (record { parts = sym (take-append-drop 8 bytes) ∙ ap (λ (t : List ℕ). t ++ drop 8 bytes) (sym front); rest_fits = bytes_dropped 8 bytes fits }, u64_below (take 8 bytes) (bytes_taken 8 bytes fits)) in
    subst (λ (p : ℕ × List ℕ). Takes bytes (u64_bytes p.0) p.1 × (p.0 < 2 ^ 64)) g.1 found

pub u64_again : (n : ℕ) (rest : List ℕ) → n < 2 ^ 64 → u64_field (u64_bytes n ++ rest) ≡ Ok (n, rest)
u64_again n rest fits =
    let len = u64_bytes_length n in
    let long : ltb (length (u64_bytes n ++ rest)) 8 ≡ false = le-ltb _ _ (omega (arith, length-append (u64_bytes n) rest)) in
    let number : u64_of (u64_bytes n) ≡ n = ap u64_of (sym (append-nil (u64_bytes n))) ∙ u64_read_back n [] fits in
    rw (long, take_at (u64_bytes n) rest 8 len, drop_at (u64_bytes n) rest 8 len, number) refl

-- ---- steps that go on

-- a step that answers this value goes on with it
pub bind_again : {A B : Type 0} (r : Result A ℕ) (f : A → Result B ℕ) (x : A) (y : Result B ℕ) → r ≡ Ok x → f x ≡ y → (r >>= f) ≡ y
bind_again {A} {B} r f x y is on = ap (λ (s : Result A ℕ). s >>= f) is ∙ on

-- a test that holds goes on
pub rule_on : {B : Type 0} (test : Bool) (bytes : List ℕ) (f : Unit {0} → Result B ℕ) (y : Result B ℕ) → test ≡ true → f tt ≡ y → (rule test bytes >>= f) ≡ y
rule_on test bytes f y holds on = rule_again test bytes f holds ∙ on

-- two tests that hold
pub both_hold : (a b : Bool) → a ≡ true → b ≡ true → (a && b) ≡ true
both_hold a b first second = rw (first, second) refl

-- ---- public readers

-- what a reader found stands in front
pub front_of_takes : (bytes text rest : List ℕ) (taken : ℕ) → Takes bytes text rest → taken ≡ length bytes - length rest → StandsInFront text taken bytes
front_of_takes bytes text rest taken takes is =
    let len = takes_length bytes text rest takes in
    let width : taken ≡ length text = omega arith in
    let behind : drop taken bytes ≡ rest = ap (drop taken) takes.parts ∙ drop_at text rest taken (sym width) in
    record { length_is = width; joined = takes.parts ∙ ap (λ (t : List ℕ). text ++ t) (sym behind) }

-- what a reader answers where the read answers this value
pub answer_reads : {X : Type 0} (bytes text rest : List ℕ) (result : Result (X × ℕ) CatalogFault) (read : Read X) (x : X) → bytes ≡ text ++ rest → read ≡ Ok (x, rest) → FieldAnswers (length bytes) result read → Reads result x (length text)
answer_reads {X} bytes text rest (Ok y) read x parts is answer =
    let found : X × List ℕ = (y.0, answer.0) in
    let sought : X × List ℕ = (x, rest) in
    let same : found ≡ sought = ok_is found sought (sym answer.1 ∙ is) in
    let behind : length answer.0 ≡ length rest = ap (λ (p : X × List ℕ). length p.1) same in
    let total : length bytes ≡ length text + length rest = ap length parts ∙ length-append text rest in
    (ap (λ (p : X × List ℕ). p.0) same, omega (arith, answer.2))
answer_reads bytes text rest (Err catalog.NoMemory) read x parts is answer = tt
answer_reads bytes text rest (Err (catalog.BadCatalog at)) read x parts is answer = let clash = sym is ∙ answer.1 in absurd cc

-- a fault of a read, placed among all bytes
pub fault_answers : {X : Type 0} (total : ℕ) (fault : FieldFault) (placed : CatalogFault) (read : Read X) → placed ≡ placed_in total fault → FieldFails fault read → FieldAnswers {X = X} total (Err placed) read
fault_answers {X} total field.NoMemory placed read is fails = subst (λ (e : CatalogFault). FieldAnswers {X = X} total (Err e) read) (sym is) tt
fault_answers {X} total (field.Bad left) placed read is fails = subst (λ (e : CatalogFault). FieldAnswers {X = X} total (Err e) read) (sym is) (left, fails, refl)
