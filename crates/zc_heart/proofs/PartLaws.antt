-- The part of bytes that are all alike, and a list without its last item.
use Rattle.std.proofs.Common.{◌≡◌, ℕ, ◌+◌, ◌-◌, ◌*◌, ◌<◌, ◌≤◌, min, List, [], ◌∷◌, ◌++◌, take, length, get_or, replicate, refl, sym, ap, ◌∙◌, ⊎_elim, arith}
use Rattle.std.proofs.lemmas.Bool.{cases_lt}
use Rattle.std.proofs.lemmas.List.{same_lists, take-replicate, drop-replicate, take_all, length-replicate, length-append, length-take, get_or_append_left, get_or-append_right, get_or-take}
use Rattle.zc_num.specs.Blocks.{edited}
use Rattle.zc_plain.specs.Written.{start_in, part_in}

-- the first of alike bytes
first_alike : (m n byte : ℕ) → take m (replicate n byte) ≡ replicate (min m n) byte
first_alike m n byte =
    ⊎_elim
    (λ (fewer : m < n). take-replicate m n byte (omega (arith, fewer)) ∙ ap (λ (k : ℕ). replicate k byte) (let all : m ≡ min m n = omega (arith, fewer) in all))
    (λ (more : n ≤ m).
    let long : length (replicate n byte) ≤ m = rw length-replicate more in
    take_all m (replicate n byte) long ∙ ap (λ (k : ℕ). replicate k byte) (let all : n ≡ min m n = omega (arith, more) in all))
    (cases_lt m n)

-- the part of them that stands in a block
part_alike : (index offset many byte : ℕ) → part_in index offset (replicate many byte) ≡ replicate (min (4096 - start_in index offset) (many - (index * 4096 - offset))) byte
part_alike index offset many byte =
    ap (take (4096 - start_in index offset)) (drop-replicate (index * 4096 - offset) many byte) ∙ first_alike (4096 - start_in index offset) (many - (index * 4096 - offset)) byte

-- written over the block
pub edited_alike : (block : List ℕ) (index offset many byte start count : ℕ) → start ≡ start_in index offset → count ≡ min (many - (index * 4096 - offset)) (4096 - start)
    → edited block start (replicate count byte) ≡ edited block (start_in index offset) (part_in index offset (replicate many byte))
edited_alike block index offset many byte start count begins counted =
    let all : count ≡ min (4096 - start_in index offset) (many - (index * 4096 - offset)) = omega (arith, counted, begins) in
    ap (λ (from : ℕ). edited block from (replicate count byte)) begins
    ∙ ap (λ (bytes : List ℕ). edited block (start_in index offset) bytes) (ap (λ (k : ℕ). replicate k byte) all ∙ sym (part_alike index offset many byte))

-- the items without the last one
pub front_is : {X : Type 0} (left old made : List X) (x d : X) → old ≡ left ++ x ∷ [] → old ≡ take (length old) made → length old ≤ length made → left ≡ take (length left) made
front_is {X} left old made x d parts front fits =
    let longer : length old ≡ length left + 1 = ap length parts ∙ simp length-append (omega arith) in
    let long : length (take (length left) made) ≡ length left = simp length-take (omega (arith, longer, fits)) in
    same_lists left (take (length left) made) (sym long)
    (λ k e within.
    sym (get_or_append_left left (x ∷ []) e k within) ∙ ap (λ (xs : List X). get_or xs k e) (sym parts ∙ front)
    ∙ get_or-take (length old) made k e (omega (arith, within, longer)) ∙ sym (get_or-take (length left) made k e within))

-- and the last one
pub last_is : {X : Type 0} (left old made : List X) (x d : X) → old ≡ left ++ x ∷ [] → old ≡ take (length old) made → length old ≤ length made → x ≡ get_or made (length left) d
last_is {X} left old made x d parts front fits =
    let longer : length old ≡ length left + 1 = ap length parts ∙ simp length-append (omega arith) in
    let none : length left - length left ≡ 0 = omega arith in
    sym (ap (λ (k : ℕ). get_or (x ∷ []) k d) none)
    ∙ sym (get_or-append_right left (x ∷ []) (length left) (length left) d refl (omega arith))
    ∙ ap (λ (xs : List X). get_or xs (length left) d) (sym parts ∙ front)
    ∙ get_or-take (length old) made (length left) d (omega (arith, longer))

pub longer_is : {X : Type 0} (left old : List X) (x : X) → old ≡ left ++ x ∷ [] → length old ≡ length left + 1
longer_is left old x parts = ap length parts ∙ simp length-append (omega arith)
