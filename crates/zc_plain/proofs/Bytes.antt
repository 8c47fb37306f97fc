-- The bytes of files by position.
use Rattle.std.proofs.Common.{◌≡◌, ℕ, ◌+◌, ◌-◌, ◌<◌, ◌≤◌, min, [], take, drop, length, replicate, get_or, sym, ap, ◌∙◌, ⊎_elim, arith}
use Rattle.std.proofs.lemmas.Bool.{cases_lt}
use Rattle.std.proofs.lemmas.List.{drop_all, take_all, get_or-replicate, get_or_past, length-replicate}
use Rattle.zc_num.specs.Words.{each}
use Rattle.zc_num.proofs.Each.{length_each, each_none, take_each, drop_each}
use Rattle.zc_plain.specs.declared.plain_pool.PlainFile.{PlainFile}
use Rattle.zc_plain.specs.PlainPool.{zeros, byte_of, bytes_from}

-- each byte of zeros is 0
pub zero_of_zeros : (i : ℕ) → get_or zeros i 0 ≡ 0
unfolding zeros
zero_of_zeros i =
    ⊎_elim
    (λ (within : i < 4096). get_or-replicate 4096 i 0 0 within)
    (λ (past : 4096 ≤ i). get_or_past (replicate 4096 0) i 0 (rw length-replicate past))
    (cases_lt i 4096)

-- there are 4,096
pub length_zeros : length zeros ≡ 4096
unfolding zeros
length_zeros = length-replicate {A = ℕ} 4096 0

-- the first items of a list that is given item by item, which may have fewer
take_of_each : {X : Type 0} (len n : ℕ) (f : ℕ → X) → take len (each n f) ≡ each (min len n) f
take_of_each len n f =
    ⊎_elim
    (λ (less : len < n). let is : min len n ≡ len = omega arith in rw is (take_each len n f (omega arith)))
    (λ (all : n ≤ len). let is : min len n ≡ n = omega arith in rw is (take_all len (each n f) (rw length_each all)))
    (cases_lt len n)

-- a part of a list that is given item by item
pub trimmed_of_each : {X : Type 0} (size from len : ℕ) (f : ℕ → X) → take len (drop from (each size f)) ≡ each (min len (size - from)) (λ i. f (from + i))
trimmed_of_each size from len f =
    ⊎_elim
    (λ (within : from < size).
    let whole : from + (size - from) ≡ size = omega arith in
    let behind : drop from (each size f) ≡ each (size - from) (λ i. f (from + i)) = ap (λ n. drop from (each n f)) (sym whole) ∙ drop_each from (size - from) f in
    ap (take len) behind ∙ take_of_each len (size - from) (λ i. f (from + i)))
    (λ (past : size ≤ from).
    let none : min len (size - from) ≡ 0 = omega arith in
    let nothing : drop from (each size f) ≡ [] = drop_all from (each size f) (rw length_each past) in
    ap (take len) nothing ∙ take_all len [] (omega arith) ∙ sym (each_none (λ i. f (from + i))) ∙ ap (λ n. each n (λ i. f (from + i))) (sym none))
    (cases_lt from size)

-- what a read gives, byte by byte
pub bytes_from_each : (offset len : ℕ) (file : PlainFile) → bytes_from offset len file ≡ each (min len (file.size - offset)) (λ i. byte_of file (offset + i))
unfolding bytes_from
bytes_from_each offset len file = trimmed_of_each file.size offset len (byte_of file)
