-- Sums and counts over places, one place after the other.
use Rattle.std.proofs.Common.{◌≡◌, ◌∙◌, ℕ, zero, suc, ◌+◌, Bool, cond, [], sum, count_by, sym, ap, add_assoc, add-zero, add-one, zero-add, arith}
use Rattle.std.specs.List.{range_with_len}
use Rattle.std.proofs.lemmas.List.Sums.{sum_by-cons, sum_by_push}
use Rattle.zc_num.specs.Words.{each}
use Rattle.zc_num.proofs.Each.{each_none, each_more}

-- the sum over no place
pub sum_none : (f : ℕ → ℕ) → sum (each 0 f) ≡ 0
sum_none f = ap sum (each_none f)

-- the sum over one place more
pub sum_more : (n : ℕ) (f : ℕ → ℕ) → sum (each (n + 1) f) ≡ sum (each n f) + f n
sum_more n f = ap sum (each_more n f) ∙ sum_by_push (λ x. x) (each n f) (f n)

-- the count of one number more
count_range : (test : ℕ → Bool) (first n : ℕ) → count_by test (range_with_len first (suc n)) ≡ count_by test (range_with_len first n) + cond (test (first + n)) 1 0
count_range test first zero =
    sum_by-cons (λ k. cond (test k) 1 0) first [] ∙ ap (λ (k : ℕ). cond (test k) 1 0 + 0) (sym (add-zero first)) ∙ omega arith
count_range test first (suc n) =
    let one : ℕ → ℕ = λ k. cond (test k) 1 0 in
    sum_by-cons one first (range_with_len (first + 1) (suc n))
    ∙ ap (λ (k : ℕ). one first + k) (count_range test (first + 1) n)
    ∙ ap (λ (k : ℕ). one first + (count_by test (range_with_len (first + 1) n) + one k)) (along first n)
    ∙ sym (add_assoc (one first) (count_by test (range_with_len (first + 1) n)) (one (first + suc n)))
    ∙ ap (λ (k : ℕ). k + one (first + suc n)) (sym (sum_by-cons one first (range_with_len (first + 1) n)))
  where
    along : (first n : ℕ) → first + 1 + n ≡ first + suc n
    along first n = omega arith

-- the count of one place more
pub count_more : (test : ℕ → Bool) (n : ℕ) → count_by test (range_with_len 0 (n + 1)) ≡ count_by test (range_with_len 0 n) + cond (test n) 1 0
count_more test n =
    ap (λ (k : ℕ). count_by test (range_with_len 0 k)) (add-one n) ∙ count_range test 0 n ∙ ap (λ (k : ℕ). count_by test (range_with_len 0 n) + cond (test k) 1 0) (zero-add n)
