-- How many pointers there are to places in a row: no more than pointers.
use Rattle.std.proofs.Common.{◌≡◌, ◌∙◌, ℕ, zero, suc, ◌+◌, ◌-◌, ◌/◌, ◌%◌, ◌<◌, ◌≤◌, Bool, true, false, cond, eqb, List, [], ◌∷◌, length, sum, refl, sym, ap, subst, ⊎_elim, add-one, arith}
use Rattle.std.proofs.lemmas.Bool.{cases_lt, ne_eqb}
use Rattle.std.proofs.lemmas.Nat.{mod-mul-add, div-mul-add}
use Rattle.zc_num.specs.Words.{each}
use Rattle.zc_num.specs.Limits.{IsFixed}
use Rattle.zc_num.proofs.Each.{each_same}
use Rattle.zc_blkptr.specs.declared.ptr.Ptr.{Ptr}
use Rattle.zc_damage.specs.Places.{number_of, pointers_to, extra_at}
use Rattle.zc_damage.specs.Checks.{one_if}
use Rattle.zc_damage.proofs.SumLaws.{sum_none, sum_more}
use Rattle.zc_state.proofs.Pointers.{ArePtrs}

-- ---- sums over n numbers

-- the sum over one number more
sum_suc : (n : ℕ) (f : ℕ → ℕ) → sum (each (suc n) f) ≡ sum (each n f) + f n
sum_suc n f = ap (λ (m : ℕ). sum (each m f)) (sym (add-one n)) ∙ sum_more n f

-- the sum of two functions
sum_of_both : (n : ℕ) (f g : ℕ → ℕ) → sum (each n (λ k. f k + g k)) ≡ sum (each n f) + sum (each n g)
sum_of_both zero f g = omega (arith, sum_none (λ k. f k + g k), sum_none f, sum_none g)
sum_of_both (suc n) f g =
    let both : sum (each (suc n) (λ k. f k + g k)) ≡ sum (each n (λ k. f k + g k)) + (f n + g n) = sum_suc n (λ k. f k + g k) in
    omega (arith, both, sum_suc n f, sum_suc n g, sum_of_both n f g)

-- the lesser function has the lesser sum
pub sum_no_more : (n : ℕ) (f g : ℕ → ℕ) → ((k : ℕ) → f k ≤ g k) → sum (each n f) ≤ sum (each n g)
sum_no_more zero f g less = omega (arith, sum_none f, sum_none g)
sum_no_more (suc n) f g less = omega (arith, sum_suc n f, sum_suc n g, sum_no_more n f g less, less n)

-- the sum of zeros
sum_zeros : (n : ℕ) → sum (each n (λ k. 0)) ≡ 0
sum_zeros zero = sum_none (λ k. 0)
sum_zeros (suc n) = omega (arith, sum_suc n (λ k. 0), sum_zeros n)

-- ---- pointers to places in a row

-- a number is none of those before it, and one of those in a row at most
one_in_row : (number from n : ℕ) → (sum (each n (λ k. one_if (eqb number (from + k)))) ≤ 1) × (from + n ≤ number → sum (each n (λ k. one_if (eqb number (from + k)))) ≡ 0)
one_in_row number from zero =
    let none : sum (each 0 (λ k. one_if (eqb number (from + k)))) ≡ 0 = sum_none (λ k. one_if (eqb number (from + k))) in
    (omega arith, λ past. none)
one_in_row number from (suc n) =
    let f : ℕ → ℕ = λ k. one_if (eqb number (from + k)) in
    let before = one_in_row number from n in
    let more : sum (each (suc n) f) ≡ sum (each n f) + f n = sum_suc n f in
    ⊎_elim
    (λ (less : number < from + n).
    let here : f n ≡ 0 = ap one_if (ne_eqb number (from + n) (λ same. absurd (omega arith))) in
    (omega (arith, more, here, before.0), λ past. absurd (omega arith)))
    (λ (past : from + n ≤ number).
    let none : sum (each n f) ≡ 0 = before.1 past in (
      omega (arith, more, none, at_most (eqb number (from + n))),
      λ (over : from + suc n ≤ number).
          let here : f n ≡ 0 = ap one_if (ne_eqb number (from + n) (λ same. absurd (omega arith))) in
          omega (arith, more, none, here),
    ))
    (cases_lt number (from + n))
  where
    at_most : (b : Bool) → one_if b ≤ 1
    at_most true = omega arith
    at_most false = omega arith

-- one pointer more is counted at its place
pointers_more : (places : ℕ) (ptr : Ptr) (reach : List Ptr) (number : ℕ) → length (pointers_to places (ptr ∷ reach) number) ≡ one_if (eqb (number_of places ptr.device ptr.place) number) + length (pointers_to places reach number)
pointers_more places ptr reach number = at (eqb (number_of places ptr.device ptr.place) number) where
  at : (here : Bool) → length (cond here (ptr ∷ pointers_to places reach number) (pointers_to places reach number)) ≡ one_if here + length (pointers_to places reach number)
  at true = omega arith
  at false = omega arith

-- no more pointers are to places in a row than there are
pub pointers_in_row : (places : ℕ) (reach : List Ptr) (from n : ℕ) → sum (each n (λ k. length (pointers_to places reach (from + k)))) ≤ length reach
pointers_in_row places [] from n = omega (arith, sum_zeros n)
pointers_in_row places (ptr ∷ reach) from n =
    let here : ℕ → ℕ = λ k. one_if (eqb (number_of places ptr.device ptr.place) (from + k)) in
    let others : ℕ → ℕ = λ k. length (pointers_to places reach (from + k)) in
    let split : sum (each n (λ k. length (pointers_to places (ptr ∷ reach) (from + k)))) ≡ sum (each n (λ k. here k + others k)) =
    ap sum (each_same n (λ k. length (pointers_to places (ptr ∷ reach) (from + k))) (λ k. here k + others k) (λ k within. pointers_more places ptr reach (from + k))) in
    omega (arith, split, sum_of_both n here others, (one_in_row (number_of places ptr.device ptr.place) from n).0, pointers_in_row places reach from n)

-- nor are the extra ones
pub extra_in_row : (places : ℕ) (reach : List Ptr) (from n : ℕ) → sum (each n (λ k. extra_at places reach (from + k))) ≤ length reach
extra_in_row places reach from n =
    omega (arith, sum_no_more n (λ k. extra_at places reach (from + k)) (λ k. length (pointers_to places reach (from + k))) (λ k. omega arith), pointers_in_row places reach from n)

-- ---- fixed places

-- no pointer is to a fixed place
pub fixed_unreached : (devices places device place : ℕ) (reach : List Ptr) → ArePtrs devices places reach → place < places → IsFixed devices places device place → pointers_to places reach (number_of places device place) ≡ []
fixed_unreached devices places device place [] fits within fixed = refl
fixed_unreached devices places device place (ptr ∷ reach) fits within fixed =
    let number : ℕ = number_of places device place in
    let own : ℕ = number_of places ptr.device ptr.place in
    let apart : eqb own number ≡ false = ne_eqb own number (λ same.
    let on_device : device ≡ ptr.device = sym (div-mul-add device places place within) ∙ ap (λ (k : ℕ). k / places) (sym same) ∙ div-mul-add ptr.device places ptr.place fits.0.in_places in
    let at_place : place ≡ ptr.place = sym (mod-mul-add device places place within) ∙ ap (λ (k : ℕ). k % places) (sym same) ∙ mod-mul-add ptr.device places ptr.place fits.0.in_places in
    absurd (fits.0.not_fixed (subst (λ (d : ℕ). IsFixed devices places d ptr.place) on_device (subst (λ (p : ℕ). IsFixed devices places device p) at_place fixed)))) in
    ap (λ (b : Bool). cond b (ptr ∷ pointers_to places reach number) (pointers_to places reach number)) apart ∙ fixed_unreached devices places device place reach fits.1 within fixed

-- so its count is 0
pub fixed_extra : (devices places device place : ℕ) (reach : List Ptr) → ArePtrs devices places reach → place < places → IsFixed devices places device place → extra_at places reach (number_of places device place) ≡ 0
fixed_extra devices places device place reach fits within fixed = ap (λ (ptrs : List Ptr). length ptrs - 1) (fixed_unreached devices places device place reach fits within fixed)
