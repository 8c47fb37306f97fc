-- Of numbers below one there is one that isn't in a shorter list.
use Rattle.std.proofs.Common.{◌≡◌, ◌≢◌, ℕ, zero, suc, ◌<◌, ◌≤◌, ◌==◌, ◌||◌, Bool, true, false, List, [], ◌∷◌, length, map, refl, sym, ap, ◌∙◌, ⊎_elim, arith}
use Rattle.std.specs.Prelude.{not, filter}
use Rattle.std.specs.List.{list_any}
use Rattle.std.proofs.lemmas.Bool.{cases_Bool, eqb-true, ne_eqb}

-- whether one of an image passes
pub any_in_map : {X Y : Type 0} (p : Y → Bool) (f : X → Y) (xs : List X) → list_any p (map f xs) ≡ list_any (λ x. p (f x)) xs
any_in_map p f [] = refl
any_in_map p f (x ∷ xs) = ap (λ (rest : Bool). p (f x) || rest) (any_in_map p f xs)

-- the numbers but one
abbrev others : ℕ → List ℕ → List ℕ
others number xs = filter (λ x. not (x == number)) xs

no_more_others : (number : ℕ) (xs : List ℕ) → length (others number xs) ≤ length xs
no_more_others number [] = omega arith
no_more_others number (x ∷ xs) =
    let rest = no_more_others number xs in
    ⊎_elim (λ (same : (x == number) ≡ true). rw same (omega (arith, rest))) (λ (apart : (x == number) ≡ false). rw apart (omega (arith, rest))) (cases_Bool (x == number))

fewer_others : (number : ℕ) (xs : List ℕ) → list_any (λ (x : ℕ). x == number) xs ≡ true → length (others number xs) < length xs
fewer_others number [] there = cc
fewer_others number (x ∷ xs) there =
    ⊎_elim
    (λ (same : (x == number) ≡ true). let rest = no_more_others number xs in rw same (omega (arith, rest)))
    (λ (apart : (x == number) ≡ false). let behind = rw apart at there in let rest = fewer_others number xs behind in rw apart (omega (arith, rest)))
    (cases_Bool (x == number))

still_among : (number other : ℕ) (xs : List ℕ) → other ≢ number → list_any (λ (x : ℕ). x == other) xs ≡ true → list_any (λ (x : ℕ). x == other) (others number xs) ≡ true
still_among number other [] apart there = cc
still_among number other (x ∷ xs) apart there =
    ⊎_elim
    (λ (same : (x == number) ≡ true).
    let is = eqb-true x number same in
    let not_this : (x == other) ≡ false = ne_eqb x other (λ this. apart (sym this ∙ is)) in
    let behind = rw not_this at there in
    rw same (still_among number other xs apart behind))
    (λ (differs : (x == number) ≡ false).
    rw differs
    (⊎_elim
    (λ (this : (x == other) ≡ true). rw this refl)
    (λ (not_this : (x == other) ≡ false). let behind = rw not_this at there in rw not_this (still_among number other xs apart behind))
    (cases_Bool (x == other))))
    (cases_Bool (x == number))

-- a list that has each number below one has as many items
pub full_is_long : (n : ℕ) (xs : List ℕ) → ((number : ℕ) → number < n → list_any (λ (x : ℕ). x == number) xs ≡ true) → n ≤ length xs
full_is_long zero xs all = omega arith
full_is_long (suc n) xs all =
    let fewer = fewer_others n xs (all n (omega arith)) in
    let rest = full_is_long n (others n xs) (λ number below. still_among n number xs (omega arith) (all number (omega arith))) in
    omega (arith, fewer, rest)
