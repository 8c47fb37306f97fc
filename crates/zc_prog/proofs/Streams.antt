-- Bytes that a source gave, or a sink took, one piece after the other.
use Rattle.std.proofs.Common.{◌≡◌, ℕ, zero, suc, ◌+◌, ◌-◌, ◌≤◌, List, [], ◌∷◌, ◌++◌, length, take, drop, IsTrue, arith, refl, sym, ap, ◌∙◌, append_assoc, zero-add, length-append}
use Rattle.std.proofs.lemmas.Grind.{common_steps}
use Rattle.zc_io.specs.Stream.{Stream, GivesFront, Takes}

-- a front of nothing is nothing
take_nothing : (n : ℕ) → ◌≡◌ {A = List ℕ} (take n []) []
take_nothing zero = refl
take_nothing (suc n) = refl

-- a front, and a front of what is left, make a longer front
front_of_rest : (text : List ℕ) (d n : ℕ) → take d text ++ take n (drop d text) ≡ take (d + n) text
front_of_rest text zero n = rw zero-add refl
front_of_rest [] (suc d) n = take_nothing n ∙ sym (take_nothing (suc d + n))
front_of_rest (b ∷ text) (suc d) n = let e : suc d + n ≡ suc (d + n) = omega arith in rw e (ap (λ t. b ∷ t) (front_of_rest text d n))

-- the same where the rest is cut at its own length
front_more : (text : List ℕ) (d n : ℕ) → d ≤ length text → take d text ++ take n (take (length text - d) (drop d text)) ≡ take (d + n) text
front_more text d n h =
    let whole : take (length text - d) (drop d text) ≡ drop d text = grind (arith, common_steps) in
    rw whole (front_of_rest text d n)

-- what was taken before and what was taken then
pub takes_more : (first old new : Stream) (text piece : List ℕ) (d n : ℕ) → old.told ≡ first.told → d ≤ length text → piece ≡ take (length text - d) (drop d text) → Takes first old (take d text) → Takes old new (take n piece) → Takes first new (take (d + n) text)
takes_more first old new text piece d n same h e before then told =
    let there : IsTrue old.told = rw same told in
    then there ∙ rw e (rw (before told) (append_assoc first.bytes (take d text) (take n (take (length text - d) (drop d text))) ∙ ap (λ t. first.bytes ++ t) (front_more text d n h)))

-- what was given before and what was given then
pub gives_more : (first old new : Stream) (x y : List ℕ) → old.told ≡ first.told → GivesFront first old x → GivesFront old new y → GivesFront first new (x ++ y)
gives_more first old new x y same before then told =
    let there : IsTrue old.told = rw same told in
    before told ∙ ap (λ t. x ++ t) (then there) ∙ sym (append_assoc x y new.bytes)

-- nothing is two parts that are nothing
none_later : (y z : List ℕ) → [] ≡ y ++ z → z ≡ []
none_later [] z e = sym e
none_later (b ∷ y) z e = cc

-- a source that had nothing has nothing
pub gives_nothing : (old new : Stream) (y : List ℕ) → IsTrue old.told → old.bytes ≡ [] → GivesFront old new y → new.bytes ≡ []
gives_nothing old new y told none given = none_later y new.bytes (sym none ∙ given told)

-- so many bytes were given, so the source had so many
pub gave_length : (old new : Stream) (x : List ℕ) (n : ℕ) → IsTrue old.told → n ≤ length x → GivesFront old new x → n ≤ length old.bytes
gave_length old new x n told h given = rw (given told) (simp length-append (omega arith))
