-- Which bytes stand in the words of a line.
use Rattle.std.proofs.Common.{◌≡◌, ℕ, Bool, true, false, not, ◌==◌, List, [], ◌∷◌, ◌++◌, refl, sym, ◌∙◌, ⊎_elim}
use Rattle.std.specs.List.{list_all}
use Rattle.std.proofs.lemmas.Bool.{cases_Bool, eqb-true, and_parts, and_from, false≢true}
use Rattle.std.proofs.lemmas.List.Folds.{list_all-append}
use Rattle.zc_num.specs.Words.{lacks}

-- a byte that passes a test that another fails is not that one
pub other_byte : (test : ℕ → Bool) (separator byte : ℕ) → test separator ≡ false → test byte ≡ true → not (byte == separator) ≡ true
other_byte test separator byte fails passes =
    ⊎_elim
    (λ (same : (byte == separator) ≡ true).
    let is = eqb-true byte separator same in
    absurd (false≢true (sym fails ∙ (rw is at passes))))
    (λ (other : (byte == separator) ≡ false). rw other)
    (cases_Bool (byte == separator))

-- bytes that all pass a test that the separator fails lack it
pub lacks_from_all : (test : ℕ → Bool) (separator : ℕ) (bytes : List ℕ) → test separator ≡ false → list_all test bytes ≡ true → lacks separator bytes ≡ true
lacks_from_all test separator [] fails all = refl
lacks_from_all test separator (byte ∷ bytes) fails all =
    let parts = and_parts (test byte) (list_all test bytes) all in
    and_from (not (byte == separator)) (lacks separator bytes) (other_byte test separator byte fails parts.0)
    (lacks_from_all test separator bytes fails parts.1)

-- bytes that all pass a test pass a weaker one
pub all_weaker : (test weaker : ℕ → Bool) → ((byte : ℕ) → test byte ≡ true → weaker byte ≡ true) → (bytes : List ℕ) → list_all test bytes ≡ true → list_all weaker bytes ≡ true
all_weaker test weaker implies [] all = refl
all_weaker test weaker implies (byte ∷ bytes) all =
    let parts = and_parts (test byte) (list_all test bytes) all in
    and_from (weaker byte) (list_all weaker bytes) (implies byte parts.0) (all_weaker test weaker implies bytes parts.1)

-- two texts that pass, one after the other
pub all_append : (test : ℕ → Bool) (front back : List ℕ) → list_all test front ≡ true → list_all test back ≡ true → list_all test (front ++ back) ≡ true
all_append test front back one two = list_all-append test front back ∙ and_from (list_all test front) (list_all test back) one two
