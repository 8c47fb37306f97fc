-- The pieces of a text between separators, `pieces_between separator text`.
use Rattle.std.proofs.Common.{◌≡◌, ℕ, zero, suc, ◌+◌, true, false, not, ◌==◌, List, [], ◌∷◌, ◌++◌, take, drop, Some, None, IsTrue, refl, ◌∙◌, ap, ⊎_elim, arith}
use Rattle.std.specs.List.{onto_first}
use Rattle.std.proofs.lemmas.Bool.{cases_Bool, eq-eqb, not-true, and_parts}
use Rattle.std.proofs.lemmas.List.Splits.{slice_split-cons_yes, slice_split-cons_no}
use Rattle.zc_num.proofs.Found.{found_is_first}
use Rattle.zc_num.proofs.Pieces.{lacks_from_none}
use Rattle.zc_num.specs.Words.{found_from, lacks}
use Rattle.zc_script.specs.Words.{pieces_between, one_of, two_of, three_of, four_of}

-- a text that lacks the separator is one piece
pub pieces_lacking : (separator : ℕ) (text : List ℕ) → IsTrue (lacks separator text) → pieces_between separator text ≡ text ∷ []
pieces_lacking separator [] whole = refl
pieces_lacking separator (byte ∷ text) whole =
    let parts = and_parts (not (byte == separator)) (lacks separator text) whole in
    slice_split-cons_no (λ b. b == separator) byte text (not-true (byte == separator) parts.0)
    ∙ ap (onto_first byte) (pieces_lacking separator text parts.1)

-- a text that begins with a whole piece has that piece first, and then those of the rest
pub pieces_before : (separator : ℕ) (piece rest : List ℕ) → IsTrue (lacks separator piece) → pieces_between separator (piece ++ separator ∷ rest) ≡ piece ∷ pieces_between separator rest
pieces_before separator [] rest whole = slice_split-cons_yes (λ b. b == separator) separator rest (eq-eqb separator separator refl)
pieces_before separator (byte ∷ piece) rest whole =
    let parts = and_parts (not (byte == separator)) (lacks separator piece) whole in
    slice_split-cons_no (λ b. b == separator) byte (piece ++ separator ∷ rest) (not-true (byte == separator) parts.0)
    ∙ ap (onto_first byte) (pieces_before separator piece rest parts.1)

-- where no separator is found, the text is one piece
pub pieces_not_found : (separator k : ℕ) (text : List ℕ) → found_from (λ byte. byte == separator) k text ≡ None → pieces_between separator text ≡ text ∷ []
pieces_not_found separator k text missing = pieces_lacking separator text (lacks_from_none separator k text missing)

-- where the first separator is found, it ends the first piece
pub pieces_found : (separator k index : ℕ) (text : List ℕ) → found_from (λ byte. byte == separator) k text ≡ Some (k + index) → pieces_between separator text ≡ take index text ∷ pieces_between separator (drop (index + 1) text)
pieces_found separator k index [] found = cc
pieces_found separator k zero (byte ∷ text) found =
    ⊎_elim
    (λ (ends : (byte == separator) ≡ true). slice_split-cons_yes (λ b. b == separator) byte text ends)
    (λ (other : (byte == separator) ≡ false).
    let there : found_from (λ b. b == separator) (k + 1) text ≡ Some (k + 0) = rw other at found in
    let first = found_is_first (λ b. b == separator) (k + 1) text (k + 0) there in
    absurd (omega (arith, first.from)))
    (cases_Bool (byte == separator))
pieces_found separator k (suc index) (byte ∷ text) found =
    ⊎_elim
    (λ (ends : (byte == separator) ≡ true).
    let here : Some k ≡ Some (k + suc index) = rw ends at found in
    let same : k ≡ k + suc index = cc in
    absurd (omega arith))
    (λ (other : (byte == separator) ≡ false).
    let there : found_from (λ b. b == separator) (k + 1) text ≡ Some (k + suc index) = rw other at found in
    let further : k + suc index ≡ k + 1 + index = omega arith in
    let rest = pieces_found separator (k + 1) index text (there ∙ ap Some further) in
    let next : suc index + 1 ≡ suc (index + 1) = omega arith in
    rw next (slice_split-cons_no (λ b. b == separator) byte text other ∙ ap (onto_first byte) rest))
    (cases_Bool (byte == separator))

-- every text has a piece
pub pieces_begin : (separator : ℕ) (text : List ℕ) → (first : List ℕ) × (rest : List (List ℕ)) × (pieces_between separator text ≡ first ∷ rest)
pieces_begin separator [] = ([], [], refl)
pieces_begin separator (byte ∷ text) =
    ⊎_elim
    (λ (ends : (byte == separator) ≡ true).
    ([], pieces_between separator text, slice_split-cons_yes (λ b. b == separator) byte text ends))
    (λ (other : (byte == separator) ≡ false).
    let tail = pieces_begin separator text in
    (byte ∷ tail.0, tail.1, slice_split-cons_no (λ b. b == separator) byte text other ∙ ap (onto_first byte) tail.2))
    (cases_Bool (byte == separator))

-- a piece and those of another text are more than one
pub one_of_more : (separator : ℕ) (piece text : List ℕ) → one_of (piece ∷ pieces_between separator text) ≡ None
one_of_more separator piece text =
    let tail = pieces_begin separator text in
    rw tail.2

-- the lists of which `one_of`, `two_of`, `three_of` and `four_of` give the items
pub one_is : {X : Type 0} (xs : List X) (x : X) → one_of xs ≡ Some x → xs ≡ x ∷ []
one_is [] x h = cc
one_is (a ∷ []) x h = cc
one_is (a ∷ b ∷ rest) x h = cc

pub two_is : {X : Type 0} (xs : List X) (pair : X × X) → two_of xs ≡ Some pair → xs ≡ pair.0 ∷ pair.1 ∷ []
two_is [] pair h = cc
two_is (a ∷ []) pair h = cc
two_is (a ∷ b ∷ []) pair h = let same : (a, b) ≡ pair = cc in rw (← same)
two_is (a ∷ b ∷ c ∷ rest) pair h = cc

pub three_is : {X : Type 0} (xs : List X) (items : X × X × X) → three_of xs ≡ Some items → xs ≡ items.0 ∷ items.1 ∷ items.2 ∷ []
three_is [] items h = cc
three_is (a ∷ []) items h = cc
three_is (a ∷ b ∷ []) items h = cc
three_is (a ∷ b ∷ c ∷ []) items h = let same : (a, b, c) ≡ items = cc in rw (← same)
three_is (a ∷ b ∷ c ∷ d ∷ rest) items h = cc

pub four_is : {X : Type 0} (xs : List X) (items : X × X × X × X) → four_of xs ≡ Some items → xs ≡ items.0 ∷ items.1 ∷ items.2 ∷ items.3 ∷ []
four_is [] items h = cc
four_is (a ∷ []) items h = cc
four_is (a ∷ b ∷ []) items h = cc
four_is (a ∷ b ∷ c ∷ []) items h = cc
four_is (a ∷ b ∷ c ∷ d ∷ []) items h = let same : (a, b, c, d) ≡ items = cc in rw (← same)
four_is (a ∷ b ∷ c ∷ d ∷ e ∷ rest) items h = cc
