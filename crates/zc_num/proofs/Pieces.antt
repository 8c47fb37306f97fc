-- The pieces of a text that separators end, `pieces_ended_by separator bytes`.
use Rattle.std.proofs.Common.{◌≡◌, ℕ, zero, suc, ◌+◌, ◌<◌, true, false, not, ◌==◌, List, [], ◌∷◌, ◌++◌, length, take, drop, Some, None, IsTrue, refl, ◌∙◌, ap, ⊎_elim, arith}
use Rattle.std.proofs.lemmas.Bool.{cases_Bool, eq-eqb, not-true, and_parts, and_from}
use Rattle.zc_num.proofs.Found.{found_is_first}
use Rattle.zc_num.specs.Words.{pieces_ended_by, onto_first, found_from, lacks}

-- where the byte is not found, the text lacks it
pub lacks_from_none : (separator k : ℕ) (bytes : List ℕ) → found_from (λ byte. byte == separator) k bytes ≡ None → IsTrue (lacks separator bytes)
lacks_from_none separator k [] missing = refl
lacks_from_none separator k (byte ∷ bytes) missing =
    ⊎_elim
    (λ (found : (byte == separator) ≡ true).
    let here : Some k ≡ None = rw found at missing in
    cc)
    (λ (other : (byte == separator) ≡ false).
    let there : found_from (λ byte. byte == separator) (k + 1) bytes ≡ None = rw other at missing in
    and_from (not (byte == separator)) (lacks separator bytes) (ap not other) (lacks_from_none separator (k + 1) bytes there))
    (cases_Bool (byte == separator))

-- two texts that lack a byte lack it together
pub lacks_append : (separator : ℕ) (front back : List ℕ) → IsTrue (lacks separator front) → IsTrue (lacks separator back) → IsTrue (lacks separator (front ++ back))
lacks_append separator [] back front_lacks back_lacks = back_lacks
lacks_append separator (byte ∷ front) back front_lacks back_lacks =
    let parts = and_parts (not (byte == separator)) (lacks separator front) front_lacks in
    and_from (not (byte == separator)) (lacks separator (front ++ back)) parts.0 (lacks_append separator front back parts.1 back_lacks)

-- a text without a byte has no piece
pub pieces_of_nothing : (separator : ℕ) → pieces_ended_by separator [] ≡ []
unfolding pieces_ended_by
pieces_of_nothing separator = refl

-- a text that begins with the separator has an empty piece first
pub pieces_at_separator : (separator byte : ℕ) (bytes : List ℕ) → (byte == separator) ≡ true → pieces_ended_by separator (byte ∷ bytes) ≡ [] ∷ pieces_ended_by separator bytes
unfolding pieces_ended_by
pieces_at_separator separator byte bytes ends = rw ends

-- any other byte stands in the first piece
pub pieces_at_other : (separator byte : ℕ) (bytes : List ℕ) → (byte == separator) ≡ false → pieces_ended_by separator (byte ∷ bytes) ≡ onto_first byte (pieces_ended_by separator bytes)
unfolding pieces_ended_by
pieces_at_other separator byte bytes other = rw other

-- a text that begins with a whole piece has that piece first, and then those of the rest
pub pieces_first : (separator : ℕ) (piece rest : List ℕ) → IsTrue (lacks separator piece) → pieces_ended_by separator (piece ++ separator ∷ rest) ≡ piece ∷ pieces_ended_by separator rest
pieces_first separator [] rest whole = pieces_at_separator separator separator rest (eq-eqb separator separator refl)
pieces_first separator (byte ∷ piece) rest whole =
    let parts = and_parts (not (byte == separator)) (lacks separator piece) whole in
    pieces_at_other separator byte (piece ++ separator ∷ rest) (not-true (byte == separator) parts.0)
    ∙ ap (onto_first byte) (pieces_first separator piece rest parts.1)

-- a text that has bytes and no separator is one piece
pub pieces_last : (separator byte : ℕ) (bytes : List ℕ) → IsTrue (lacks separator (byte ∷ bytes)) → pieces_ended_by separator (byte ∷ bytes) ≡ (byte ∷ bytes) ∷ []
pieces_last separator byte [] whole =
    let parts = and_parts (not (byte == separator)) true whole in
    pieces_at_other separator byte [] (not-true (byte == separator) parts.0) ∙ ap (onto_first byte) (pieces_of_nothing separator)
pieces_last separator byte (next ∷ bytes) whole =
    let parts = and_parts (not (byte == separator)) (lacks separator (next ∷ bytes)) whole in
    pieces_at_other separator byte (next ∷ bytes) (not-true (byte == separator) parts.0)
    ∙ ap (onto_first byte) (pieces_last separator next bytes parts.1)

-- where the first separator is found, it ends the first piece
pub pieces_found : (separator k index : ℕ) (bytes : List ℕ) → found_from (λ byte. byte == separator) k bytes ≡ Some (k + index) → pieces_ended_by separator bytes ≡ take index bytes ∷ pieces_ended_by separator (drop (index + 1) bytes)
pieces_found separator k index [] found = cc
pieces_found separator k zero (byte ∷ bytes) found =
    ⊎_elim
    (λ (ends : (byte == separator) ≡ true). pieces_at_separator separator byte bytes ends)
    (λ (other : (byte == separator) ≡ false).
    let there : found_from (λ byte. byte == separator) (k + 1) bytes ≡ Some (k + 0) = rw other at found in
    let first = found_is_first (λ byte. byte == separator) (k + 1) bytes (k + 0) there in
    absurd (omega (arith, first.from)))
    (cases_Bool (byte == separator))
pieces_found separator k (suc index) (byte ∷ bytes) found =
    ⊎_elim
    (λ (ends : (byte == separator) ≡ true).
    let here : Some k ≡ Some (k + suc index) = rw ends at found in
    let same : k ≡ k + suc index = cc in
    absurd (omega arith))
    (λ (other : (byte == separator) ≡ false).
    let there : found_from (λ byte. byte == separator) (k + 1) bytes ≡ Some (k + suc index) = rw other at found in
    let further : k + suc index ≡ k + 1 + index = omega arith in
    let rest = pieces_found separator (k + 1) index bytes (there ∙ ap Some further) in
    let next : suc index + 1 ≡ suc (index + 1) = omega arith in
    rw next (pieces_at_other separator byte bytes other ∙ ap (onto_first byte) rest))
    (cases_Bool (byte == separator))

-- where no separator is found, a text that has bytes is one piece
pub pieces_not_found : (separator k : ℕ) (bytes : List ℕ) → found_from (λ byte. byte == separator) k bytes ≡ None → 0 < length bytes → pieces_ended_by separator bytes ≡ bytes ∷ []
pieces_not_found separator k [] missing some = absurd (omega arith)
pieces_not_found separator k (byte ∷ bytes) missing some = pieces_last separator byte bytes (lacks_from_none separator k (byte ∷ bytes) missing)
