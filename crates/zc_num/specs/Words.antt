-- Lists by index, and texts by pieces: the words that definitions of the store are made of.
use Rattle.std.specs.Prelude.{ℕ, zero, suc, Bool, not, if◌then◌else◌, ◌==◌, List, [], ◌∷◌, map, Option}
use Rattle.std.specs.List.{range_with_len, position_from, list_all}

-- the list of n items whose item k is f k
unfoldable pub each : {X : Type 0} → ℕ → (ℕ → X) → List X
each n f = map f (range_with_len 0 n)

-- the list with f of its item in the place of the item at `index`; one that is too short stays as it is
abbrev pub change_at : {X : Type 0} → (X → X) → ℕ → List X → List X
change_at f index [] = []
change_at f zero (x ∷ xs) = f x ∷ xs
change_at f (suc index) (x ∷ xs) = x ∷ change_at f index xs

-- the index of the first item that passes the test, where the first of the list has the index k
abbrev pub found_from : {X : Type 0} → (X → Bool) → ℕ → List X → Option ℕ
found_from test k xs = position_from test k xs

-- no byte of the text is this one
abbrev pub lacks : ℕ → List ℕ → Bool
lacks separator bytes = list_all (λ byte. not (byte == separator)) bytes

-- the pieces with the byte put in front of the first; without a piece, the byte alone is one
abbrev pub onto_first : ℕ → List (List ℕ) → List (List ℕ)
onto_first byte [] = (byte ∷ []) ∷ []
onto_first byte (piece ∷ pieces) = (byte ∷ piece) ∷ pieces

-- the pieces of a text of which a separator ends each; the bytes after the last separator are a piece where there are some
unfoldable pub pieces_ended_by : ℕ → List ℕ → List (List ℕ)
pieces_ended_by separator [] = []
pieces_ended_by separator (byte ∷ bytes) =
    if byte == separator then [] ∷ pieces_ended_by separator bytes else onto_first byte (pieces_ended_by separator bytes)
