-- Parts of bytes are bytes, and a front of known length is the same front.
use Rattle.std.proofs.Common.{◌≡◌, ℕ, ◌+◌, ◌-◌, ◌<◌, List, ◌++◌, length, take, drop, refl, sym, ap, subst, ◌∙◌, arith, inl, inr, lit<}
use Rattle.std.proofs.lemmas.Bool.{cases_lt}
use Rattle.std.proofs.lemmas.List.{take_at, drop_at, get_or-take, get_or-drop, get_or_past, length-take, get_or_append_left, get_or-append_right}
use Rattle.zc_wire.specs.Numbers.{IsBytes}

abbrev IsByte : ℕ → Type 0
IsByte byte = byte < 256

-- the bytes of a back are bytes
pub bytes_dropped : (n : ℕ) (bytes : List ℕ) → IsBytes bytes → IsBytes (drop n bytes)
bytes_dropped n bytes fits index = subst IsByte (sym (get_or-drop n bytes index 0)) (fits (n + index))

-- the bytes of a front are bytes
pub bytes_taken : (n : ℕ) (bytes : List ℕ) → IsBytes bytes → IsBytes (take n bytes)
bytes_taken n bytes fits index =
    elim (cases_lt index n) [
      | inl lt ↦ subst IsByte (sym (get_or-take n bytes index 0 lt)) (fits index)
      | inr le ↦ subst IsByte (sym (get_or_past (take n bytes) index 0 (omega (arith, length-take n bytes)))) (lit< tt)
    ]

-- bytes after bytes are bytes
pub bytes_joined : (front back : List ℕ) → IsBytes front → IsBytes back → IsBytes (front ++ back)
bytes_joined front back front_fits back_fits index =
    elim (cases_lt index (length front)) [
      | inl lt ↦ subst IsByte (sym (get_or_append_left front back 0 index lt)) (front_fits index)
      | inr le ↦ subst IsByte (sym (get_or-append_right front back (length front) index 0 refl le)) (back_fits (index - length front))
    ]

-- where two fronts of one length begin the same bytes, they are one front, and their backs are one back
pub fronts_agree : (n : ℕ) (front other back other_back : List ℕ) → length front ≡ n → length other ≡ n → front ++ back ≡ other ++ other_back → (front ≡ other) × (back ≡ other_back)
fronts_agree n front other back other_back len other_len same = (
  sym (take_at front back n len) ∙ ap (take n) same ∙ take_at other other_back n other_len,
  sym (drop_at front back n len) ∙ ap (drop n) same ∙ drop_at other other_back n other_len,
)
