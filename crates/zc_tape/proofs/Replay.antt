-- The image that the entries of a tape leave, entry by entry.
use Rattle.std.proofs.Common.{◌≡◌, ℕ, ◌+◌, ◌<◌, Bool, true, false, List, [], ◌∷◌, ◌++◌, length, map, take, get_or, refl, ap, sym, ◌∙◌, ◌⊎◌, inl, inr, arith}
use Rattle.std.specs.List.{list_all}
use Rattle.std.proofs.lemmas.Bool.{true≢false, cases_Bool}
use Rattle.std.proofs.lemmas.List.Folds.{list_all_at, list_all-append}
use Rattle.std.proofs.lemmas.Grind.{common_steps, take_at_read}
use Rattle.zc_tape.specs.declared.entry.Entry.{Entry}
use Rattle.zc_tape.specs.Blocks.{made_of, is_there, image_after}
use Rattle.zc_tape.specs.Tape.{Image, Call, Write, Sync}
use Rattle.zc_tape.specs.Crash.{Held, held, held_after}
use Rattle.zc_tape.proofs.HeldLaws.{held_push}

-- the bytes after one more call
pub now_after : (h : Held) (call : Call) (ok : Bool) → (held_after h call ok).now ≡ image_after h.now (record { call = call; ok = ok })
now_after h (Write device place bytes) true = refl
now_after h (Write device place bytes) false = refl
now_after h Sync true = refl
now_after h Sync false = refl

-- the bytes after one more entry
pub now_push : (start : Image) (entries : List Entry) (e : Entry)
    → (held start (map made_of (entries ++ e ∷ []))).now ≡ image_after (held start (map made_of entries)).now (made_of e)
now_push start entries e =
    let pushed : map made_of (entries ++ e ∷ []) ≡ map made_of entries ++ made_of e ∷ [] = grind (arith, common_steps) in
    ap (λ calls. (held start calls).now) pushed
    ∙ ap (λ h. h.now) (held_push start (map made_of entries) (made_of e))
    ∙ now_after (held start (map made_of entries)) (made_of e).call (made_of e).ok

-- the bytes after the first entries and the next
pub now_next : (start : Image) (entries : List Entry) (i : ℕ) (e : Entry) → i < length entries → e ≡ get_or entries i e
    → (held start (map made_of (take (i + 1) entries))).now ≡ image_after (held start (map made_of (take i entries))).now (made_of e)
now_next start entries i e h is =
    let more : take (i + 1) entries ≡ take i entries ++ e ∷ [] = (take_at_read entries i e h).1 ∙ ap (λ x. take i entries ++ x ∷ []) (sym is) in
    ap (λ xs. (held start (map made_of xs)).now) more ∙ now_push start (take i entries) e

-- an entry of a list that passes is there
pub there_at : (devices places : ℕ) (entries : List Entry) (i : ℕ) (e : Entry) → list_all (is_there devices places) entries ≡ true
    → i < length entries → e ≡ get_or entries i e → is_there devices places e ≡ true
there_at devices places entries i e all h is =
    there (cases_Bool (is_there devices places e)) where
      there : (is_there devices places e ≡ true) ⊎ (is_there devices places e ≡ false) → is_there devices places e ≡ true
      there (inl t) = t
      there (inr f) = absurd (true≢false (sym all ∙ list_all_at (is_there devices places) entries i e h (rw (← is) f)))

-- one more entry that is there
pub there_push : (devices places : ℕ) (entries : List Entry) (e : Entry) → list_all (is_there devices places) entries ≡ true
    → is_there devices places e ≡ true → list_all (is_there devices places) (entries ++ e ∷ []) ≡ true
there_push devices places entries e all one = list_all-append (is_there devices places) entries (e ∷ []) ∙ rw (all, one)
