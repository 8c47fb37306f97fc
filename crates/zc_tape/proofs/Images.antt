-- The image that blocks in memory stand for.
use Rattle.std.proofs.Common.{◌≡◌, ◌≢◌, ℕ, ◌+◌, ◌*◌, ◌<◌, ◌≤◌, ◌⊎◌, true, false, List, length, set, get_or, replicate, ap, ap₂, sym, ◌∙◌, inl, inr, arith}
use Rattle.std.proofs.lemmas.Bool.{true≢false, cases_lt, lt-ltb, le-ltb, cases_Bool}
use Rattle.std.proofs.lemmas.List.{get_or-set_same, get_or-set_other, get_or-replicate, get_or_default}
use Rattle.std.proofs.lemmas.Nat.{same_from_place}
use Rattle.std.proofs.Math.ListN.{get_or-eq_default}
use Rattle.std.proofs.lemmas.List.{length-replicate}
use Rattle.zc_tape.specs.Blocks.{zeros, image}
use Rattle.zc_tape.specs.Tape.{is_at, with_bytes, filled_with}
use Rattle.zc_tape.proofs.Places.{same_image, with_bytes_there, with_bytes_elsewhere, is_at_means, is_at_here}

-- a place that is there has its block
pub image_there : (places : ℕ) (blocks : List (List ℕ)) (d p : ℕ) → p < places → image places blocks d p ≡ get_or blocks (d * places + p) zeros
unfolding image
image_there places blocks d p h = rw (lt-ltb p places h)

-- what is read of the blocks at a place that is there
pub image_read : (places : ℕ) (blocks : List (List ℕ)) (d p i : ℕ) (other : List ℕ) → p < places → i ≡ d * places + p → i < length blocks
    → get_or blocks i other ≡ image places blocks d p
image_read places blocks d p i other there at within =
    get_or_default blocks i other zeros within ∙ ap (λ k. get_or blocks k zeros) at ∙ sym (image_there places blocks d p there)

-- a place that isn't there has zeros
pub image_elsewhere : (places : ℕ) (blocks : List (List ℕ)) (d p : ℕ) → places ≤ p → image places blocks d p ≡ zeros
unfolding image
image_elsewhere places blocks d p h = rw (le-ltb p places h)

-- blocks of zeros are an image of zeros
pub image_zeros : (places count : ℕ) → image places (replicate count zeros) ≡ filled_with zeros
image_zeros places count = same_image (image places (replicate count zeros)) (filled_with zeros) (λ d p. each d p (cases_lt p places)) where
  each : (d p : ℕ) → (p < places) ⊎ (places ≤ p) → image places (replicate count zeros) d p ≡ zeros
  each d p (inr h) = image_elsewhere places (replicate count zeros) d p h
  each d p (inl h) = image_there places (replicate count zeros) d p h ∙ (elim (cases_lt (d * places + p) count) [
    | inl below ↦ get_or-replicate count (d * places + p) zeros zeros below
    | inr past ↦ get_or-eq_default (replicate count zeros) zeros (omega (arith, length-replicate count zeros))
  ])

-- a block that is set puts its bytes into its place
pub image_set : (places : ℕ) (blocks : List (List ℕ)) (device place : ℕ) (bytes : List ℕ) → place < places → device * places + place < length blocks
    → image places (set blocks (device * places + place) bytes) ≡ with_bytes (image places blocks) device place bytes
image_set places blocks device place bytes there within = same_image (image places after) (with_bytes (image places blocks) device place bytes) (λ d p. each d p (cases_Bool (is_at device place d p))) where
  after : List (List ℕ)
  after = set blocks (device * places + place) bytes

  elsewhere : (d p : ℕ) → is_at device place d p ≡ false → (p < places) ⊎ (places ≤ p) → image places after d p ≡ image places blocks d p
  elsewhere d p e (inr h) = image_elsewhere places after d p h ∙ sym (image_elsewhere places blocks d p h)
  elsewhere d p e (inl h) =
      let other : d * places + p ≢ device * places + place =
      (λ same. let at : (d ≡ device) × (p ≡ place) = same_from_place d p device place places h there same
      in true≢false (sym (rw (← at.0, ← at.1) (is_at_here d p)) ∙ e))
      in image_there places after d p h ∙ get_or-set_other blocks (device * places + place) (d * places + p) bytes zeros other ∙ sym (image_there places blocks d p h)

  each : (d p : ℕ) → (is_at device place d p ≡ true) ⊎ (is_at device place d p ≡ false) → image places after d p ≡ with_bytes (image places blocks) device place bytes d p
  each d p (inl e) =
      let at : (device ≡ d) × (place ≡ p) = is_at_means device place d p e
      in sym (ap₂ (image places after) at.0 at.1) ∙ image_there places after device place there ∙ get_or-set_same blocks (device * places + place) bytes zeros within ∙ sym (with_bytes_there (image places blocks) device place bytes d p e)
  each d p (inr e) = elsewhere d p e (cases_lt p places) ∙ sym (with_bytes_elsewhere (image places blocks) device place bytes d p e)
