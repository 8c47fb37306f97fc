-- The flags of places.
use Rattle.std.proofs.Common.{◌≡◌, ℕ, ◌+◌, Bool, false, List, [], ◌∷◌, ◌++◌, replicate, length, get_or, ap, ◌∙◌}
use Rattle.std.proofs.lemmas.List.{replicate-append-replicate, length-replicate, get_or-replicate}
use Rattle.zc_num.specs.Limits.{total_of}
use Rattle.zc_image.specs.Seen.{Knows}

-- one more flag that isn't set
pub one_more_flag : (n : ℕ) → replicate n false ++ false ∷ [] ≡ replicate (n + 1) false
one_more_flag n = replicate-append-replicate n 1 false

-- flags of which none is set know no place
pub knows_none : (devices places : ℕ) (flags : List Bool) → flags ≡ replicate (total_of devices places) false → Knows devices places flags []
knows_none devices places flags e = record {
  whole = ap length e ∙ length-replicate (total_of devices places) false;
  exact = λ number there. ap (λ (l : List Bool). get_or l number false) e ∙ get_or-replicate (total_of devices places) number false false there;
}
