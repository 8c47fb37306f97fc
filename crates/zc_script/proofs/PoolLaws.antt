-- The pool that a name finds.
use Rattle.std.proofs.Common.{◌≡◌, ℕ, ◌^◌, ◌<◌, Bool, true, false, nat_lt, List, get_or, slice_get, Option, Some, None, position, refl, ◌∙◌, ap, cond}
use Rattle.std.specs.Prelude.{option_and_then}
use Rattle.std.specs.Str.{bytes_eq}
use Rattle.std.proofs.lemmas.Bool.{ltb-true}
use Rattle.std.proofs.lemmas.Option.{cond_some, slice_get-get_or}
use Rattle.std.proofs.lemmas.List.Quantifiers.{position-Some}
use Rattle.std.proofs.lemmas.Slice.Eq.{bytes_eq-Decides}
use Rattle.zc_script.specs.Pools.{only_if, is_pool_name, pool_at}

-- the pool at an index, of this name, whose index fits 32 bits
pub record IsFound (pools : List (List ℕ)) (name : List ℕ) (at : ℕ) : Type 0 where
  pub named : is_pool_name name ≡ true
  pub there : slice_get pools at ≡ Some name
  pub narrow : at < 2 ^ 32

-- the parts of an answer
parts_of : (test : Bool) (place : Option ℕ) (at : ℕ) → cond test (option_and_then (λ (k : ℕ). only_if (nat_lt k (2 ^ 32)) k) place) None ≡ Some at → (test ≡ true) × (place ≡ Some at) × (nat_lt at (2 ^ 32) ≡ true)
parts_of true (Some k) at h =
    let found = cond_some (nat_lt k (2 ^ 32)) k at h in
    let same = found.1 in
    (refl, ap Some same, rw same at found.0)
parts_of true None at h = cc h
parts_of false place at h = cc h

-- a pool that is found stands there
pub pool_is_there : (pools : List (List ℕ)) (name : List ℕ) (at : ℕ) → pool_at pools name ≡ Some at → IsFound pools name at
unfolding pool_at
pool_is_there pools name at h =
    let parts = parts_of (is_pool_name name) (position (λ pool. bytes_eq pool name) pools) at h in
    let first = position-Some (λ pool. bytes_eq pool name) pools at name parts.1 in
    let same = (bytes_eq-Decides (get_or pools at name) name).0 first.1 in record {
      named = parts.0;
      there = slice_get-get_or pools at name first.0 ∙ ap Some same;
      narrow = ltb-true at (2 ^ 32) parts.2;
    }
