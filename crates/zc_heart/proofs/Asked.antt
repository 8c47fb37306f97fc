-- What the tests of a command leave for what is then done.
use Rattle.std.proofs.Common.{◌≡◌, ℕ, zero, suc, ◌+◌, ◌-◌, ◌^◌, ◌<◌, ◌≤◌, ◌&&◌, nat_lt, Bool, true, false, List, [], ◌∷◌, length, drop, Some, Result, Ok, Err, refl, sym, ap, ◌∙◌, arith}
use Rattle.std.specs.Prelude.{slice_get}
use Rattle.std.specs.List.{list_all}
use Rattle.std.proofs.lemmas.Bool.{ltb-true, ltb-false}
use Rattle.std.proofs.lemmas.List.{length-map}
use Rattle.zc_command.specs.declared.refusal.What.TheVariants as what
use Rattle.zc_command.specs.declared.refusal.Refusal.{Refusal}
use Rattle.zc_command.specs.declared.refusal.Refusal.TheVariants.{Efbig, Enospc}
use Rattle.zc_plain.specs.declared.plain_pool.PlainDataset.{PlainDataset}
use Rattle.zc_plain.specs.IsPlain.{StandsAt, AreNextUpTo}
use Rattle.zc_plain.specs.Answer.{◌>>=◌, refuse_if, refuse_end, most_bytes, most_charge}
use Rattle.zc_plain.proofs.NumberedLaws.{one_item, no_item}
use Rattle.zc_heart.specs.declared.dataset.Spot.{Spot}
use Rattle.zc_heart.specs.declared.pool_core.HeartDataset.{HeartDataset}
use Rattle.zc_heart.specs.declared.pool_core.WaitingGroup.{WaitingGroup}
use Rattle.zc_heart.specs.declared.pool_core.Core.{Core}
use Rattle.zc_heart.specs.Core.{plain_file, plain_dataset, pool_of, charge, IsCore}
use Rattle.zc_heart.specs.Deeds.{room_in_file, refuse_charge}
use Rattle.zc_heart.proofs.Listing.{stood_in_map}
use Rattle.zc_heart.proofs.Spots.{dataset_is_plain}

-- ---- tests that passed

passed_if : (test : Bool) (refusal : Refusal) → refuse_if test refusal ≡ Ok tt → test ≡ false
passed_if true refusal is = cc
passed_if false refusal is = refl

first_passed : {A : Type 0} (test : Result (Unit {0}) Refusal) (next : Result A Refusal) (x : A) → (test >>= (λ _. next)) ≡ Ok x → test ≡ Ok tt
first_passed (Ok done) next x is = refl
first_passed (Err refusal) next x is = cc

-- the file ends within its limit
pub end_within : (end : ℕ) (core : Core) → refuse_end end (pool_of core) ≡ Ok tt → end ≤ most_bytes (pool_of core)
end_within end core passed = ltb-false (most_bytes (pool_of core)) end (passed_if (nat_lt (most_bytes (pool_of core)) end) (Efbig end (most_bytes (pool_of core))) passed)

pub room_ends : (offset len : ℕ) (spot : Spot) (core : Core) → room_in_file offset len spot core ≡ Ok tt → offset + len ≤ most_bytes (pool_of core)
unfolding room_in_file
room_ends offset len spot core passed = end_within (offset + len) core (first_passed (refuse_end (offset + len) (pool_of core)) _ tt passed)

-- the pool isn't charged too much
pub charge_within : (more : ℕ) (core : Core) → refuse_charge more core ≡ Ok tt → charge core + more ≤ most_charge (pool_of core)
unfolding refuse_charge
charge_within more core passed =
    ltb-false (most_charge (pool_of core)) (charge core + more)
    (passed_if (nat_lt (most_charge (pool_of core)) (charge core + more)) (Enospc what.Charge (charge core + more) (most_charge (pool_of core))) passed)

-- ---- how many there are

pub few_datasets : (core : Core) → IsCore core → length core.datasets ≤ 8
few_datasets core is = let long = length-map core.datasets plain_dataset in omega (arith, long, is.plain.few)

pub few_files : (core : Core) (place : ℕ) (dataset : HeartDataset) → IsCore core → StandsAt core.datasets place dataset → length dataset.files ≤ 131072
few_files core place dataset is stands =
    let plain = dataset_is_plain core place dataset is.plain stands in
    let long = length-map dataset.files plain_file in
    omega (arith, long, plain.few, core.limits.are_limits.few_places)

-- ---- what may be given and taken in

both : (a b : Bool) → (a && b) ≡ true → (a ≡ true) × (b ≡ true)
both true true all = (refl, refl)
both true false all = cc
both false b all = cc

-- the item at a place passes a test that each passes
passes_there : {X : Type 0} (test : X → Bool) (xs : List X) (at : ℕ) (x : X) → list_all test xs ≡ true → StandsAt xs at x → test x ≡ true
passes_there test [] at x all stands = no_item x stands
passes_there test (y ∷ xs) zero x all stands = ap test (sym (one_item y x stands)) ∙ (both (test y) (list_all test xs) all).0
passes_there test (y ∷ xs) (suc at) x all stands = passes_there test xs at x (both (test y) (list_all test xs) all).1 stands

-- each next number may still be given
pub next_numbers : (core : Core) → core.next_dataset < 2 ^ 64 - 1 → list_all (λ (d : HeartDataset). nat_lt d.next_file (2 ^ 64 - 1)) core.datasets ≡ true → AreNextUpTo (2 ^ 64 - 2) (pool_of core)
next_numbers core few all = record {
  dataset = omega (arith, few);
  file = λ place dataset stands.
      let one = stood_in_map plain_dataset core.datasets place dataset stands in
      let below = ltb-true one.0.next_file (2 ^ 64 - 1) (passes_there (λ (d : HeartDataset). nat_lt d.next_file (2 ^ 64 - 1)) core.datasets place one.0 all one.1) in
      let same = ap (λ (d : PlainDataset). d.next_file) one.2 in
      omega (arith, below, same);
}

-- the first group that waits stands before the others
pub first_waits : (waiting : List WaitingGroup) (waits : WaitingGroup) → slice_get waiting 0 ≡ Some waits → waiting ≡ waits ∷ drop 1 waiting
first_waits [] waits first = no_item waits first
first_waits (one ∷ others) waits first = ap (λ (w : WaitingGroup). w ∷ others) (one_item one waits first)
