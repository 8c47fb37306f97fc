-- Reading items one after the other, as a loop does.
use Rattle.std.proofs.Common.{◌≡◌, ◌∙◌, ℕ, suc, ◌+◌, ◌-◌, ◌<◌, ◌≤◌, List, [], ◌∷◌, ◌++◌, Ok, Err, refl, sym, ap, append_assoc, arith}
use Rattle.std.proofs.lemmas.List.{append-nil}
use Rattle.zc_wire.specs.Fields.{Read, ◌>>=◌, FieldFails, u32_field}
use Rattle.zc_wire.specs.declared.fields.FieldFault.{FieldFault}
use Rattle.zc_wire.specs.declared.fields.FieldFault.TheVariants as field
use Rattle.zc_table.specs.declared.stored.StoredCount.{StoredCount}
use Rattle.zc_table.specs.TableBytes.{entry_field, entries_field, counters_field}

-- what was read before, and what is still read
abbrev pub with_front : {X : Type 0} → List X → Read (List X) → Read (List X)
with_front front read = read >>= λ x. Ok (front ++ x.0, x.1)

-- one item more was read before
regroup : {X : Type 0} (front : List X) (item : X) (read : Read (List X)) → with_front front (read >>= λ x. Ok (item ∷ x.0, x.1)) ≡ with_front (front ++ item ∷ []) read
regroup front item (Ok x) = ap (λ items. Ok (items, x.1)) (simp append_assoc)
regroup front item (Err left) = refl

-- nothing is still read
nothing_more : {X : Type 0} (front : List X) (bytes : List ℕ) → with_front front (Ok ([], bytes)) ≡ Ok (front, bytes)
nothing_more front bytes = ap (λ items. Ok (items, bytes)) (append-nil front)

-- ---- entries

-- a turn of the loop
pub entry_goes_on : (devices places device number i least : ℕ) (front : List StoredCount) (bytes : List ℕ) (entry : StoredCount) (after : List ℕ) (total : Read (List StoredCount)) → i < number
    → entry_field devices places device least bytes ≡ Ok (entry, after) → with_front front (entries_field devices places device (number - i) least bytes) ≡ total
    → with_front (front ++ entry ∷ []) (entries_field devices places device (number - (i + 1)) (entry.place + 1) after) ≡ total
unfolding entries_field
entry_goes_on devices places device number i least front bytes entry after total within read so_far =
    let k : number - i ≡ suc (number - (i + 1)) = omega arith in
    let one : with_front front (entries_field devices places device (number - i) least bytes) ≡ with_front (front ++ entry ∷ []) (entries_field devices places device (number - (i + 1)) (entry.place + 1) after) =
    rw (k, read) (regroup front entry (entries_field devices places device (number - (i + 1)) (entry.place + 1) after)) in
    sym one ∙ so_far

-- a turn that fails
pub entry_ends : (fault : FieldFault) (devices places device number i least : ℕ) (front : List StoredCount) (bytes : List ℕ) (total : Read (List StoredCount)) → i < number
    → FieldFails fault (entry_field devices places device least bytes) → with_front front (entries_field devices places device (number - i) least bytes) ≡ total → FieldFails fault total
unfolding entries_field
entry_ends field.NoMemory devices places device number i least front bytes total within read so_far = tt
entry_ends (field.Bad left) devices places device number i least front bytes total within read so_far =
    let k : number - i ≡ suc (number - (i + 1)) = omega arith in
    let one : with_front front (entries_field devices places device (number - i) least bytes) ≡ Err left = rw (k, read) refl in
    sym so_far ∙ one

-- the end of the loop
pub entries_done : (devices places device number i least : ℕ) (front : List StoredCount) (bytes : List ℕ) (total : Read (List StoredCount)) → number ≤ i
    → with_front front (entries_field devices places device (number - i) least bytes) ≡ total → total ≡ Ok (front, bytes)
unfolding entries_field
entries_done devices places device number i least front bytes total past so_far =
    let k : number - i ≡ 0 = omega arith in
    let one : with_front front (entries_field devices places device (number - i) least bytes) ≡ Ok (front, bytes) = rw k (nothing_more front bytes) in
    sym so_far ∙ one

-- ---- counters

-- a counter, and so many more
abbrev counter_and : ℕ → Read ℕ → Read (List ℕ)
counter_and number read = read >>= λ first. counters_field number first.1 >>= λ others. Ok (first.0 ∷ others.0, others.1)

-- a turn of the loop
pub counter_goes_on : (number i : ℕ) (front bytes : List ℕ) (counter : ℕ) (after : List ℕ) (total : Read (List ℕ)) → i < number → u32_field bytes ≡ Ok (counter, after)
    → with_front front (counters_field (number - i) bytes) ≡ total → with_front (front ++ counter ∷ []) (counters_field (number - (i + 1)) after) ≡ total
unfolding counters_field
counter_goes_on number i front bytes counter after total within read so_far =
    let k : number - i ≡ suc (number - (i + 1)) = omega arith in
    let one : with_front front (counters_field (number - i) bytes) ≡ with_front (front ++ counter ∷ []) (counters_field (number - (i + 1)) after) =
    ap (λ (n : ℕ). with_front front (counters_field n bytes)) k ∙ ap (λ (r : Read ℕ). with_front front (counter_and (number - (i + 1)) r)) read
    ∙ regroup front counter (counters_field (number - (i + 1)) after) in
    sym one ∙ so_far

-- a turn that fails
pub counter_ends : (fault : FieldFault) (number i : ℕ) (front bytes : List ℕ) (total : Read (List ℕ)) → i < number → FieldFails fault (u32_field bytes)
    → with_front front (counters_field (number - i) bytes) ≡ total → FieldFails fault total
unfolding counters_field
counter_ends field.NoMemory number i front bytes total within read so_far = tt
counter_ends (field.Bad left) number i front bytes total within read so_far =
    let k : number - i ≡ suc (number - (i + 1)) = omega arith in
    let one : with_front front (counters_field (number - i) bytes) ≡ Err left =
    ap (λ (n : ℕ). with_front front (counters_field n bytes)) k ∙ ap (λ (r : Read ℕ). with_front front (counter_and (number - (i + 1)) r)) read in
    sym so_far ∙ one

-- the end of the loop
pub counters_done : (number i : ℕ) (front bytes : List ℕ) (total : Read (List ℕ)) → number ≤ i → with_front front (counters_field (number - i) bytes) ≡ total → total ≡ Ok (front, bytes)
unfolding counters_field
counters_done number i front bytes total past so_far =
    let k : number - i ≡ 0 = omega arith in
    let one : with_front front (counters_field (number - i) bytes) ≡ Ok (front, bytes) = rw k (nothing_more front bytes) in
    sym so_far ∙ one
