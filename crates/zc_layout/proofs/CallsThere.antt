-- The calls of a group and of a creation: each is to a place that is there, and how many they are.
use Rattle.std.proofs.Common.{◌≡◌, ℕ, ◌+◌, ◌<◌, ◌≤◌, ◌||◌, Bool, true, false, List, [], ◌∷◌, ◌++◌, length, map, zero, suc, sym, ap, ◌∙◌, subst, arith, length-append, if◌then◌else◌}
use Rattle.std.proofs.lemmas.List.{length-map}
use Rattle.std.proofs.lemmas.List.Elements.{All-append}
use Rattle.zc_num.specs.Words.{each}
use Rattle.zc_num.proofs.Each.{length_each, item_of_each}
use Rattle.zc_tape.specs.Tape.{Shape, Call, Write, Sync}
use Rattle.zc_tape.specs.DiskCall.{IsThere, AreThere}
use Rattle.zc_root.specs.declared.body.Body.{Body}
use Rattle.zc_root.specs.Body.{body_bytes}
use Rattle.zc_root.specs.Root.{opened, closed, slot_of, body_place, gate_place}
use Rattle.zc_root.proofs.RootLaws.{slot_below}
use Rattle.zc_layout.specs.Layout.{Put, owns}
use Rattle.zc_layout.specs.Standing.{write_of, closing, first_writes, group_calls}
use Rattle.zc_layout.specs.Creation.{clearing_calls, zeroing_calls, creation_calls}
use Rattle.zc_layout.proofs.LayoutLaws.{owns_first, owns_after}

-- each place that the puts own is there
abbrev pub ArePutsThere : Shape → List Put → Type 0
ArePutsThere shape puts = (d p : ℕ) → owns puts d p ≡ true → (d < shape.devices) × (p < shape.places)

-- one more call in front
there_first : (shape : Shape) (call : Call) (calls : List Call) → IsThere shape call → AreThere shape calls → AreThere shape (call ∷ calls)
there_first shape call calls here rest zero d within = here
there_first shape call calls here rest (suc k) d within = rest k d (omega arith)

no_calls_there : (shape : Shape) → AreThere shape []
no_calls_there shape k d within = absurd (omega arith)

-- calls in two parts
there_append : (shape : Shape) (xs ys : List Call) → AreThere shape xs → AreThere shape ys → AreThere shape (xs ++ ys)
there_append shape xs ys tx ty = All-append (IsThere shape) xs ys tx ty

puts_there : (shape : Shape) (puts : List Put) → ArePutsThere shape puts → AreThere shape (map write_of puts)
puts_there shape [] there = no_calls_there shape
puts_there shape (put ∷ puts) there =
    there_first shape (write_of put) (map write_of puts) (there put.at.device put.at.place (owns_first put puts))
    (puts_there shape puts (λ d p e. there d p (owns_after put puts d p e)))

closing_there : (shape : Shape) (group : ℕ) (gate_open : Bool) → 1 ≤ shape.devices → 4 ≤ shape.places → AreThere shape (closing group gate_open)
closing_there shape group true devices places =
    there_first shape (Write 0 (gate_place (slot_of group)) closed) [] (omega arith, omega (arith, slot_below group)) (no_calls_there shape)
closing_there shape group false devices places = no_calls_there shape

sync_there : (shape : Shape) (calls : List Call) → AreThere shape calls → AreThere shape (Sync ∷ calls)
sync_there shape calls rest = there_first shape Sync calls tt rest

-- the calls of a group are there where its puts are, and the roots
pub group_calls_there : (shape : Shape) (puts : List Put) (body : Body) (gate_open : Bool)
    → 1 ≤ shape.devices → 4 ≤ shape.places → ArePutsThere shape puts → AreThere shape (group_calls puts body gate_open)
group_calls_there shape puts body gate_open devices places there =
    there_append shape (first_writes puts body.group gate_open)
    (Sync ∷ (Write 0 (body_place (slot_of body.group)) (body_bytes body) ∷ (Sync ∷ (Write 0 (gate_place (slot_of body.group)) opened ∷ (Sync ∷ [])))))
    (there_append shape (map write_of puts) (closing body.group gate_open) (puts_there shape puts there) (closing_there shape body.group gate_open devices places))
    (sync_there shape (Write 0 (body_place (slot_of body.group)) (body_bytes body) ∷ (Sync ∷ (Write 0 (gate_place (slot_of body.group)) opened ∷ (Sync ∷ []))))
    (there_first shape (Write 0 (body_place (slot_of body.group)) (body_bytes body)) (Sync ∷ (Write 0 (gate_place (slot_of body.group)) opened ∷ (Sync ∷ [])))
    (omega arith, omega (arith, slot_below body.group))
    (sync_there shape (Write 0 (gate_place (slot_of body.group)) opened ∷ (Sync ∷ []))
    (there_first shape (Write 0 (gate_place (slot_of body.group)) opened) (Sync ∷ []) (omega arith, omega (arith, slot_below body.group))
    (sync_there shape [] (no_calls_there shape))))))

one_sync_there : (shape : Shape) (wanted : Bool) → AreThere shape (if wanted then Sync ∷ [] else [])
one_sync_there shape true = sync_there shape [] (no_calls_there shape)
one_sync_there shape false = no_calls_there shape

clearing_there : (shape : Shape) (first_open second_open : Bool) → 1 ≤ shape.devices → 4 ≤ shape.places → AreThere shape (clearing_calls first_open second_open)
clearing_there shape first_open second_open devices places =
    there_append shape (closing 0 first_open) (closing 1 second_open ++ (if first_open || second_open then Sync ∷ [] else [])) (closing_there shape 0 first_open devices places)
    (there_append shape (closing 1 second_open) (if first_open || second_open then Sync ∷ [] else []) (closing_there shape 1 second_open devices places) (one_sync_there shape (first_open || second_open)))

logs_there : (shape : Shape) (logs : ℕ) → 1 ≤ shape.devices → 4 + logs ≤ shape.places → AreThere shape (each logs (λ k. Write 0 (4 + k) closed))
logs_there shape logs devices places k d within =
    let low : k < logs = rw length_each at within in
    subst (IsThere shape) (sym (item_of_each logs (λ k. Write 0 (4 + k) closed) k d low)) (omega arith, omega arith)

zeroing_there : (shape : Shape) (logs : ℕ) → 1 ≤ shape.devices → 4 + logs ≤ shape.places → AreThere shape (zeroing_calls logs)
zeroing_there shape logs devices places =
    there_first shape (Write 0 (body_place 0) closed) (Write 0 (body_place 1) closed ∷ (each logs (λ k. Write 0 (4 + k) closed) ++ Sync ∷ [])) (omega arith, omega arith)
    (there_first shape (Write 0 (body_place 1) closed) (each logs (λ k. Write 0 (4 + k) closed) ++ Sync ∷ []) (omega arith, omega arith)
    (there_append shape (each logs (λ k. Write 0 (4 + k) closed)) (Sync ∷ []) (logs_there shape logs devices places) (sync_there shape [] (no_calls_there shape))))

-- the calls of a creation are there where its puts are, the roots and the logs
pub creation_calls_there : (shape : Shape) (first_open second_open : Bool) (logs : ℕ) (puts : List Put) (body : Body)
    → 1 ≤ shape.devices → 4 + logs ≤ shape.places → ArePutsThere shape puts → AreThere shape (creation_calls first_open second_open logs puts body)
creation_calls_there shape first_open second_open logs puts body devices places there =
    there_append shape (clearing_calls first_open second_open) (zeroing_calls logs ++ group_calls puts body false) (clearing_there shape first_open second_open devices (omega arith))
    (there_append shape (zeroing_calls logs) (group_calls puts body false) (zeroing_there shape logs devices places) (group_calls_there shape puts body false devices (omega arith) there))

-- ---- how many calls there are

pub length_first_writes : (puts : List Put) (group : ℕ) (gate_open : Bool) → length (first_writes puts group gate_open) ≡ length puts + length (closing group gate_open)
length_first_writes puts group gate_open =
    length-append (map write_of puts) (closing group gate_open) ∙ ap (λ n. n + length (closing group gate_open)) (length-map puts write_of)

length_closing : (group : ℕ) (gate_open : Bool) → length (closing group gate_open) ≤ 1
length_closing group true = omega arith
length_closing group false = omega arith

-- at most one for the gate, and five behind
pub length_group_calls : (puts : List Put) (body : Body) (gate_open : Bool) → length (group_calls puts body gate_open) ≤ length puts + 6
length_group_calls puts body gate_open =
    let whole : length (group_calls puts body gate_open) ≡ length (first_writes puts body.group gate_open) + 5 =
    length-append (first_writes puts body.group gate_open) (Sync ∷ (Write 0 (body_place (slot_of body.group)) (body_bytes body) ∷ (Sync ∷ (Write 0 (gate_place (slot_of body.group)) opened ∷ (Sync ∷ []))))) in
    let front : length (first_writes puts body.group gate_open) ≡ length puts + length (closing body.group gate_open) = length_first_writes puts body.group gate_open in
    let one : length (closing body.group gate_open) ≤ 1 = length_closing body.group gate_open in
    omega arith
