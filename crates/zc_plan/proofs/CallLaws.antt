-- Calls that are pushed one after the other are those of a group and of a creation.
use Rattle.std.proofs.Common.{◌≡◌, ℕ, ◌+◌, ◌<◌, Bool, List, [], ◌∷◌, ◌++◌, length, map, take, get_or, ap, subst, sym, ◌∙◌, append_assoc, append-nil}
use Rattle.std.proofs.lemmas.Grind.{take_at_read}
use Rattle.std.proofs.lemmas.List.{map-append}
use Rattle.zc_num.specs.Words.{each}
use Rattle.zc_num.proofs.Each.{each_none, each_more}
use Rattle.zc_tape.specs.Tape.{Shape, Call, Write, Sync}
use Rattle.zc_tape.specs.DiskCall.{AreThere}
use Rattle.zc_root.specs.declared.body.Body.{Body}
use Rattle.zc_root.specs.Body.{body_bytes}
use Rattle.zc_root.specs.Root.{opened, closed, slot_of, body_place, gate_place}
use Rattle.zc_layout.specs.Layout.{Put}
use Rattle.zc_layout.specs.Standing.{write_of, closing, group_calls}
use Rattle.zc_layout.specs.Creation.{creation_calls}
use Rattle.zc_layout.proofs.CallsThere.{group_calls_there, creation_calls_there}
use Rattle.zc_plan.specs.declared.input.PlacedBlock.{PlacedBlock}
use Rattle.zc_plan.specs.Puts.{put_of, puts_of, HasRoom}

-- one more call after those that were pushed
pub pushed_more : (old done made : List Call) (call : Call) (calls : List Call) → calls ≡ (old ++ done) ++ call ∷ [] → made ≡ done ++ call ∷ [] → calls ≡ old ++ made
pushed_more old done made call calls e next = e ∙ append_assoc old done (call ∷ []) ∙ ap (λ xs. old ++ xs) (sym next)

-- the writes of the first blocks and of the next
pub blocks_next : (blocks : List PlacedBlock) (i : ℕ) (block : PlacedBlock) → i < length blocks → block ≡ get_or blocks i block
    → map write_of (puts_of (take (i + 1) blocks)) ≡ map write_of (puts_of (take i blocks)) ++ write_of (put_of block) ∷ []
blocks_next blocks i block within is =
    let more : take (i + 1) blocks ≡ take i blocks ++ block ∷ [] = (take_at_read blocks i block within).1 ∙ ap (λ x. take i blocks ++ x ∷ []) (sym is) in
    ap (λ xs. map write_of (puts_of xs)) more
    ∙ ap (map write_of) (map-append put_of (take i blocks) (block ∷ []))
    ∙ map-append write_of (puts_of (take i blocks)) (put_of block ∷ [])

-- the writes of blocks, one more pushed
pub block_pushed : (old calls calls_new : List Call) (blocks : List PlacedBlock) (i : ℕ) (block : PlacedBlock) → i < length blocks → block ≡ get_or blocks i block
    → calls ≡ old ++ map write_of (puts_of (take i blocks)) → calls_new ≡ calls ++ write_of (put_of block) ∷ []
    → calls_new ≡ old ++ map write_of (puts_of (take (i + 1) blocks))
block_pushed old calls calls_new blocks i block within is before one =
    pushed_more old (map write_of (puts_of (take i blocks))) (map write_of (puts_of (take (i + 1) blocks))) (write_of (put_of block)) calls_new
    (one ∙ ap (λ xs. xs ++ write_of (put_of block) ∷ []) before)
    (blocks_next blocks i block within is)

-- the zeros of the logs, at no place yet
pub no_log_pushed : (old : List Call) → old ≡ old ++ each 0 (λ k. Write 0 (4 + k) closed)
no_log_pushed old = sym (ap (λ xs. old ++ xs) (each_none (λ k. Write 0 (4 + k) closed)) ∙ append-nil old)

-- the zeros of the logs, one place more
pub log_pushed : (old calls calls_new : List Call) (k : ℕ) → calls ≡ old ++ each k (λ k. Write 0 (4 + k) closed) → calls_new ≡ calls ++ Write 0 (4 + k) closed ∷ []
    → calls_new ≡ old ++ each (k + 1) (λ k. Write 0 (4 + k) closed)
log_pushed old calls calls_new k before one =
    pushed_more old (each k (λ k. Write 0 (4 + k) closed)) (each (k + 1) (λ k. Write 0 (4 + k) closed)) (Write 0 (4 + k) closed) calls_new
    (one ∙ ap (λ xs. xs ++ Write 0 (4 + k) closed ∷ []) before)
    (each_more k (λ k. Write 0 (4 + k) closed))

-- the parts of a group are its calls
pub group_pushed : (old a b c d : List Call) (blocks chain : List Put) (body : Body) (gate_open : Bool)
    → a ≡ old ++ map write_of blocks → b ≡ a ++ map write_of chain → c ≡ b ++ closing body.group gate_open
    → d ≡ c ++ (Sync ∷ (Write 0 (body_place (slot_of body.group)) (body_bytes body) ∷ (Sync ∷ (Write 0 (gate_place (slot_of body.group)) opened ∷ (Sync ∷ [])))))
    → d ≡ old ++ group_calls (blocks ++ chain) body gate_open
group_pushed old a b c d blocks chain body gate_open ea eb ec ed =
    rw (ed, ec, eb, ea, map-append) (simp append_assoc)

-- where the places of a group and of its roots are there, its calls are
pub group_there : (calls : List Call) (puts : List Put) (body : Body) (gate_open : Bool) (shape : Shape) → calls ≡ group_calls puts body gate_open
    → HasRoom shape 0 puts → AreThere shape calls
group_there calls puts body gate_open shape e room =
    subst (AreThere shape) (sym e) (group_calls_there shape puts body gate_open room.devices room.places room.there)

-- and those of a creation where its logs are there too
pub creation_there : (calls : List Call) (puts : List Put) (body : Body) (first_open second_open : Bool) (logs : ℕ) (shape : Shape)
    → calls ≡ creation_calls first_open second_open logs puts body → HasRoom shape logs puts → AreThere shape calls
creation_there calls puts body first_open second_open logs shape e room =
    subst (AreThere shape) (sym e) (creation_calls_there shape first_open second_open logs puts body room.devices room.places room.there)
