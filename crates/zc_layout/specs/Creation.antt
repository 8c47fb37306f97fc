-- The calls that make a pool.
use Rattle.std.specs.Prelude.{ℕ, ◌+◌, ◌||◌, Bool, false, List, [], ◌∷◌, ◌++◌, if◌then◌else◌}
use Rattle.zc_num.specs.Words.{each}
use Rattle.zc_tape.specs.Tape.{Call, Write, Sync}
use Rattle.zc_root.specs.declared.body.Body.{Body}
use Rattle.zc_root.specs.Root.{body_place, closed}
use Rattle.zc_layout.specs.Layout.{Put}
use Rattle.zc_layout.specs.Standing.{closing, group_calls}

-- zeros to each gate that is open, and a sync where there is one
abbrev pub clearing_calls : Bool → Bool → List Call
clearing_calls first_open second_open = closing 0 first_open ++ (closing 1 second_open ++ (if first_open || second_open then Sync ∷ [] else []))

-- zeros to both bodies and to so many places of logs after the roots; a sync
abbrev pub zeroing_calls : ℕ → List Call
zeroing_calls logs = Write 0 (body_place 0) closed ∷ (Write 0 (body_place 1) closed ∷ (each logs (λ k. Write 0 (4 + k) closed) ++ Sync ∷ []))

-- the calls that make a pool: the gates are closed, bodies and logs are zeroed, and the first group is written
abbrev pub creation_calls : (first_open second_open : Bool) (logs : ℕ) → List Put → Body → List Call
creation_calls first_open second_open logs puts body =
    clearing_calls first_open second_open ++ (zeroing_calls logs ++ group_calls puts body false)
