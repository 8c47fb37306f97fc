-- What a shelf in memory tells, when what stands under a name changes.
use Rattle.std.proofs.Common.{◌≡◌, ℕ, Bool, true, false, List, [], ◌∷◌, ◌++◌, Option, Some, None, cond, ◌&&◌, ◌||◌, refl, ap, sym, ◌∙◌, inl, inr, ◌⊎◌}
use Rattle.std.proofs.Math.Path.{fun_ext}
use Rattle.std.proofs.lemmas.Bool.{cases_Bool}
use Rattle.std.proofs.lemmas.Slice.Eq.{bytes_eq-Decides}
use Rattle.std.specs.Option.{is_some, option_map}
use Rattle.std.specs.Str.{bytes_eq}
use Rattle.zc_io.specs.declared.slots.Stored.{Stored}
use Rattle.zc_io.specs.declared.unused.Unused.{Unused}
use Rattle.zc_tape.specs.declared.memory.MemoryDisks.{MemoryDisks}
use Rattle.zc_io.specs.MemoryShelf.{stock_by}
use Rattle.zc_io.specs.Slots.{with_held, is_here, taken_out, brought_back, IsLaid}
use Rattle.zc_io.specs.Stock.{Stock, Gave, with_answer, handed_out, handed_back}

-- an answer to what stands under each name, when what stands under one name changes
pub answer_with : (answer : Stored → Bool) (holds : List ℕ → Stored) (name : List ℕ) (held : Stored)
    → let after : List ℕ → Bool = λ n. answer (with_held holds name held n) in let before : List ℕ → Bool = λ n. answer (holds n) in after ≡ with_answer before name (answer held)
answer_with answer holds name held = fun_ext (λ n. each n (bytes_eq name n)) where
  each : (n : List ℕ) (same : Bool) → answer (cond same held (holds n)) ≡ cond same (answer held) (answer (holds n))
  each n true = refl
  each n false = refl

-- an answer that is given anew changes nothing
pub answer_again : (before : List ℕ → Bool) (name : List ℕ) (answer : Bool) → answer ≡ before name → with_answer before name answer ≡ before
answer_again before name answer e = fun_ext (λ n. each n (cases_Bool (bytes_eq name n))) where
  each : (n : List ℕ) → (bytes_eq name n ≡ true) ⊎ (bytes_eq name n ≡ false) → cond (bytes_eq name n) answer (before n) ≡ before n
  each n (inl t) = rw t (e ∙ ap before ((bytes_eq-Decides name n).0 t))
  each n (inr f) = rw f refl

abbrev told : (List ℕ → Bool) → (List ℕ → Bool) → List Gave → Stock
told here out gives = record { told = true; here = here; out = out; gives = gives }

-- two stocks that tell the same are one
same_stock : (here here2 out out2 : List ℕ → Bool) (gives gives2 : List Gave) → here ≡ here2 → out ≡ out2 → gives ≡ gives2 → told here out gives ≡ told here2 out2 gives2
same_stock here here2 out out2 gives gives2 h o g = ap (λ x. told x out gives) h ∙ (ap (λ x. told here2 x gives) o ∙ ap (told here2 out2) g)

abbrev answers : (Stored → Bool) → (List ℕ → Stored) → List ℕ → Bool
answers answer holds n = answer (holds n)

abbrev is_out : Stored → Bool
is_out held = held.out

-- what lay under a name was handed out
pub stock_taken : (old new : List ℕ → Stored) (gives later : List Gave) (name : List ℕ) → new ≡ with_held old name taken_out → later ≡ gives → stock_by new later ≡ handed_out (stock_by old gives) name
stock_taken old new gives later name e g =
    same_stock _ _ _ _ _ _
    (ap (answers is_here) e ∙ answer_with is_here old name taken_out)
    (ap (answers is_out) e ∙ answer_with is_out old name taken_out)
    g

-- a set is there once it is brought back, or was before
here_again : (held : Stored) (disks : Option MemoryDisks) (ok out : Bool) → out ≡ true → is_some disks ≡ ok → is_here (brought_back held disks) ≡ ((ok && out) || is_here held)
here_again held disks ok out o k = rw (o, ← k) (each disks) where
  each : (disks : Option MemoryDisks) → is_here (brought_back held disks) ≡ ((is_some disks && true) || is_here held)
  each None = refl
  each (Some d) = refl

not_out : (held : Stored) (disks : Option MemoryDisks) → false ≡ is_out (brought_back held disks)
not_out held None = refl
not_out held (Some d) = refl

-- a name that was handed out was brought back
pub stock_brought : (old new : List ℕ → Stored) (gives later : List Gave) (gave : Gave) (disks : Option MemoryDisks) → new ≡ with_held old gave.name (brought_back (old gave.name) disks) → later ≡ gives ++ gave ∷ []
    → (old gave.name).out ≡ true → is_some disks ≡ gave.ok → stock_by new later ≡ handed_back (stock_by old gives) gave
stock_brought old new gives later gave disks e g out ok =
    let held : Stored = brought_back (old gave.name) disks in
    same_stock _ _ _ _ _ _
    (ap (answers is_here) e ∙ (answer_with is_here old gave.name held ∙ ap (with_answer (answers is_here old) gave.name) (here_again (old gave.name) disks gave.ok (old gave.name).out out ok)))
    (ap (answers is_out) e ∙ (answer_with is_out old gave.name held ∙ ap (with_answer (answers is_out old) gave.name) (sym (not_out (old gave.name) disks))))
    g

-- a name that wasn't handed out was brought back
pub stock_dropped : (old new : List ℕ → Stored) (gives later : List Gave) (gave : Gave) → new ≡ old → later ≡ gives ++ gave ∷ []
    → (old gave.name).out ≡ false → stock_by new later ≡ handed_back (stock_by old gives) gave
stock_dropped old new gives later gave e g out =
    same_stock _ _ _ _ _ _
    (ap (answers is_here) e ∙ sym (answer_again (answers is_here old) gave.name ((gave.ok && (old gave.name).out) || is_here (old gave.name)) (rw out (kept gave.ok (is_here (old gave.name))))))
    (ap (answers is_out) e ∙ sym (answer_again (answers is_out old) gave.name false (sym out)))
    g
  where
    kept : (ok here : Bool) → ((ok && false) || here) ≡ here
    kept true here = refl
    kept false here = refl

-- a set was laid under a name that wasn't handed out
pub stock_laid : (old new : List ℕ → Stored) (gives later : List Gave) (name : List ℕ) (held : Stored) → new ≡ with_held old name held → later ≡ gives
    → is_here held ≡ true → held.out ≡ (old name).out → stock_by new later ≡ record (stock_by old gives) { here = with_answer (stock_by old gives).here name true }
stock_laid old new gives later name held e g here out =
    same_stock _ _ _ _ _ _
    (ap (answers is_here) e ∙ (answer_with is_here old name held ∙ ap (with_answer (answers is_here old) name) here))
    (ap (answers is_out) e ∙ (answer_with is_out old name held ∙ answer_again (answers is_out old) name held.out out))
    g

-- a set that was laid there lies there
pub here_laid : (held : Stored) (disks : MemoryDisks) → option_map (λ unused. unused.disks) held.laid ≡ Some disks → is_here held ≡ true
here_laid held disks = each held.laid where
  each : (laid : Option Unused) → option_map (λ unused. unused.disks) laid ≡ Some disks → (is_some laid || is_some held.given) ≡ true
  each None e = absurd cc
  each (Some unused) e = refl

-- what was put under a name is a set that was laid there
pub laid_from_held : (old new : List ℕ → Stored) (name : List ℕ) (held : Stored) (disks : MemoryDisks) → new ≡ with_held old name held
    → option_map (λ unused. unused.disks) held.laid ≡ Some disks → IsLaid old new name disks
laid_from_held old new name held disks e laid = record {
  there = ap (λ (holds : List ℕ → Stored). option_map (λ unused. unused.disks) (holds name).laid) e ∙ rw ((bytes_eq-Decides name name).1 refl) laid;
  others = λ n other. ap (λ (holds : List ℕ → Stored). holds n) e ∙ rw other refl;
}
