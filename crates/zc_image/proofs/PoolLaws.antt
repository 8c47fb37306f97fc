-- What is answered of a pool, from what is read after its root.
use Rattle.std.proofs.Common.{◌≡◌, ◌∙◌, Result, Ok, Err, IfOk, sym, ap, subst}
use Rattle.zc_num.specs.Limits.{AreLimits}
use Rattle.zc_tape.specs.Tape.{Shape, Tape}
use Rattle.zc_tape.specs.Crash.{reads}
use Rattle.zc_root.specs.declared.body.Body.{Body}
use Rattle.zc_root.specs.Root.{IsRoot, HasWholeRoots}
use Rattle.zc_root.proofs.RootLaws.{one_root}
use Rattle.zc_state.specs.State.{State, StandsFor, IsFresh}
use Rattle.zc_state.specs.Reading.{read_state}
use Rattle.zc_state.proofs.ReadLaws.{read_stands, read_only}
use Rattle.zc_image.specs.declared.fault.ImageFault.{ImageFault}
use Rattle.zc_image.specs.declared.fault.ImageFault.TheVariants.{NoMemory, NoPool, DiskFault, Damaged}
use Rattle.zc_image.specs.declared.found.Found.{Found}
use Rattle.zc_image.specs.ReadAnswers.{IsWhole, ReadAnswers}
use Rattle.zc_image.specs.Blocks.{AreBlocksAt}
use Rattle.zc_image.specs.Steps.{state_in}
use Rattle.zc_image.specs.Found.{state_of, IsAnswer, Finds}
use Rattle.zc_image.proofs.StepLaws.{state_by_steps}

-- no write to a root's place has failed
pub whole_roots : (t : Tape) → IsWhole t → HasWholeRoots t
whole_roots t whole = record { whole = λ place low. whole.unspoilt 0 place }

-- the body is that of the image's root
abbrev pub IsChosen : Tape → Body → Type 0
IsChosen t body = IsWhole t → IsRoot (reads t) body

-- what is known of an answer after a root
pub record IsReadAfter (t : Tape) (shape : Shape) (body : Body) (result : Result Found ImageFault) : Type 0 where
  pub exact : IsWhole t → ReadAnswers state_of result (state_in shape (reads t) body)
  pub body_is : IfOk result (λ found. found.body ≡ body)
  pub blocks : IfOk result (λ found. IsWhole t → AreBlocksAt (reads t) found.catalogue)

-- it is known of another tape and shape that are the same
pub after_here : (t u : Tape) (shape shape' : Shape) (body : Body) (result : Result Found ImageFault) → u ≡ t → shape' ≡ shape
    → IsReadAfter u shape' body result → IsReadAfter t shape body result
after_here t u shape shape' body result same_tape same_shape is =
    subst (λ (v : Tape). IsReadAfter v shape body result) same_tape (subst (λ (h : Shape). IsReadAfter u h body result) same_shape is)

-- what was answered is what is read after the root
pub exact_of : (t : Tape) (shape : Shape) (body : Body) (result : Result Found ImageFault) → IsChosen t body → IsReadAfter t shape body result
    → IsWhole t → IsAnswer shape (reads t) result
exact_of t shape body (Ok found) chosen behind whole = ap (read_state shape (reads t)) behind.body_is ∙ sym (state_by_steps shape (reads t) body) ∙ behind.exact whole
exact_of t shape body (Err NoMemory) chosen behind whole = tt
exact_of t shape body (Err NoPool) chosen behind whole = tt
exact_of t shape body (Err DiskFault) chosen behind whole = tt
exact_of t shape body (Err (Damaged damage)) chosen behind whole =
    (body, (chosen whole, sym (state_by_steps shape (reads t) body) ∙ behind.exact whole))

-- what was found stands there
pub sound_of : (t : Tape) (shape : Shape) (body : Body) (result : Result Found ImageFault) → AreLimits shape.devices shape.places → IsChosen t body
    → IsReadAfter t shape body result → IfOk result (λ found. IsWhole t → StandsFor shape (reads t) (state_of found) × IsFresh (state_of found))
sound_of t shape body (Ok found) limits chosen behind = λ whole.
    let stands = read_stands shape (reads t) body (state_of found) limits (chosen whole) (sym (state_by_steps shape (reads t) body) ∙ behind.exact whole) (behind.blocks whole) in
    (stands.0, stands.1)
sound_of t shape body (Err fault) limits chosen behind = tt

-- what stands there is found
pub only_of : (t : Tape) (shape : Shape) (body : Body) (result : Result Found ImageFault) → IsChosen t body → IsReadAfter t shape body result
    → IsWhole t → (s : State) → StandsFor shape (reads t) s → IsFresh s → Finds s result
only_of t shape body result chosen behind whole s stands fresh =
    let same : s.body ≡ body = one_root (reads t) s.body body stands.stands.root (chosen whole) in
    let read : state_in shape (reads t) body ≡ Ok s =
    state_by_steps shape (reads t) body ∙ ap (read_state shape (reads t)) (sym same) ∙ read_only shape (reads t) s stands.state fresh stands.stands.holds in
    at result (behind.exact whole) read
  where
    at : (r : Result Found ImageFault) → ReadAnswers state_of r (state_in shape (reads t) body) → state_in shape (reads t) body ≡ Ok s → Finds s r
    at (Ok found) answer read = cc
    at (Err NoMemory) answer read = tt
    at (Err NoPool) answer read = answer
    at (Err DiskFault) answer read = tt
    at (Err (Damaged damage)) answer read = absurd cc
