-- The seals of a legal history are numbered upwards from the claim group on, so each group is sealed once.
use Rattle.std.proofs.Common.{◌≡◌, ℕ, zero, suc, ◌+◌, ◌<◌, ◌≤◌, List, [], ◌∷◌, Option, Some, slice_get, refl, sym, ap, subst, ◌∙◌, arith}
use Rattle.std.proofs.lemmas.Option.{none-some, same_Some}
use Rattle.zc_num.specs.declared.limits.Limits.{Limits}
use Rattle.zc_command.specs.declared.reply.Reply.{Reply}
use Rattle.zc_plain.specs.declared.plain_pool.PlainPool.{PlainPool}
use Rattle.zc_plain.specs.declared.entry.Entry.{Entry}
use Rattle.zc_plain.specs.declared.entry.Entry.TheVariants.{Ask, Answer, Seal, Finish}
use Rattle.zc_plain.specs.Legal.{Due, Nothing, AnswerDue, SealDue, Progress, at_start, answered, progress, MaySeal, MayFollow, AreLegal, IsLegal}
use Rattle.zc_open.specs.Points.{Point, IsSealedAt, IsPoint}

-- a seal that may come next has the next number
next_seal : (p : Progress) (due : Due) (group : ℕ) → MaySeal p due group → group ≡ p.last + 1
next_seal p Nothing group may = absurd may
next_seal p (AnswerDue to told) group may = absurd may
next_seal p (SealDue to) group may = may

-- an answer seals nothing
answer_seals_nothing : (p : Progress) (due : Due) (session : ℕ) (reply : Reply) → (answered due session reply p).last ≡ p.last
answer_seals_nothing p Nothing session reply = refl
answer_seals_nothing p (AnswerDue to told) session reply = refl
answer_seals_nothing p (SealDue to) session reply = refl

-- the last number that was sealed only grows
last_grows : (failed : Option ℕ) (p : Progress) (entry : Entry) → MayFollow failed p entry → p.last ≤ (progress p entry).last
unfolding progress
last_grows failed p (Ask session command) may = omega arith
last_grows failed p (Answer session reply) may = let same = answer_seals_nothing p p.due session reply in omega (arith, same)
last_grows failed p (Seal group) may = let next = next_seal p p.due group may in omega (arith, next)
last_grows failed p (Finish group held) may = omega arith

last_sealed : (p : Progress) (group : ℕ) → (progress p (Seal group)).last ≡ group
unfolding progress
last_sealed p group = refl

-- every later seal has a greater number
seal_above : (failed : Option ℕ) (p : Progress) (history : List Entry) (n group : ℕ) → AreLegal failed p history → slice_get history n ≡ Some (Seal group) → p.last < group
seal_above failed p [] n group legal is = absurd (none-some (Seal group) is)
seal_above failed p (entry ∷ history) zero group legal is =
    let may : MayFollow failed p (Seal group) = subst (MayFollow failed p) (same_Some entry (Seal group) is) legal.0 in
    let next = next_seal p p.due group may in
    omega (arith, next)
seal_above failed p (entry ∷ history) (suc n) group legal is =
    let grows = last_grows failed p entry legal.0 in
    let above = seal_above failed (progress p entry) history n group legal.1 is in
    omega (arith, grows, above)

-- no seal after that of the group has its number
none_after : (failed : Option ℕ) (p : Progress) (entry : Entry) (history : List Entry) (n group : ℕ) → entry ≡ Seal group → AreLegal failed (progress p entry) history → slice_get history n ≡ Some (Seal group) → ⊥
none_after failed p entry history n group first legal is =
    let above = seal_above failed (progress p entry) history n group legal is in
    let last : (progress p entry).last ≡ group = ap (λ (one : Entry). (progress p one).last) first ∙ last_sealed p group in
    absurd (omega (arith, above, last))

sealed_once_from : (failed : Option ℕ) (p : Progress) (history : List Entry) (m n group : ℕ) → AreLegal failed p history → slice_get history m ≡ Some (Seal group) → slice_get history n ≡ Some (Seal group) → m ≡ n
sealed_once_from failed p [] m n group legal one two = absurd (none-some (Seal group) one)
sealed_once_from failed p (entry ∷ history) zero zero group legal one two = refl
sealed_once_from failed p (entry ∷ history) zero (suc n) group legal one two = absurd (none_after failed p entry history n group (same_Some entry (Seal group) one) legal.1 two)
sealed_once_from failed p (entry ∷ history) (suc m) zero group legal one two = absurd (none_after failed p entry history m group (same_Some entry (Seal group) two) legal.1 one)
sealed_once_from failed p (entry ∷ history) (suc m) (suc n) group legal one two = ap suc (sealed_once_from failed (progress p entry) history m n group legal.1 one two)

-- Each group is sealed once.
pub sealed_once : (start : PlainPool) (claim : ℕ) (failed : Option ℕ) (history : List Entry) (m n group : ℕ) → IsLegal start claim failed history
    → slice_get history m ≡ Some (Seal group) → slice_get history n ≡ Some (Seal group) → m ≡ n
sealed_once start claim failed history m n group legal one two = sealed_once_from failed (at_start start claim) history m n group legal one two

-- Each group that is sealed comes after the claim group.
pub sealed_after_claim : (start : PlainPool) (claim : ℕ) (failed : Option ℕ) (history : List Entry) (n group : ℕ) → IsLegal start claim failed history
    → slice_get history n ≡ Some (Seal group) → claim < group
sealed_after_claim start claim failed history n group legal is = seal_above failed (at_start start claim) history n group legal is

-- The point of a group stands at the seal of that group.
pub point_of_seal : (start : PlainPool) (claim : ℕ) (failed : Option ℕ) (history : List Entry) (limits : Limits) (point : Point) (n : ℕ) → IsLegal start claim failed history
    → IsPoint start claim history limits point → slice_get history n ≡ Some (Seal point.group) → point.entries ≡ n + 1
point_of_seal start claim failed history limits point n legal is there = by point.entries is.sealed where
  by : (entries : ℕ) → IsSealedAt claim history point.group entries → entries ≡ n + 1
  by zero same = absurd (let after = sealed_after_claim start claim failed history n point.group legal there in omega (arith, after, same))
  by (suc entries) here = let same = sealed_once start claim failed history entries n point.group legal here there in omega (arith, same)
