-- Lines of a script one by one, and a text without a byte, which has no lines.
use Rattle.std.proofs.Common.{◌≡◌, ℕ, ◌+◌, List, [], ◌∷◌, length, Option, Some, None, map, refl, ap, ◌∙◌, arith}
use Rattle.zc_num.proofs.Pieces.{pieces_of_nothing}
use Rattle.zc_script.specs.declared.act.Said.{Said}
use Rattle.zc_script.specs.declared.act.Said.TheVariants.{Session, Does}
use Rattle.zc_script.specs.declared.act.Line.{Line}
use Rattle.zc_script.specs.Lines.{texts_of, said, next_session, with_line, with_act, lines_from, acts_of, bad_from}

-- they ask for nothing
pub lines_of_nothing : (pools : List (List ℕ)) (session n : ℕ) (rest : List ℕ) → length rest ≡ 0 → lines_from pools session n (texts_of rest) ≡ []
lines_of_nothing pools session n [] h = rw (pieces_of_nothing 10)
lines_of_nothing pools session n (b ∷ bs) h = absurd (omega arith)

-- none of them is bad
pub bad_in_nothing : (pools : List (List ℕ)) (session n : ℕ) (rest : List ℕ) → length rest ≡ 0 → bad_from pools session n (texts_of rest) ≡ None
bad_in_nothing pools session n [] h = rw (pieces_of_nothing 10)
bad_in_nothing pools session n (b ∷ bs) h = absurd (omega arith)

-- one line more has its act
acts_with_line : (session n : ℕ) (said : Option Said) (lines : List Line) → map (λ (line : Line). line.act) (with_line session n said lines) ≡ with_act said (map (λ (line : Line). line.act) lines)
acts_with_line session n None lines = refl
acts_with_line session n (Some (Session next)) lines = refl
acts_with_line session n (Some (Does act)) lines = refl

-- the acts of the lines are what the texts ask for
pub acts_of_lines : (pools : List (List ℕ)) (session n : ℕ) (texts : List (List ℕ)) → map (λ (line : Line). line.act) (lines_from pools session n texts) ≡ acts_of pools texts
acts_of_lines pools session n [] = refl
acts_of_lines pools session n (text ∷ texts) =
    acts_with_line session n (said pools text) (lines_from pools (next_session session (said pools text)) (n + 1) texts)
    ∙ ap (with_act (said pools text)) (acts_of_lines pools (next_session session (said pools text)) (n + 1) texts)
