-- What a set of names knows after one was added.
use Rattle.std.proofs.Common.{◌≡◌, ℕ, Bool, true, false, cond, ◌||◌, List, ◌∷◌, sym, ap, ◌∙◌, nat_cmp}
use Rattle.std.specs.Str.{bytes_eq}
use Rattle.std.specs.Cmp.Lexicographic.{slice_cmp, texts_ties}
use Rattle.std.specs.Ordering.{eq_by_cmp}
use Rattle.zc_tree.specs.Names.{is_among}

either : (a b c : Bool) → a ≡ b → cond a true c ≡ (b || c)
either true b c e = ap (λ (t : Bool). t || c) e
either false b c e = ap (λ (t : Bool). t || c) e

-- a name is known that was known before, or was added
pub known_more : (added name : List ℕ) (names : List (List ℕ)) (before after : Bool) → after ≡ cond (eq_by_cmp (slice_cmp nat_cmp) added name) true before → before ≡ is_among name names → after ≡ is_among name (added ∷ names)
known_more added name names before after updated known =
    updated ∙ ap (cond (eq_by_cmp (slice_cmp nat_cmp) added name) true) known ∙ either (eq_by_cmp (slice_cmp nat_cmp) added name) (bytes_eq added name) (is_among name names) (sym (texts_ties added name))
