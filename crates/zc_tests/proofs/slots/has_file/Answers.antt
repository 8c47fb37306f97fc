-- What was found is a path of the tree.
use Rattle.std.proofs.Common.{◌∙◌, sym, IsTrue, IfSome, ℕ, Option, Some, None}
use Rattle.std.proofs.lemmas.Bool.{false≢true}
use Rattle.std.specs.Prelude.{is_some}
use Rattle.zc_tree.specs.Reach.{StandsAt}
use Rattle.zc_tree.proofs.SlotLaws.{places_are_a_path}
use Rattle.zc_tests.proofs.slots.has_file.Goals as goal

-- what is there has the property that it has where it is there
there : {P : ℕ → Type 0} (found : Option ℕ) → IsTrue (is_some found) → IfSome found P → (k : ℕ) × P k
there None is stands = absurd (false≢true is)
there (Some k) is stands = (k, stands)

pub returns-in-Some : goal.returns-in-Some
returns-in-Some c is =
    let stands = there {P = StandsAt (λ file. file.id) c.as_slice.result.now c.args.file} c.file_among.result (sym c.is_some.ensures ∙ is) c.file_among.ensures in
    let path = places_are_a_path c.args.tree.now c.as_slice-datasets.result.now c.args.dataset c.args.file c.in-Some.index stands.0 c.index-datasets-index.result c.as_slice.result.now
    c.as_slice-datasets.ensures c.in-Some.ensures c.as_slice.ensures stands.1 in
    (path.0, path.1)
