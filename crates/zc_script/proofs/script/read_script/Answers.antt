use Rattle.std.proofs.Common.{◌≡◌, ◌+◌, List, length, All, sym, ◌∙◌, subst, rules}
use Rattle.std.proofs.lemmas.List.{append-nil}
use Rattle.zc_script.specs.declared.act.Line.{Line}
use Rattle.zc_script.specs.Lines.{texts_of}
use Rattle.zc_script.specs.Spelling.{IsActOf}
use Rattle.zc_script.proofs.ActLaws.{acts_are_of}
use Rattle.zc_script.proofs.LineLaws.{lines_of_nothing, bad_in_nothing}
use Rattle.zc_script.proofs.script.read_script.Goals as goal

pub returns-clause-ok : goal.returns-clause-ok
returns-clause-ok c =
    let done : length c.loop-rest.rest.now ≡ 0 = search rules in
    let none = lines_of_nothing c.args.pools.now c.loop-rest.session (c.loop-rest.count + 1) c.loop-rest.rest.now done in
    c.from_vec.ensures ∙ (sym (append-nil c.loop-rest.lines.items) ∙ rw none at c.loop-rest.invariant.lines)

pub returns-clause-good : goal.returns-clause-good
returns-clause-good c =
    let done : length c.loop-rest.rest.now ≡ 0 = search rules in
    sym c.loop-rest.invariant.good ∙ bad_in_nothing c.args.pools.now c.loop-rest.session (c.loop-rest.count + 1) c.loop-rest.rest.now done

pub returns-clause-acts : goal.returns-clause-acts
returns-clause-acts c =
    subst (λ (lines : List Line). All (λ (line : Line). IsActOf c.args.pools.now line.act) lines) (sym (returns-clause-ok c))
    (acts_are_of c.args.pools.now (texts_of c.args.bytes.now))
