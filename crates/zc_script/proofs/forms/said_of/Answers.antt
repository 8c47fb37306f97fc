use Rattle.std.proofs.Common.{sym, ◌∙◌}
use Rattle.std.proofs.lemmas.Result.{IfOk-weaker}
use Rattle.zc_script.specs.Words.{pieces_between}
use Rattle.zc_script.proofs.ReadLaws.{said_of_one_word, said_of_parts, said_of_no_form}
use Rattle.zc_script.proofs.SpellingLaws.{read_both_ways}
use Rattle.zc_script.proofs.forms.said_of.Goals as goal

pub returns-in_default-clause-value : goal.returns-in_default-clause-value
returns-in_default-clause-value c = sym (said_of_one_word c.args.pools.now c.args.line.now c.in_default.ensures)

pub returns-in_default-clause-grammar : goal.returns-in_default-clause-grammar
returns-in_default-clause-grammar c = read_both_ways c.args.pools.now c.args.line.now

pub returns-in-Some-form_of-clause-value : goal.returns-in-Some-form_of-clause-value
returns-in-Some-form_of-clause-value c =
    let same = said_of_parts c.args.pools.now c.args.line.now c.in-Some.word.now (pieces_between 32 c.in-Some.words.now) c.in-Some-form_of.form c.in-Some.ensures (sym c.form_of.ensures ∙ c.in-Some-form_of.is) in
    IfOk-weaker c.said_of_form.result _ _ (λ said is. is ∙ sym same) c.said_of_form.ensures

pub returns-in-Some-form_of-clause-grammar : goal.returns-in-Some-form_of-clause-grammar
returns-in-Some-form_of-clause-grammar c = read_both_ways c.args.pools.now c.args.line.now

pub returns-in-None-clause-value : goal.returns-in-None-clause-value
returns-in-None-clause-value c =
    sym (said_of_no_form c.args.pools.now c.args.line.now c.in-Some.word.now (pieces_between 32 c.in-Some.words.now) c.in-Some.ensures (sym c.form_of.ensures ∙ c.in-None.is))

pub returns-in-None-clause-grammar : goal.returns-in-None-clause-grammar
returns-in-None-clause-grammar c = read_both_ways c.args.pools.now c.args.line.now
