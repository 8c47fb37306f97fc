-- Each line goes on from where the lines before it came to.
use Rattle.std.proofs.Common.{◌≡◌, ◌∙◌, ◌∷◌, [], ◌++◌, List, length, refl, sym, ap, subst, append_assoc, append-nil, arith}
use Rattle.std.specs.List.{AllByRecursion}
use Rattle.std.specs.Vec.Iter.{into_iter_items}
use Rattle.zc_script.specs.declared.act.Line.{Line}
use Rattle.zc_prog.specs.Played.{askings_in, askings_before, AddsLines}
use Rattle.zc_prog.specs.Session.{IsFront}
use Rattle.zc_prog.specs.Midway.{MeetsAct, first_mark}
use Rattle.zc_prog.proofs.EntryLaws.{lines_and_line, front_in_line}
use Rattle.zc_prog.proofs.GoesLaws.{goes_then}
use Rattle.zc_prog.proofs.playing.play_lines.Goals as goal

nothing_left : (lines : List Line) → length lines ≡ 0 → lines ≡ []
nothing_left [] none = refl
nothing_left (line ∷ lines) none = absurd (omega arith)

pub play_line-requires-clause-conditions : goal.play_line-requires-clause-conditions
play_line-requires-clause-conditions g c =
    let steps : into_iter_items c.loop-line.line-iterator ≡ c.in-Some.line ∷ into_iter_items c.next.new.self = c.in-Some.ensures.steps.0 in
    (subst (λ (lines : List Line). AllByRecursion (λ (line : Line). MeetsAct line.act) lines) steps c.loop-line.invariant.conditions).0

pub loop-line-preserved : goal.loop-line-preserved
loop-line-preserved g c =
    let at = c.loop-line in
    let line = c.in-Some.line in
    let steps : into_iter_items at.line-iterator ≡ line ∷ into_iter_items c.next.new.self = c.in-Some.ensures.steps.0 in
    record {
      parts = append_assoc at.yielded (line ∷ []) (into_iter_items c.next.new.self) ∙ ap (λ (lines : List Line). at.yielded ++ lines) (sym steps) ∙ at.invariant.parts;
      count =
          let was = at.invariant.count in
          let gone = c.in-Some.ensures.steps.1 in
          let short = ap length steps in
          omega arith;
      conditions = (subst (λ (lines : List Line). AllByRecursion (λ (line : Line). MeetsAct line.act) lines) steps at.invariant.conditions).1;
      goes = goes_then g.D.DiskSet.shape g.D.DiskSet.tape g.D.DiskSet.faults c.args.pool.now at.pool c.play_line.new.pool at.invariant.goes c.play_line.ensures.goes;
      is_pool = c.play_line.ensures.pool;
      quiet = c.in-Ok.ensures.quiet;
      adds = lines_and_line at.yielded line c.args.pool.now.kept.calls at.pool.kept c.play_line.new.pool.kept at.out.items c.play_line.new.out.items at.invariant.adds c.in-Ok.ensures.adds;
    }

pub returns-in-Err-clause-goes : goal.returns-in-Err-clause-goes
returns-in-Err-clause-goes g c =
    goes_then g.D.DiskSet.shape g.D.DiskSet.tape g.D.DiskSet.faults c.args.pool.now c.loop-line.pool c.play_line.new.pool c.loop-line.invariant.goes c.play_line.ensures.goes

pub returns-in-Err-clause-asked : goal.returns-in-Err-clause-asked
returns-in-Err-clause-asked g c last =
    let at = c.loop-line in
    let line = c.in-Some.line in
    let rest = into_iter_items c.next.new.self in
    let steps : into_iter_items at.line-iterator ≡ line ∷ rest = c.in-Some.ensures.steps.0 in
    let all : at.yielded ++ line ∷ rest ≡ c.args.lines.items =
    ap (λ (lines : List Line). at.yielded ++ lines) (sym steps) ∙ at.invariant.parts ∙ c.into_iter-line-iterator.ensures.into_iter_gives.0 in
    subst (λ (lines : List Line). IsFront (askings_in c.play_line.new.pool.kept.history) (askings_before lines last)) all
    (front_in_line at.yielded line rest (first_mark c.args.pool.now.kept.calls) at.pool.kept c.play_line.new.pool.kept.history at.out.items last at.invariant.adds c.play_line.ensures.asked)

pub returns-clause-adds : goal.returns-clause-adds
returns-clause-adds g c =
    let at = c.loop-line in
    let none = c.in-None.ensures.steps in
    let empty : into_iter_items at.line-iterator ≡ [] = nothing_left (into_iter_items at.line-iterator) (sym at.invariant.count ∙ none.0) in
    let all : at.yielded ≡ c.args.lines.items =
    sym (append-nil at.yielded)
    ∙ ap (λ (lines : List Line). at.yielded ++ lines) (sym empty)
    ∙ at.invariant.parts
    ∙ c.into_iter-line-iterator.ensures.into_iter_gives.0 in
    subst (λ (lines : List Line). AddsLines lines (first_mark c.args.pool.now.kept.calls) at.pool.kept.history at.out.items at.pool.kept.acks at.pool.kept.calls) all at.invariant.adds
