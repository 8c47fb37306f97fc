-- Room for a mark marks nothing.
use Rattle.std.proofs.Common.{◌≡◌, ℕ, List, None, sym, subst, ◌∙◌}
use Rattle.std.specs.Prelude.{IsSome}
use Rattle.zc_num.specs.Ordered.{value_at}
use Rattle.zc_heart.specs.declared.file.Mark.{Mark}
use Rattle.zc_heart.specs.declared.file.Mark.TheVariants as mark
use Rattle.zc_heart.specs.Steps.{KeepsAll}
use Rattle.zc_heart.proofs.StepLaws.{none_there, kept_with_mark, there_once_put}
use Rattle.zc_heart.proofs.file.HeartFile.make_mark_room.Goals as goal

pub returns-clause-kept : goal.returns-clause-kept
returns-clause-kept c =
    let file = c.args.self.now in
    let missing : value_at c.args.index file.marks ≡ None = none_there (value_at c.args.index file.marks) (sym c.contains.ensures ∙ c.if-contains.false) in
    subst (λ (marks : List (ℕ × Mark)). KeepsAll file (record file { marks = marks })) (sym c.in_ok-insert.ensures.entries) (kept_with_mark file c.args.index missing)

pub returns-clause-room : goal.returns-clause-room
returns-clause-room c =
    subst (λ (marks : List (ℕ × Mark)). IsSome (value_at c.args.index marks)) (sym c.in_ok-insert.ensures.entries) (there_once_put c.args.index mark.Room c.args.self.now.marks)
