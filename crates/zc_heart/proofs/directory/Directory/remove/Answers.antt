use Rattle.std.proofs.Common.{◌≡◌, ◌∙◌, None, sym, ap, find}
use Rattle.zc_heart.specs.Changes.{without}
use Rattle.zc_heart.specs.Directory.{id_of, is_numbered, items_of}
use Rattle.zc_heart.proofs.DirectoryLaws.{directory_taken, found_by_number, items_taken, never}
use Rattle.zc_heart.proofs.directory.Directory.remove.Goals as goal

pub invariant_of-self : goal.invariant_of-self
invariant_of-self g c =
    directory_taken c.args.id c.self.inside.items.entries c.remove.new.self.entries c.self.inside.ids.entries c.remove-in-Some.new.self.entries c.in-Some.named c.self.invariant
    (sym c.remove.ensures.value ∙ c.in-Some.is) c.remove.ensures.entries c.remove.ensures.ordered (λ name. c.remove-in-Some.ensures.updates.0 name)

pub unreachable-requires : goal.unreachable-requires
unreachable-requires g c =
    let none : find (is_numbered c.args.id) c.args.self.now ≡ None =
    sym (c.remove.ensures.value ∙ found_by_number c.args.id c.self.inside.items.entries c.self.invariant.placed ∙ ap (find (is_numbered c.args.id)) c.self.view_is) ∙ c.in-None.is
    in
    never (find (is_numbered c.args.id) c.args.self.now) none c.requires

pub returns-clause-item : goal.returns-clause-item
returns-clause-item g c =
    sym (c.remove.ensures.value ∙ found_by_number c.args.id c.self.inside.items.entries c.self.invariant.placed ∙ ap (find (is_numbered c.args.id)) c.self.view_is) ∙ c.in-Some.is

pub returns-clause-rest : goal.returns-clause-rest
returns-clause-rest g c =
    ap items_of c.remove.ensures.entries ∙ items_taken c.args.id c.self.inside.items.entries c.self.invariant.placed c.self.invariant.ascending ∙ ap (without id_of c.args.id) c.self.view_is
