use Rattle.std.proofs.Common.{◌≡◌, ◌∙◌, ℕ, List, [], ◌∷◌, ◌++◌, cond, Some, None, sym, ap, subst, nat_cmp}
use Rattle.std.specs.BTreeMap.{is_at}
use Rattle.std.specs.Cmp.Lexicographic.{slice_cmp}
use Rattle.std.specs.Map.{lookup}
use Rattle.zc_heart.specs.declared.directory.Named.{Named}
use Rattle.zc_heart.specs.Directory.{AreBelow, id_called, items_of, IsDirectory}
use Rattle.zc_heart.proofs.DirectoryLaws.{directory_put, directory_undone, items_put}
use Rattle.zc_heart.proofs.directory.Directory.push.Goals as goal

pub invariant_of-self-in-Ok : goal.invariant_of-self-in-Ok
invariant_of-self-in-Ok g c =
    let entries = c.self.inside.items.entries in
    let ids = c.self.inside.ids.entries in
    let item : Named g.row.V.Denot = record { id = c.args.id; name = c.args.name; value = c.args.value } in
    let below = subst (λ (items : List (Named g.row.V.Denot)). AreBelow c.args.id items) (sym c.self.view_is) c.requires.above in
    let free = subst (λ (items : List (Named g.row.V.Denot)). id_called c.args.name items ≡ None) (sym c.self.view_is) c.requires.unlike in
    directory_put entries c.insert-2.new.self.entries ids c.insert.new.self.entries item c.self.invariant below free c.in-Ok.ensures.entries c.in-Ok.ensures.ordered
    (λ name. c.in_ok-insert.ensures.updates.0 name ∙ ap (λ (key : List ℕ). cond (is_at (slice_cmp nat_cmp key) name) (Some c.args.id) (lookup (is_at (slice_cmp nat_cmp name)) ids)) c.in_ok-key.ensures)

pub returns-in-Ok-clause-ok : goal.returns-in-Ok-clause-ok
returns-in-Ok-clause-ok g c =
    let entries = c.self.inside.items.entries in
    let item : Named g.row.V.Denot = record { id = c.args.id; name = c.args.name; value = c.args.value } in
    let below = subst (λ (items : List (Named g.row.V.Denot)). AreBelow c.args.id items) (sym c.self.view_is) c.requires.above in
    ap items_of c.in-Ok.ensures.entries ∙ items_put entries c.self.inside.ids.entries item c.self.invariant below
    ∙ ap (λ (items : List (Named g.row.V.Denot)). items ++ item ∷ []) c.self.view_is

pub invariant_of-self-in-Err : goal.invariant_of-self-in-Err
invariant_of-self-in-Err g c =
    let entries = c.self.inside.items.entries in
    let ids = c.self.inside.ids.entries in
    let free = subst (λ (items : List (Named g.row.V.Denot)). id_called c.args.name items ≡ None) (sym c.self.view_is) c.requires.unlike in
    let refused : c.in-Err.refused.value.1.name ≡ c.args.name = ap (λ (pair : ℕ × Named g.row.V.Denot). pair.1.name) c.in-Err.ensures.value_returned in
    subst (λ (es : List (ℕ × Named g.row.V.Denot)). IsDirectory es c.remove.new.self.entries) (sym c.in-Err.ensures.err)
    (directory_undone entries ids c.insert.new.self.entries c.remove.new.self.entries c.args.name c.args.id c.self.invariant free
    (λ name. c.in_ok-insert.ensures.updates.0 name ∙ ap (λ (key : List ℕ). cond (is_at (slice_cmp nat_cmp key) name) (Some c.args.id) (lookup (is_at (slice_cmp nat_cmp name)) ids)) c.in_ok-key.ensures)
    (λ name. c.remove.ensures.updates.0 name ∙ ap (λ (key : List ℕ). cond (is_at (slice_cmp nat_cmp key) name) None (lookup (is_at (slice_cmp nat_cmp name)) c.insert.new.self.entries)) refused))
