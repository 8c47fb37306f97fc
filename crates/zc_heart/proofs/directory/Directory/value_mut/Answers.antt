use Rattle.std.proofs.Common.{◌≡◌, ◌∙◌, None, Some, refl, sym, ap, find, option_map, nat_cmp}
use Rattle.std.specs.BTreeMap.{is_at}
use Rattle.std.specs.Map.{lookup}
use Rattle.std.specs.Option.{option_copied_mut}
use Rattle.zc_heart.specs.Directory.{is_numbered, value_of}
use Rattle.zc_heart.proofs.DirectoryLaws.{directory_set, found_by_number, items_written, never}
use Rattle.zc_heart.proofs.directory.Directory.value_mut.Goals as goal

pub unreachable-requires : goal.unreachable-requires
unreachable-requires g c =
    let none : find (is_numbered c.args.id) c.args.self.now ≡ None =
    sym (c.get_mut.ensures.value ∙ found_by_number c.args.id c.self.inside.items.entries c.self.invariant.placed ∙ ap (find (is_numbered c.args.id)) c.self.view_is) ∙ ap option_copied_mut c.in-None.is
    in
    never (find (is_numbered c.args.id) c.args.self.now) none c.requires

pub invariant_of-self-lent : goal.invariant_of-self-lent
invariant_of-self-lent g c = λ w.
    let there : lookup (is_at (nat_cmp c.args.id)) c.self.inside.items.entries ≡ Some c.in-Some.named.now = sym c.get_mut.ensures.value ∙ ap option_copied_mut c.in-Some.is in
    let written = c.get_mut.follows.holds (record { id = c.in-Some.named.now.id; name = c.in-Some.named.now.name; value = w }) in
    directory_set c.args.id w c.self.inside.items.entries _ c.self.inside.ids.entries c.in-Some.named.now c.self.invariant there written.0 written.4

pub returns : goal.returns
returns g c =
    let there : lookup (is_at (nat_cmp c.args.id)) c.self.inside.items.entries ≡ Some c.in-Some.named.now = sym c.get_mut.ensures.value ∙ ap option_copied_mut c.in-Some.is in
    let found : find (is_numbered c.args.id) c.args.self.now ≡ Some c.in-Some.named.now =
    sym (ap (find (is_numbered c.args.id)) c.self.view_is) ∙ sym (found_by_number c.args.id c.self.inside.items.entries c.self.invariant.placed) ∙ there
    in (
      (
        refl,
        λ w.
            items_written c.args.id w c.self.inside.items.entries _ c.in-Some.named.now c.args.self.now c.self.invariant.placed c.self.invariant.ascending there c.self.view_is
            (c.get_mut.follows.holds (record { id = c.in-Some.named.now.id; name = c.in-Some.named.now.name; value = w })).0,
      ),
      record { writes_back = tt; value = ap (option_map value_of) found },
    )
