use Rattle.std.proofs.Common.{◌∙◌}
use Rattle.zc_heart.proofs.DirectoryLaws.{called_items}
use Rattle.zc_heart.proofs.directory.Directory.find.Goals as goal

pub returns-clause-item : goal.returns-clause-item
returns-clause-item g c =
    called_items c.args.name.now c.self.inside.items.entries c.self.inside.ids.entries c.args.self.now c.copied.result c.self.invariant c.self.view_is
    (c.copied.ensures ∙ c.get.ensures.value ∙ c.self.invariant.named c.args.name.now)
