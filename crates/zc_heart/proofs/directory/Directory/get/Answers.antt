use Rattle.std.proofs.Common.{ap, ◌∙◌}
use Rattle.std.specs.Prelude.{find}
use Rattle.zc_heart.specs.Directory.{is_numbered}
use Rattle.zc_heart.proofs.DirectoryLaws.{found_by_number}
use Rattle.zc_heart.proofs.directory.Directory.get.Goals as goal

pub returns : goal.returns
returns g c = c.get.ensures.value ∙ found_by_number c.args.id c.self.inside.items.entries c.self.invariant.placed ∙ ap (find (is_numbered c.args.id)) c.self.view_is
