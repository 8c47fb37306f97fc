use Rattle.zc_heart.proofs.DirectoryLaws.{directory_rest}
use Rattle.zc_heart.proofs.directory.Directory.take_first.Goals as goal

pub invariant_of-self : goal.invariant_of-self
invariant_of-self g c =
    directory_rest (c.in-Some.field-0-0, c.in-Some.named) c.self.inside.items.entries c.pop_first.new.self.entries c.self.inside.ids.entries c.remove.new.self.entries
    c.self.invariant c.in-Some.ensures.removal c.pop_first.ensures.ordered (λ name. c.remove.ensures.updates.0 name)
