-- The name that was added is known besides.
use Rattle.std.proofs.Common.{ℕ, List, ◌∷◌, ap, ◌∙◌, nat_cmp}
use Rattle.std.specs.BTreeSet as set
use Rattle.std.specs.Cmp.Lexicographic.{slice_cmp}
use Rattle.zc_tree.specs.Names.{is_among}
use Rattle.zc_tree.proofs.NameLaws.{known_more}
use Rattle.zc_tree.proofs.names.NameSet.add.Goals as goal

pub returns : goal.returns
returns c = record {
  ok = λ names knows name.
      known_more c.in_ok-clone.field-0 name names (set.contains (slice_cmp nat_cmp) c.args.self.now.set name) (set.contains (slice_cmp nat_cmp) c.insert.new.self name)
      (c.in_ok-insert.ensures.updates.0 name) (knows name)
      ∙ ap (λ (added : List ℕ). is_among name (added ∷ names)) c.in_ok-clone.ensures;
}
