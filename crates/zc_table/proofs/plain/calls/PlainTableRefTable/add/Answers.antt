-- The counters and the sum of all counts follow the counts.
use Rattle.std.proofs.Common.{ℕ, ◌∙◌, ◌+◌, ◌/◌, List, get_or, sym, ap}
use Rattle.std.proofs.Math.ListN.{set}
use Rattle.zc_table.specs.Counts.{regions_of, saved_of}
use Rattle.zc_table.proofs.RegionLaws.{regions_added, saved_added}
use Rattle.zc_table.proofs.plain.calls.PlainTableRefTable.add.Goals as goal

pub invariant_of-self-clause-sums : goal.invariant_of-self-clause-sums
invariant_of-self-clause-sums c =
    c.raise-2.ensures
    ∙ ap (λ (r : List ℕ). set r (c.args.place / 64) (get_or r (c.args.place / 64) 0 + c.args.n)) c.args.self.now.sums
    ∙ regions_added c.args.self.now.counts.items c.args.place c.args.n c.requires.there
    ∙ ap regions_of (sym c.raise.ensures)

pub invariant_of-self-clause-references : goal.invariant_of-self-clause-references
invariant_of-self-clause-references c =
    ap (λ (s : ℕ). s + c.from.result) c.args.self.now.references
    ∙ ap (λ (k : ℕ). saved_of c.args.self.now.counts.items + k) c.from.ensures
    ∙ sym (saved_added c.args.self.now.counts.items c.args.place c.args.n c.requires.there)
    ∙ ap saved_of (sym c.raise.ensures)
