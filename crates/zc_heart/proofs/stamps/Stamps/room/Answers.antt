use Rattle.zc_heart.specs.File.{StaysCounted}
use Rattle.zc_heart.specs.declared.stamps.Stamp.{Stamp}
use Rattle.zc_heart.specs.declared.stamps.Count.{Count}
use Rattle.std.proofs.Common.{List, subst, ◌≡◌, ◌∙◌, None, Some, sym, ap, refl}
use Rattle.zc_heart.specs.Stamps.{KeepsRoom, files_of, pair_of, ptr_of}
use Rattle.zc_heart.proofs.StampLaws.{kept_in, none_of, reads_same, room_stays, stands_tried}
use Rattle.zc_heart.proofs.stamps.Stamps.room.Goals as goal

pub invariant_of-self-inside : goal.invariant_of-self-inside
invariant_of-self-inside c =
    let absent : kept_in c.self.inside.counts.entries (pair_of c.args.stamp) ≡ None = none_of _ (sym c.contains_key.ensures ∙ c.if-contains_key.false) in
    let same = stands_tried c.insert.result c.self.inside.counts.entries c.insert.new.self.entries c.args.stamp (record { files = 0; placed = None }) c.insert.ensures.was_ordered absent refl c.insert.ensures.entries c.insert.ensures.err in
    (c.self.inside.counted ∙ sym same, tt)

pub returns-clause-stays : goal.returns-clause-stays
returns-clause-stays c =
    let absent : kept_in c.self.inside.counts.entries (pair_of c.args.stamp) ≡ None = none_of _ (sym c.contains_key.ensures ∙ c.if-contains_key.false) in
    let room : Count = record { files = 0; placed = None } in
    subst (λ (before : List (Stamp × Count)). StaysCounted before c.insert.new.self.entries) c.self.view_is (record {
      files = reads_same files_of c.self.inside.counts.entries c.insert.new.self.entries c.args.stamp (Some room) c.in_ok-insert.ensures.updates.0 (ap files_of (sym absent));
      placed = reads_same ptr_of c.self.inside.counts.entries c.insert.new.self.entries c.args.stamp (Some room) c.in_ok-insert.ensures.updates.0 (ap ptr_of (sym absent));
    })

pub returns-clause-others : goal.returns-clause-others
returns-clause-others c = subst (λ (before : List (Stamp × Count)). KeepsRoom before c.insert.new.self.entries) c.self.view_is (room_stays c.self.inside.counts.entries c.insert.new.self.entries c.args.stamp (record { files = 0; placed = None }) c.in_ok-insert.ensures.updates.0)
