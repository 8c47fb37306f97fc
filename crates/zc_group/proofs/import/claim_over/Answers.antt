-- The claim group leads on from what was found.
use Rattle.std.proofs.Common.{◌∙◌, refl, inr}
use Rattle.zc_tree.specs.Reach.{pointers_of_tree}
use Rattle.zc_group.specs.Counted.{IsFailed}
use Rattle.zc_group.specs.declared.import.ImportFault.TheVariants.{NoMemory, DiskFault}
use Rattle.zc_group.proofs.ImportLaws.{claim_reach, claim_datasets, claim_made, claim_failed, claim_taken}
use Rattle.zc_group.proofs.import.claim_over.Goals as goal

pub lead-requires-clause-reach_there : goal.lead-requires-clause-reach_there
lead-requires-clause-reach_there g c =
    claim_reach (g.D.DiskSet.shape c.args.disks.now) (g.D.DiskSet.tape c.args.disks.now) c.args.found c.requires.found c.args.limits.devices c.args.limits.places c.as_slice-2.result.now
    c.requires.devices c.requires.places (c.as_slice-2.ensures.value ∙ c.requires.reach)

pub lead-requires-clause-datasets : goal.lead-requires-clause-datasets
lead-requires-clause-datasets g c =
    claim_datasets (g.D.DiskSet.shape c.args.disks.now) (g.D.DiskSet.tape c.args.disks.now) c.args.found c.requires.found c.args.limits.devices c.args.limits.places c.requires.devices c.requires.places

pub returns-in-Ok-clause-places : goal.returns-in-Ok-clause-places
returns-in-Ok-clause-places g c = record {
  reach = claim_reach (g.D.DiskSet.shape c.args.disks.now) (g.D.DiskSet.tape c.args.disks.now) c.args.found c.requires.found c.args.limits.devices c.args.limits.places
      (pointers_of_tree c.args.found.parts.tree) c.requires.devices c.requires.places refl;
  chain = c.in-Ok.ensures.chain_there;
}

pub returns-in-Ok-clause-tree : goal.returns-in-Ok-clause-tree
returns-in-Ok-clause-tree g c =
    claim_taken (g.D.DiskSet.shape c.args.disks.now) (g.D.DiskSet.tape c.args.disks.now) c.args.found c.requires.found c.args.limits c.requires.devices c.requires.places

pub returns-in-Ok-clause-answers : goal.returns-in-Ok-clause-answers
returns-in-Ok-clause-answers g c =
    claim_made (g.D.DiskSet.shape c.args.disks.now) (g.D.DiskSet.tape c.args.disks.now) c.args.found c.requires.found c.as_slice.result.now c.as_slice-2.result.now c.new.result
    c.as_slice.ensures (c.as_slice-2.ensures.value ∙ c.requires.reach) c.new.ensures (g.D.DiskSet.tape c.lead.new.disks) c.in-Ok.ensures.any_moment c.in-Ok.ensures.begun _ _ _
    c.in-Ok.ensures.made (record { devices = c.requires.devices; places = c.requires.places }) refl refl refl refl refl

pub returns-in-Err-NoMemory-clause-answers : goal.returns-in-Err-NoMemory-clause-answers
returns-in-Err-NoMemory-clause-answers g c =
    claim_failed (g.D.DiskSet.shape c.args.disks.now) (g.D.DiskSet.tape c.args.disks.now) c.args.found c.requires.found c.as_slice.result.now c.as_slice-2.result.now c.new.result
    c.as_slice.ensures (c.as_slice-2.ensures.value ∙ c.requires.reach) c.new.ensures (g.D.DiskSet.tape c.lead.new.disks) c.lead.ensures.any_moment c.lead.ensures.begun NoMemory tt (λ is told. absurd cc)

pub returns-clause-answers : goal.returns-clause-answers
returns-clause-answers g c =
    let failed : IsFailed c.in-Err-Failed.field-0 = rw c.in-Err-Failed.field-0-is tt in
    claim_failed (g.D.DiskSet.shape c.args.disks.now) (g.D.DiskSet.tape c.args.disks.now) c.args.found c.requires.found c.as_slice.result.now c.as_slice-2.result.now c.new.result
    c.as_slice.ensures (c.as_slice-2.ensures.value ∙ c.requires.reach) c.new.ensures (g.D.DiskSet.tape c.lead.new.disks) c.lead.ensures.any_moment c.lead.ensures.begun DiskFault tt (λ is told. inr (c.in-Err-Failed.ensures.first_failed failed told))
