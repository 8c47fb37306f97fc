-- The last of the files has the highest number.
use Rattle.std.proofs.Common.{IsTrue, nat_lt, sym}
use Rattle.std.proofs.lemmas.Bool.{ltb-true}
use Rattle.zc_apply.proofs.RisingLaws.{last_is_highest}
use Rattle.zc_apply.specs.InParts.{Rises}
use Rattle.zc_apply.proofs.rising.is_after.Goals as goal

pub returns-in-Some : goal.returns-in-Some
returns-in-Some c = λ (below : IsTrue (nat_lt c.in-Some.file.now.id c.args.id)) (rise : Rises c.args.files.now).
    last_is_highest c.args.files.now c.in-Some.file.now c.args.id (sym c.in-Some.ensures.value) (ltb-true _ _ below) rise
