-- Each file of a plain pool is plain.
use Rattle.std.proofs.Common.{sym, subst}
use Rattle.zc_plain.specs.IsPlain.{IsPlainFile}
use Rattle.zc_plain.proofs.PlainLaws.{plain_file_at}
use Rattle.zc_plain.proofs.plain.Plain.file.Goals as goal

pub returns-in-Ok-clause-plain : goal.returns-in-Ok-clause-plain
returns-in-Ok-clause-plain c = subst IsPlainFile (sym c.file_at.ensures) (plain_file_at c.self.inside.pool c.in-Ok.path c.self.invariant.plain)
