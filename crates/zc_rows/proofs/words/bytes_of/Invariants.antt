-- What is left of the word grows shorter.
use Rattle.std.proofs.Common.{length}
use Rattle.zc_rows.proofs.words.bytes_of.Given as goal

abbrev pub decreases-loop-rest : goal.decreases-loop-rest
decreases-loop-rest l = length l.rest
