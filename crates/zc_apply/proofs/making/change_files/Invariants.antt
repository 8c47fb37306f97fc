use Rattle.std.proofs.Common.{◌≡◌}
use Rattle.zc_heart.specs.Changes.{number_of_file}
use Rattle.zc_apply.specs.InParts.{by_number, in_one_file, changed_up_to}
use Rattle.zc_apply.proofs.making.change_files.Given as goal

-- those so far are changed
abbrev pub invariant-loop-k : goal.invariant-loop-k
invariant-loop-k l = l.files ≡ changed_up_to (by_number number_of_file l.id (in_one_file l.change l.ptr)) l.k l.fn.files
