use Rattle.zc_root.proofs.Written.{two_written}
use Rattle.zc_root.proofs.writing.join.Goals as goal

pub returns : goal.returns
returns c =
    two_written 4064 32 c.args.out.now c.copy_from_slice.new.self c.copy_from_slice-2.new.self c.args.front.now c.args.back.now
    c.told-out c.told-front c.copy_from_slice.ensures.after c.copy_from_slice-2.ensures.after
