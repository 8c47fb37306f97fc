-- Each field has its type's width.
use Rattle.std.proofs.Common.{arith, rules}
use Rattle.zc_root.proofs.reading.fields_in.Goals as goal

pub returns-clause-widths : goal.returns-clause-widths
returns-clause-widths c = record {
  pool = omega arith;
  group = omega arith;
  devices = omega arith;
  places = omega arith;
  next_dataset = omega arith;
  first_device = omega arith;
  first_place = omega arith;
  chain = omega arith;
  catalogue = omega arith;
  digest = search rules;
  digest_fits = search rules;
}
