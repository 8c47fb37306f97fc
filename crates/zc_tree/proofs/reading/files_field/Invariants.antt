use Rattle.std.proofs.Common.{◌≡◌, ◌-◌, ◌^◌, ◌<◌, ◌≤◌, []}
use Rattle.zc_num.specs.Limits.{pointers_of}
use Rattle.zc_tree.specs.NameSet.{Knows}
use Rattle.zc_tree.specs.Reading.{files_field}
use Rattle.zc_tree.proofs.Loops.{with_front, names_so_far}
use Rattle.zc_tree.proofs.reading.files_field.Given as goal

-- what is read and what is left to read are all; the set knows the names that were read
abbrev pub invariant-loop : goal.invariant-loop
invariant-loop l = record {
  joined : with_front l.files (files_field l.limits.devices l.limits.places l.next_file (l.count - l.counter) l.least l.used (names_so_far l.files) l.rest) ≡ files_field l.limits.devices l.limits.places l.next_file l.count 1 0 [] l.bytes;
  known : Knows l.names (names_so_far l.files);
  few : l.used ≤ pointers_of l.limits.devices l.limits.places;
  fits : l.least < 2 ^ 64;
}
