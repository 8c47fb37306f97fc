use Rattle.std.proofs.Common.{◌≡◌, ◌-◌, ◌++◌, length, drop}
use Rattle.zc_catalog.specs.Chain.{chain_length, links}
use Rattle.zc_catalog.proofs.linking.link.Given as goal

-- the blocks that are made and those that are left are all; the bytes that are left take the places that are left
abbrev pub invariant-loop-index : goal.invariant-loop-index
invariant-loop-index l = record {
  joined : l.made.items ++ links (drop l.index l.at) l.rest ≡ links l.at l.bytes;
  left : length l.at - l.index ≡ chain_length (length l.rest);
}
