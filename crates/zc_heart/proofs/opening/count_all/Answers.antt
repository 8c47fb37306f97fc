use Rattle.std.proofs.Common.{◌≡◌, arith}
use Rattle.zc_blkptr.specs.declared.ptr.Ptr.{Ptr}
use Rattle.zc_heart.specs.Opening.{number_of}
use Rattle.zc_heart.proofs.FoundBlocks.{counted_more, all_from, known_none, where_none}
use Rattle.zc_heart.proofs.opening.count_all.Goals as goal

pub loop-ptr-init : goal.loop-ptr-init
loop-ptr-init c = record {
  files = λ stamp. let none = c.new-stamps.ensures.files stamp in omega (arith, none);
  places = λ placing all. (where_none placing c.new-stamps.result c.new-stamps.ensures.placed, all);
  known = known_none c.new-stamps.result c.new-stamps.ensures.files;
}

pub loop-ptr-preserved : goal.loop-ptr-preserved
loop-ptr-preserved c = record {
  files = λ stamp. counted_more stamp c.args.ptrs.now c.loop-ptr.ptr-index _ _ _ _ c.loop-ptr-test.true (c.in_ok-count_one.ensures.files stamp) (c.loop-ptr.invariant.files stamp);
  places = λ placing all.
      let was = c.loop-ptr.invariant.places placing all in
      let here = all_from (λ (ptr : Ptr). placing 0 (number_of ptr) ≡ ptr) c.args.ptrs.now c.loop-ptr.ptr-index _ c.loop-ptr-test.true was.1 in
      (c.in_ok-count_one.ensures.places placing was.0 here.0, here.1);
  known = c.in_ok-count_one.ensures.known c.loop-ptr.invariant.known;
}

pub returns-clause-places : goal.returns-clause-places
returns-clause-places c = λ placing all. (c.loop-ptr.invariant.places placing all).0
