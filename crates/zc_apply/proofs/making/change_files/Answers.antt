-- Each file is changed in turn, and outside of the places that were found none has the number.
use Rattle.std.proofs.Common.{◌≡◌, ◌∙◌, length, ap, arith}
use Rattle.zc_heart.specs.Changes.{number_of_file}
use Rattle.zc_apply.specs.InParts.{by_number, in_one_file}
use Rattle.zc_apply.proofs.MappedLaws.{length_changed, one_more_changed, before_first, after_last}
use Rattle.zc_apply.proofs.making.change_files.Goals as goal

pub loop-k-init : goal.loop-k-init
loop-k-init c =
    let within = rw c.as_slice.ensures at c.places_of-first.ensures in
    before_first c.args.files.now c.args.id c.places_of-first.result.0 c.places_of-first.result.1 (in_one_file c.args.change.now c.args.ptr) within

pub change_file_at-requires : goal.change_file_at-requires
change_file_at-requires c =
    let within = rw c.as_slice.ensures at c.places_of-first.ensures in
    let change = by_number number_of_file c.args.id (in_one_file c.args.change.now c.args.ptr) in
    let long : length c.loop-k.files ≡ length c.args.files.now = ap length c.loop-k.invariant ∙ length_changed change c.loop-k.k c.args.files.now in
    omega (arith, long, within.fits, c.loop-k-test.true)

pub loop-k-preserved : goal.loop-k-preserved
loop-k-preserved c =
    one_more_changed (by_number number_of_file c.args.id (in_one_file c.args.change.now c.args.ptr)) c.loop-k.k c.args.files.now c.loop-k.files c.change_file_at.new.files c.loop-k.invariant c.in_ok-change_file_at.ensures

pub returns : goal.returns
returns c =
    let within = rw c.as_slice.ensures at c.places_of-first.ensures in
    after_last c.args.files.now c.loop-k.files c.args.id c.places_of-first.result.0 c.places_of-first.result.1 c.loop-k.k (in_one_file c.args.change.now c.args.ptr) within c.loop-k-test.false c.loop-k.invariant
