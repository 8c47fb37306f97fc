-- One more entry, a refused entry, and the end.
use Rattle.std.proofs.Common.{◌≡◌, ◌+◌, ◌++◌, ◌∷◌, [], ◌∙◌, arith}
use Rattle.std.proofs.lemmas.Result.{err_from_is_err_and}
use Rattle.zc_num.proofs.Entries.{put_last}
use Rattle.zc_tree.specs.Reading.{entries_field}
use Rattle.zc_tree.proofs.Loops.{entries_go_on, entries_end, entries_done, entry_least, all_below_more, all_below_greater}
use Rattle.zc_tree.proofs.reading.entries_field.Goals as goal

pub returns-in_err-block : goal.returns-in_err-block
returns-in_err-block c =
    let p = err_from_is_err_and c.from_residual.result c.from_residual.ensures.1 in
    rw (p.1, p.2) (entries_end c.in_err-block.field-0.0 c.args.limits.now.devices c.args.limits.now.places c.args.size c.args.count c.loop.counter c.loop.least c.loop.slots c.loop.rest.now
    (entries_field c.args.limits.now.devices c.args.limits.now.places c.args.size c.args.count 0 c.args.bytes.now) c.loop-test.true c.in_err-block.ensures c.loop.invariant.joined)

pub loop-preserved : goal.loop-preserved
loop-preserved c =
    let block = c.in_ok-block.block in
    let least = entry_least c.args.limits.now.devices c.args.limits.now.places c.args.size c.loop.least c.loop.rest.now ((block, c.in_ok-block.ptr), c.in_ok-block.after.now) c.in_ok-block.ensures in
    let put : c.insert.new.self ≡ c.loop.slots ++ (block, c.in_ok-block.ptr) ∷ [] =
    c.in_ok-insert.ensures.entries ∙ put_last block c.in_ok-block.ptr c.loop.slots (all_below_greater c.loop.slots c.loop.least block least c.loop.invariant.below) in
    record {
      joined = rw (put, c.from-least.ensures) (entries_go_on c.args.limits.now.devices c.args.limits.now.places c.args.size c.args.count c.loop.counter c.loop.least c.loop.slots c.loop.rest.now
          c.in_ok-block.after.now (block, c.in_ok-block.ptr) (entries_field c.args.limits.now.devices c.args.limits.now.places c.args.size c.args.count 0 c.args.bytes.now) c.loop-test.true c.in_ok-block.ensures c.loop.invariant.joined);
      below = rw (put, c.from-least.ensures) (all_below_more c.loop.slots c.loop.least (block + 1) block c.in_ok-block.ptr (omega arith) (omega arith) c.loop.invariant.below);
    }

pub returns : goal.returns
returns c =
    entries_done c.args.limits.now.devices c.args.limits.now.places c.args.size c.args.count c.loop.counter c.loop.least c.loop.slots c.loop.rest.now
    (entries_field c.args.limits.now.devices c.args.limits.now.places c.args.size c.args.count 0 c.args.bytes.now) c.loop-test.false c.loop.invariant.joined
