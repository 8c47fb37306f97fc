-- One more file, a refused file, and the end.
use Rattle.std.proofs.Common.{◌≡◌, ◌++◌, ◌∷◌, [], ◌∙◌, sym, ap, arith}
use Rattle.std.proofs.lemmas.Result.{err_from_is_err_and}
use Rattle.zc_tree.specs.Names.{is_among}
use Rattle.zc_tree.specs.Reading.{files_field}
use Rattle.zc_tree.proofs.Loops.{files_go_on, files_end, files_done, names_so_far, names_more}
use Rattle.zc_tree.proofs.FileParts.{file_bounds}
use Rattle.zc_tree.proofs.reading.files_field.Goals as goal

pub returns-in_err-file : goal.returns-in_err-file
returns-in_err-file c =
    let p = err_from_is_err_and c.from_residual.result c.from_residual.ensures.1 in
    rw (p.1, p.2) (files_end c.in_err-file.field-0.0 c.args.limits.now.devices c.args.limits.now.places c.args.next_file c.args.count c.loop.counter c.loop.least c.loop.used c.loop.files c.loop.rest.now
    (files_field c.args.limits.now.devices c.args.limits.now.places c.args.next_file c.args.count 1 0 [] c.args.bytes.now) c.loop-test.true (c.in_err-file.ensures (names_so_far c.loop.files) c.loop.invariant.known) c.loop.invariant.joined)

pub overflow_add-least : goal.overflow_add-least
overflow_add-least c =
    let bounds = file_bounds c.args.limits.now.devices c.args.limits.now.places c.args.next_file c.loop.least c.loop.used (names_so_far c.loop.files) c.loop.rest.now (c.in_ok-file.file, c.in_ok-file.after.now)
    (c.in_ok-file.ensures (names_so_far c.loop.files) c.loop.invariant.known) in
    omega (arith, bounds.below_next)

pub loop-preserved : goal.loop-preserved
loop-preserved c =
    let bounds = file_bounds c.args.limits.now.devices c.args.limits.now.places c.args.next_file c.loop.least c.loop.used (names_so_far c.loop.files) c.loop.rest.now (c.in_ok-file.file, c.in_ok-file.after.now)
    (c.in_ok-file.ensures (names_so_far c.loop.files) c.loop.invariant.known) in
    let put : c.push.new.self ≡ c.loop.files ++ c.in_ok-file.file ∷ [] = c.in_ok-push.ensures.ok in
    record {
      joined = rw (put, c.len.ensures.len) (files_go_on c.args.limits.now.devices c.args.limits.now.places c.args.next_file c.args.count c.loop.counter c.loop.least c.loop.used c.loop.files c.loop.rest.now
          c.in_ok-file.after.now c.in_ok-file.file (files_field c.args.limits.now.devices c.args.limits.now.places c.args.next_file c.args.count 1 0 [] c.args.bytes.now) c.loop-test.true
          (c.in_ok-file.ensures (names_so_far c.loop.files) c.loop.invariant.known) c.loop.invariant.joined);
      known = λ name. c.in_ok-add.ensures.ok (names_so_far c.loop.files) c.loop.invariant.known name ∙ ap (is_among name) (sym (ap names_so_far put ∙ names_more c.loop.files c.in_ok-file.file));
      few = omega (arith, bounds.few, c.len.ensures.len);
      fits = omega (arith, bounds.below_next);
    }

pub returns : goal.returns
returns c =
    files_done c.args.limits.now.devices c.args.limits.now.places c.args.next_file c.args.count c.loop.counter c.loop.least c.loop.used c.loop.files c.loop.rest.now
    (files_field c.args.limits.now.devices c.args.limits.now.places c.args.next_file c.args.count 1 0 [] c.args.bytes.now) c.loop-test.false c.loop.invariant.joined
