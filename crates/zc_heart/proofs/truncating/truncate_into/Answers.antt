-- There is room, the block that is trimmed is put, those after it go, and the size is set.
use Rattle.std.proofs.Common.{arith}
use Rattle.zc_heart.specs.File.{StaysFile}
use Rattle.zc_heart.proofs.StepLaws.{on_err_always, keeps_on, kept_heart, kept_stays, counts_kept, counted_on, new_stays}
use Rattle.zc_heart.proofs.CutLaws.{IsTruncating, trimmed_kept, heart_truncated, truncation_done, truncation_counted}
use Rattle.zc_heart.proofs.truncating.truncate_into.Goals as goal

pub returns-in_err-trimmed-clause-err : goal.returns-in_err-trimmed-clause-err
returns-in_err-trimmed-clause-err c =
    on_err_always c.from_residual.result (StaysFile c.args.file.now c.make_trimmed.new.file) (kept_stays c.args.file.now c.make_trimmed.new.file c.make_trimmed.ensures.file)

pub returns-in_err-make_mark_rooms-clause-err : goal.returns-in_err-make_mark_rooms-clause-err
returns-in_err-make_mark_rooms-clause-err c =
    let first = c.make_trimmed.new.file in
    let roomy = c.make_mark_rooms.new.file in
    let keeps = keeps_on c.args.file.now first roomy c.make_trimmed.ensures.file c.make_mark_rooms.ensures.kept in
    on_err_always c.from_residual-in_err-make_mark_rooms.result (StaysFile c.args.file.now roomy) (kept_stays c.args.file.now roomy keeps)

pub put_trimmed-requires : goal.put_trimmed-requires
put_trimmed-requires c =
    let first = c.make_trimmed.new.file in
    let roomy = c.make_mark_rooms.new.file in
    let keeps = keeps_on c.args.file.now first roomy c.make_trimmed.ensures.file c.make_mark_rooms.ensures.kept in
    record {
      heart = kept_heart c.args.file.now roomy c.requires.heart keeps;
      fits = c.requires.fits;
      fitted = omega (arith, c.requires.fitted, keeps.size);
      trimmed = trimmed_kept c.args.number c.args.size c.in_ok-trimmed.trimmed c.args.file.now first roomy c.make_trimmed.new.stamps c.in_ok-trimmed.ensures.trimmed c.make_trimmed.ensures.file c.make_mark_rooms.ensures.kept;
      counted = counted_on c.args.stamps.now c.make_trimmed.new.stamps c.args.file.now roomy c.requires.counted (counts_kept c.args.stamps.now c.make_trimmed.new.stamps c.args.file.now roomy c.make_trimmed.ensures.stamps keeps);
      new = new_stays c.args.number c.args.stamps.now c.make_trimmed.new.stamps c.requires.new c.make_trimmed.ensures.stamps;
    }

pub drop_blocks-requires : goal.drop_blocks-requires
drop_blocks-requires c =
    let first = c.make_trimmed.new.file in
    let roomy = c.make_mark_rooms.new.file in
    let keeps = keeps_on c.args.file.now first roomy c.make_trimmed.ensures.file c.make_mark_rooms.ensures.kept in
    let counted = counted_on c.args.stamps.now c.make_trimmed.new.stamps c.args.file.now roomy c.requires.counted (counts_kept c.args.stamps.now c.make_trimmed.new.stamps c.args.file.now roomy c.make_trimmed.ensures.stamps keeps) in
    record {
      heart = c.put_trimmed.ensures.heart;
      fits = c.requires.fits;
      fitted = omega (arith, c.requires.fitted, keeps.size, c.put_trimmed.ensures.size_is);
      room = λ k past until. c.put_trimmed.ensures.room k past (c.in_ok-make_mark_rooms.ensures.room k past (omega (arith, until, c.put_trimmed.ensures.size_is, c.make_mark_rooms.ensures.kept.size)));
      counted = counted_on c.make_trimmed.new.stamps c.put_trimmed.new.stamps roomy c.put_trimmed.new.file counted c.put_trimmed.ensures.counts;
    }

pub returns-clause-heart : goal.returns-clause-heart
returns-clause-heart c =
    let first = c.make_trimmed.new.file in
    let roomy = c.make_mark_rooms.new.file in
    let keeps = keeps_on c.args.file.now first roomy c.make_trimmed.ensures.file c.make_mark_rooms.ensures.kept in
    let is : IsTruncating c.args.number c.args.size c.args.file.now roomy c.put_trimmed.new.file c.drop_blocks.new.file c.set_size.new.self c.args.stamps.now c.make_trimmed.new.stamps c.put_trimmed.new.stamps c.drop_blocks.new.stamps =
    record { heart = c.requires.heart; keeps = keeps; stays = c.make_trimmed.ensures.stamps; puts = c.put_trimmed.ensures; drops = c.drop_blocks.ensures; new_is = c.set_size.ensures } in
    heart_truncated c.args.number c.args.size c.args.file.now roomy c.put_trimmed.new.file c.drop_blocks.new.file c.set_size.new.self c.args.stamps.now c.make_trimmed.new.stamps c.put_trimmed.new.stamps c.drop_blocks.new.stamps is

pub returns-clause-ok : goal.returns-clause-ok
returns-clause-ok c =
    let first = c.make_trimmed.new.file in
    let roomy = c.make_mark_rooms.new.file in
    let keeps = keeps_on c.args.file.now first roomy c.make_trimmed.ensures.file c.make_mark_rooms.ensures.kept in
    let is : IsTruncating c.args.number c.args.size c.args.file.now roomy c.put_trimmed.new.file c.drop_blocks.new.file c.set_size.new.self c.args.stamps.now c.make_trimmed.new.stamps c.put_trimmed.new.stamps c.drop_blocks.new.stamps =
    record { heart = c.requires.heart; keeps = keeps; stays = c.make_trimmed.ensures.stamps; puts = c.put_trimmed.ensures; drops = c.drop_blocks.ensures; new_is = c.set_size.ensures } in
    truncation_done c.args.number c.args.size c.args.file.now roomy c.put_trimmed.new.file c.drop_blocks.new.file c.set_size.new.self c.args.stamps.now c.make_trimmed.new.stamps c.put_trimmed.new.stamps c.drop_blocks.new.stamps is

pub returns-clause-counts : goal.returns-clause-counts
returns-clause-counts c =
    let first = c.make_trimmed.new.file in
    let roomy = c.make_mark_rooms.new.file in
    let keeps = keeps_on c.args.file.now first roomy c.make_trimmed.ensures.file c.make_mark_rooms.ensures.kept in
    let is : IsTruncating c.args.number c.args.size c.args.file.now roomy c.put_trimmed.new.file c.drop_blocks.new.file c.set_size.new.self c.args.stamps.now c.make_trimmed.new.stamps c.put_trimmed.new.stamps c.drop_blocks.new.stamps =
    record { heart = c.requires.heart; keeps = keeps; stays = c.make_trimmed.ensures.stamps; puts = c.put_trimmed.ensures; drops = c.drop_blocks.ensures; new_is = c.set_size.ensures } in
    truncation_counted c.args.number c.args.size c.args.file.now roomy c.put_trimmed.new.file c.drop_blocks.new.file c.set_size.new.self c.args.stamps.now c.make_trimmed.new.stamps c.put_trimmed.new.stamps c.drop_blocks.new.stamps is
