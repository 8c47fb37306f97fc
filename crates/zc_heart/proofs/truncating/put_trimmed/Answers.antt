-- The block that is trimmed is put, where there is one.
use Rattle.std.proofs.Common.{◌/◌, ap}
use Rattle.std.specs.Prelude.{is_some}
use Rattle.zc_plain.specs.Truncated.{is_trimmed}
use Rattle.zc_heart.specs.Core.{plain_blocks}
use Rattle.zc_heart.specs.Steps.{trimmed_bytes}
use Rattle.zc_heart.proofs.CutLaws.{trimmed_made, trimmed_not_made, trimmed_inside, puts_trimmed, puts_no_trimmed}
use Rattle.zc_heart.proofs.truncating.put_trimmed.Goals as goal

pub put_block-requires-clause-within : goal.put_block-requires-clause-within
put_block-requires-clause-within c =
    let file = c.args.file.now in
    let size = c.args.size in
    let made = trimmed_made (is_trimmed file.size size (plain_blocks file) (size / 4096)) c.args.trimmed c.in-Some.bytes (trimmed_bytes size file (size / 4096)) c.requires.trimmed.bytes c.in-Some.is in
    (trimmed_inside file.size size (plain_blocks file) made.0).0

pub put_block-requires-clause-room : goal.put_block-requires-clause-room
put_block-requires-clause-room c = c.requires.trimmed.room (ap is_some c.in-Some.is)

pub put_block-requires-clause-stamp : goal.put_block-requires-clause-stamp
put_block-requires-clause-stamp c = c.requires.trimmed.stamp_room (ap is_some c.in-Some.is)

pub returns-in-Some : goal.returns-in-Some
returns-in-Some c =
    let file = c.args.file.now in
    let size = c.args.size in
    let made = trimmed_made (is_trimmed file.size size (plain_blocks file) (size / 4096)) c.args.trimmed c.in-Some.bytes (trimmed_bytes size file (size / 4096)) c.requires.trimmed.bytes c.in-Some.is in
    puts_trimmed c.args.number size c.in-Some.bytes file c.put_block.new.self c.args.stamps.now c.put_block.new.stamps c.requires.heart made.0 made.1
    c.put_block.ensures.heart c.put_block.ensures.block c.put_block.ensures.marks c.put_block.ensures.counts

pub returns-in-None : goal.returns-in-None
returns-in-None c =
    let file = c.args.file.now in
    let size = c.args.size in
    puts_no_trimmed c.args.number size file c.args.stamps.now c.requires.heart
    (trimmed_not_made (is_trimmed file.size size (plain_blocks file) (size / 4096)) c.args.trimmed (trimmed_bytes size file (size / 4096)) c.requires.trimmed.bytes c.in-None.is)
