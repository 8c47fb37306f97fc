-- A plain pool has few pointers, and so many bytes touch few blocks.
use Rattle.std.proofs.Common.{◌≤◌, arith}
use Rattle.zc_plain.specs.PlainPool.{pointers_in}
use Rattle.zc_plain.proofs.FewBlocks.{few_pointers, few_holes}
use Rattle.zc_plain.proofs.room.room_in_file.Goals as goal

pub pointers_in-held-requires : goal.pointers_in-held-requires
pointers_in-held-requires c =
    let few : pointers_in c.dataset_at.result.now ≤ 67108864 = rw (c.dataset_at.ensures.value) (few_pointers c.args.pool.now c.args.path.dataset c.requires.plain) in
    omega (arith, few)

pub overflow_add-held : goal.overflow_add-held
overflow_add-held c =
    let few : pointers_in c.dataset_at.result.now ≤ 67108864 = rw (c.dataset_at.ensures.value) (few_pointers c.args.pool.now c.args.path.dataset c.requires.plain) in
    omega (arith, few, c.pointers_in-held.ensures, c.holes_touched-more.ensures, few_holes c.args.offset c.args.len c.file_at.result.now.blocks, c.requires.fits)
