-- The last of the blocks that are left is put in front of those that were.
use Rattle.std.proofs.Common.{◌≡◌, ℕ, ◌+◌, ◌-◌, ◌==◌, [], length, get_or, sym, ap, subst, ◌∙◌, arith}
use Rattle.zc_plain.specs.declared.plain_pool.PlainBlock.TheVariants.{Made}
use Rattle.zc_heart.specs.File.{Marks}
use Rattle.zc_heart.specs.Steps.{PutsAll, Sets, AreUnused}
use Rattle.zc_heart.proofs.PartLaws.{front_is, last_is, longer_is}
use Rattle.zc_heart.proofs.WriteLaws.{puts_more}
use Rattle.zc_heart.proofs.writing.put_blocks.Goals as goal

pub loop-bytes-preserved : goal.loop-bytes-preserved
loop-bytes-preserved c =
    let made = c.args.made.items in
    let first = c.args.first in
    let number = c.args.number in
    let old = c.loop-bytes.left.items in
    let left = c.pop.new.self.items in
    let bytes = c.in-Some.bytes in
    let before = c.loop-bytes.invariant in
    let file = c.loop-bytes.file in
    let new = c.put_block.new.self in
    let parts = c.in-Some.ensures.items in
    let longer : length old ≡ length left + 1 = longer_is left old bytes parts in
    let counted : c.len.result ≡ length left = omega (arith, c.len.ensures, c.pop.new.self.ok.0) in
    let at : first + c.len.result ≡ first + length left = ap (λ (n : ℕ). first + n) counted in
    let next : first + length old ≡ first + length left + 1 = omega (arith, longer) in
    let place : first + length left - first ≡ length left = omega arith in
    let item : bytes ≡ get_or made (first + length left - first) [] = last_is left old made bytes [] parts before.front before.long ∙ sym (ap (λ (k : ℕ). get_or made k []) place) in
    let sets : Sets (first + length left) (Made number (first + length left) bytes) file new = subst (λ (n : ℕ). Sets n (Made number n bytes) file new) at c.put_block.ensures.block in
    let marks : Marks (λ k. k == first + length left) file new = subst (λ (n : ℕ). Marks (λ k. k == n) file new) at c.put_block.ensures.marks in
    let puts : PutsAll number first made (first + length left + 1) c.args.file.now file c.args.stamps.now c.loop-bytes.stamps =
    subst (λ (n : ℕ). PutsAll number first made n c.args.file.now file c.args.stamps.now c.loop-bytes.stamps) next before.puts in
    record {
      front = front_is left old made bytes bytes parts before.front before.long;
      long = omega (arith, longer, before.long);
      puts = puts_more number first made (first + length left) c.args.file.now file new c.args.stamps.now c.loop-bytes.stamps c.put_block.new.stamps bytes puts (omega arith) (omega (arith, longer, before.long)) item
          c.put_block.ensures.heart sets marks c.put_block.ensures.counts;
      room = λ k from until.
          let room = before.room k from (omega (arith, until, next)) in
          (sets.room k (λ same. absurd (omega (arith, same, until))) room.0, sets.mark_room k (λ same. absurd (omega (arith, same, until))) room.1);
      stamp_room = λ k from until. c.put_block.ensures.rooms k (omega (arith, until, at)) (before.stamp_room k from (omega (arith, until, next)));
      fresh = subst (λ (n : ℕ). AreUnused number n c.put_block.new.stamps) at c.put_block.ensures.fresh;
    }
