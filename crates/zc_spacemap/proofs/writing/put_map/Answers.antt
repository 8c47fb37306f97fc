-- No byte, and one more byte.
use Rattle.std.proofs.Common.{arith}
use Rattle.zc_spacemap.specs.MapBytes.{map_byte, kept_places}
use Rattle.zc_spacemap.proofs.MapLaws.{put_none, put_more}
use Rattle.zc_spacemap.proofs.writing.put_map.Goals as goal

pub loop-index-init : goal.loop-index-init
loop-index-init g c = record {
  put = put_none c.reserve.new.self.items (map_byte (kept_places (g.M.SpaceMap.states c.args.map.now)));
  room = omega (arith, c.in_ok-reserve.ensures.ok);
}

pub loop-index-preserved : goal.loop-index-preserved
loop-index-preserved g c = record {
  put = put_more c.reserve.new.self.items c.loop-index.out.items c.push_reserved.new.self.items (map_byte (kept_places (g.M.SpaceMap.states c.args.map.now))) c.loop-index.index c.byte_at.result
      c.loop-index.invariant.put c.byte_at.ensures c.push_reserved.ensures.items;
  room = omega (arith, c.push_reserved.ensures.len, c.push_reserved.ensures.capacity, c.loop-index.invariant.room);
}
