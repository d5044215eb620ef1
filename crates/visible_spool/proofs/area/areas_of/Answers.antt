use Rattle.std.proofs.Common.{arith}
use Rattle.visible_spool.proofs.AreaLemmas.{one_area_more}
use Rattle.visible_spool.proofs.area.areas_of.Goals as goal

pub loop-table-preserved : goal.loop-table-preserved
loop-table-preserved c = record {
  areas = one_area_more c.args.laid.now c.loop-table.table c.loop-table.areas.items c.push.new.self.items c.area_of.result c.push.ensures.items c.loop-table.invariant.areas c.area_of.ensures.area c.area_of.ensures.writable;
  room = omega (arith, c.push.ensures.len, c.loop-table.invariant.room);
}
