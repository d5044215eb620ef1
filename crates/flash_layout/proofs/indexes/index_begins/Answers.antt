use Rattle.std.proofs.Common.{◌≡◌, ◌+◌, arith}
use Rattle.ghost_model.specs.laws.LayoutSums as sums
use Rattle.flash_layout.proofs.ByPlace.{one_more}
use Rattle.flash_layout.proofs.indexes.index_begins.Goals as goal

pub loop-column-preserved : goal.loop-column-preserved
loop-column-preserved c =
    let cat = c.args.cat.now in
    let table = c.args.table in
    let column = c.loop-column.column in
    let before : c.loop-column.after ≡ sums.indexes_begin cat table + sums.index_pages_before cat table column = c.loop-column.invariant.next in
    let step = c.a_catalog_has_a_layout.ensures.layout.order.next_index table column in
    let next : c.loop-column.after + c.index_pages-after.result ≡ sums.indexes_begin cat table + sums.index_pages_before cat table (column + 1) =
    omega (arith, before, step, c.index_pages-after.ensures.value) in
    record {
      each = one_more (sums.index_begin cat table) column c.loop-column.each.items c.push.new.self.items _ c.push.ensures.items c.loop-column.invariant.each c.loop-column.invariant.next;
      room = omega (arith, c.push.ensures.len, c.loop-column.invariant.room);
      next = next;
      most = omega (arith, c.index_pages-after.ensures.most, c.loop-column.invariant.most);
    }
