use Rattle.std.proofs.Common.{◌≡◌, ◌∙◌, ap, sym, length, arith}
use Rattle.ghost_model.specs.laws.LayoutSums as sums
use Rattle.flash_layout.proofs.PlaceLemmas.{one_table_more}
use Rattle.flash_layout.proofs.adding.places_of_all.Goals as goal

pub loop-table-preserved : goal.loop-table-preserved
loop-table-preserved c =
    let step = c.a_catalog_has_a_layout.ensures.layout.order.next_spool c.loop-table.table in
    record {
      tables = one_table_more c.args.cat.now c.loop-table.table c.loop-table.tables.items c.push.new.self.items _ c.push.ensures.items c.loop-table.invariant.tables c.places_of-places.ensures.places;
      room = omega (arith, c.push.ensures.len, c.loop-table.invariant.room);
      begin = c.places_of-places.ensures.places.after;
      spool = omega (arith, step, c.loop-table.invariant.spool, c.spool_pages-half.ensures.value);
      most = c.places_of-places.ensures.most;
      few = omega (arith, c.loop-table.invariant.few, c.spool_pages-half.ensures.most);
    }

pub returns-clause-after : goal.returns-clause-after
returns-clause-after c =
    let all : c.loop-table.table ≡ length c.args.cat.now.schema =
    omega (arith, c.loop-table-test.false, c.loop-table.auto.table-end, c.tables-table-end.ensures.count ∙ ap length c.schema.ensures.value) in
    c.loop-table.invariant.begin ∙ ap (sums.table_begin c.args.cat.now) all ∙ sym c.a_catalog_has_a_layout.ensures.layout.sums.files_end
