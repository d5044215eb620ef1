use Rattle.std.proofs.Common.{◌≡◌, ◌≤◌, ◌+◌, length, arith}
use Rattle.ghost_model.specs.forms.Layout as layout
use Rattle.ghost_model.specs.laws.LayoutSums as sums
use Rattle.flash_layout.proofs.adding.places_of.Goals as goal

pub returns-clause-places : goal.returns-clause-places
returns-clause-places c =
    let cat = c.args.cat.now in
    let table = c.args.table in
    let begin : c.index_begins-indexes.result.after ≡ sums.table_begin cat table + sums.columns_pages cat table + sums.subtree_pages cat table + sums.indexes_pages cat table = c.index_begins-indexes.ensures.after in
    let next : sums.table_begin cat (table + 1) ≡ sums.table_begin cat table + (sums.columns_pages cat table + (sums.subtree_pages cat table + (sums.indexes_pages cat table + sums.id_index_pages cat table))) = c.a_catalog_has_a_layout.ensures.layout.order.next_table table in
    record {
      below = c.tables_below-below.ensures.tables;
      columns = c.column_begins-columns.ensures.each;
      subtree = c.column_begins-columns.ensures.after;
      indexes = c.index_begins-indexes.ensures.each;
      id_index = c.index_begins-indexes.ensures.after;
      after = omega (arith, begin, next, c.id_index_pages.ensures.value);
      spool = c.requires.spool;
      few = c.requires.few;
      spool_width = c.spool_width.ensures.value;
    }

pub returns-clause-most : goal.returns-clause-most
returns-clause-most c =
    let laid = c.a_catalog_has_a_layout.ensures.layout in
    let few : length c.args.cat.now.schema ≤ 12 = laid.tree.few_tables in
    let small = laid.few.table_begin (c.args.table + 1) (omega (arith, few, c.requires.there)) in
    let cat = c.args.cat.now in
    let table = c.args.table in
    let begin : c.index_begins-indexes.result.after ≡ sums.table_begin cat table + sums.columns_pages cat table + sums.subtree_pages cat table + sums.indexes_pages cat table = c.index_begins-indexes.ensures.after in
    let next : sums.table_begin cat (table + 1) ≡ sums.table_begin cat table + (sums.columns_pages cat table + (sums.subtree_pages cat table + (sums.indexes_pages cat table + sums.id_index_pages cat table))) = laid.order.next_table table in
    omega (arith, begin, next, small, c.id_index_pages.ensures.value)
