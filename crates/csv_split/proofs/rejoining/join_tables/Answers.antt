use Rattle.std.proofs.Common.{arith}
use Rattle.std.specs.Vec.Iter.{into_iter_items}
use Rattle.csv_split.specs.Reading.{columns_of, with_identifier}
use Rattle.csv_split.proofs.RejoinedParts.{one_rejoined}
use Rattle.csv_split.proofs.rejoining.join_tables.Goals as goal

pub loop-table-preserved : goal.loop-table-preserved
loop-table-preserved c =
    let many = c.tables-table-end.ensures.count in
    one_rejoined c.args.schema.now c.loop-table.table (with_identifier (columns_of c.declared_columns-declared.result.now)) c.args.visible.items c.args.kept.items
    (into_iter_items c.loop-table.visible_left) (into_iter_items c.loop-table.kept_left) (into_iter_items c.next_part-one.new.left) (into_iter_items c.next_part-other.new.left)
    c.next_part-one.result c.next_part-other.result c.loop-table.tables c.join_next.new.tables
    c.loop-table.invariant (omega arith) c.declared_columns-declared.ensures.columns
    c.next_part-one.ensures.first c.next_part-one.ensures.left c.next_part-other.ensures.first c.next_part-other.ensures.left c.in_ok-join_next.ensures
