use Rattle.std.specs.Vec.Iter.{into_iter_items}
use Rattle.csv_split.proofs.RejoinedParts.{no_more_merged, one_merged}
use Rattle.csv_split.proofs.rejoining.join_columns.Goals as goal

pub returns-in_default : goal.returns-in_default
returns-in_default c =
    no_more_merged c.args.declared.now c.loop-column.column-index c.column-item.result c.args.visible.items c.args.kept.items (into_iter_items c.loop-column.visible_left) (into_iter_items c.loop-column.kept_left)
    (into_iter_items c.next_column.new.visible) (into_iter_items c.next_column.new.kept) c.loop-column.columns.items
    c.loop-column.invariant c.loop-column-test.true c.column-item.is c.in_default.ensures

pub loop-column-preserved : goal.loop-column-preserved
loop-column-preserved c =
    one_merged c.args.declared.now c.loop-column.column-index c.column-item.result c.args.visible.items c.args.kept.items (into_iter_items c.loop-column.visible_left) (into_iter_items c.loop-column.kept_left)
    (into_iter_items c.next_column.new.visible) (into_iter_items c.next_column.new.kept) c.loop-column.columns.items c.put.new.columns.items c.in-Some.cells
    c.loop-column.invariant c.loop-column-test.true c.column-item.is c.in-Some.ensures c.in_ok-put.ensures
