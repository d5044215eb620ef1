use Rattle.std.specs.Vec.Iter.{into_iter_items}
use Rattle.csv_split.proofs.SplitParts.{one_parted}
use Rattle.csv_split.proofs.splitting.split_columns.Goals as goal

pub loop-column-preserved : goal.loop-column-preserved
loop-column-preserved c =
    one_parted c.args.declared.now c.loop-column.column-index c.column-item.result c.args.columns.items (into_iter_items c.loop-column.left) (into_iter_items c.put_next.new.left)
    c.loop-column.visible.items c.put_next.new.visible.items c.loop-column.kept.items c.put_next.new.kept.items
    c.loop-column.invariant c.loop-column-test.true c.column-item.is c.in_ok-put_next.ensures.visible c.in_ok-put_next.ensures.kept c.in_ok-put_next.ensures.left
