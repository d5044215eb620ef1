use Rattle.csv_split.proofs.ImageCells.{one_kind}
use Rattle.csv_split.proofs.image.visible_kinds.Goals as goal

pub loop-column-preserved : goal.loop-column-preserved
loop-column-preserved c =
    one_kind c.args.declared.now c.loop-column.column-index c.column-item.result c.loop-column.kinds.items c.put_kind.new.kinds.items
    c.loop-column.invariant c.loop-column-test.true c.column-item.is c.in_ok-put_kind.ensures
