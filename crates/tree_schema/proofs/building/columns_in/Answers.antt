use Rattle.std.proofs.Common.{◌<◌, length, ap, arith}
use Rattle.tree_schema.proofs.BuildingSteps.{column_kept}
use Rattle.tree_schema.proofs.building.columns_in.Goals as goal

pub column_in-requires-in-loop-column-clause-kept : goal.column_in-requires-in-loop-column-clause-kept
column_in-requires-in-loop-column-clause-kept c =
    let within : c.loop-column.column-index < length c.args.table.now.others.items = omega (arith, c.loop-column-test.true, ap length c.deref-column-items.ensures.0) in
    rw c.deref-column-items.ensures.0 (column_kept c.args.table.now c.loop-column.column-index _ c.requires.kept within)
