use Rattle.csv_split.proofs.ReadRows.{narrow_there, one_made}
use Rattle.csv_split.proofs.reading.empty_columns.Goals as goal

pub new-requires : goal.new-requires
new-requires c = record {
  narrow = narrow_there c.args.declared.now c.loop-column.column-index c.column-item.result c.requires c.loop-column-test.true c.column-item.is;
}

pub loop-column-preserved : goal.loop-column-preserved
loop-column-preserved c =
    one_made c.args.declared.now c.loop-column.columns.items c.push.new.self.items c.loop-column.column-index c.column-item.result c.new.result
    c.loop-column.invariant c.loop-column-test.true c.column-item.is c.in-Ok.ensures.items c.new.ensures.kind c.new.ensures.values
