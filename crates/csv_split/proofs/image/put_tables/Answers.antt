use Rattle.std.proofs.Common.{arith}
use Rattle.csv_split.specs.Reading.{columns_of}
use Rattle.csv_split.proofs.ImageCells.{no_more_rows, one_table}
use Rattle.csv_split.proofs.image.put_tables.Goals as goal

pub returns-in_default : goal.returns-in_default
returns-in_default c =
    no_more_rows c.args.schema.now c.args.public.now.visible c.loop-table.table c.args.out.now.items c.loop-table.out.items c.loop-table.invariant c.in_default.ensures

pub loop-table-preserved : goal.loop-table-preserved
loop-table-preserved c =
    let many = c.tables-table-end.ensures.count in
    one_table c.args.schema.now c.args.public.now.visible c.loop-table.table (columns_of c.declared_columns.result.now) c.in-Some.part.now
    c.args.out.now.items c.loop-table.out.items c.put_table.new.out.items
    c.loop-table.invariant (omega arith) c.declared_columns.ensures.columns c.in-Some.ensures c.in_ok-put_table.ensures
