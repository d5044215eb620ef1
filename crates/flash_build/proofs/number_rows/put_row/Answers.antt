use Rattle.flash_build.proofs.NumberRecords.{row_within, row_more}
use Rattle.flash_build.proofs.number_rows.put_row.Goals as goal

pub index-requires : goal.index-requires
index-requires c =
    row_within c.args.columns.now c.loop-column.column c.args.row c.index-columns-column.result c.index-columns-column.is
    c.loop-column-test.true (c.requires.long c.loop-column.column c.loop-column-test.true)

pub loop-column-preserved : goal.loop-column-preserved
loop-column-preserved c = record {
  put = row_more c.args.columns.now c.loop-column.column c.args.row c.index-columns-column.result c.index-columns-column.is c.loop-column-test.true
      (c.requires.long c.loop-column.column c.loop-column-test.true) c.index.result.now c.index.ensures
      c.loop-column.out c.put_number.new.out c.loop-column.invariant.put c.put_number.ensures;
}
