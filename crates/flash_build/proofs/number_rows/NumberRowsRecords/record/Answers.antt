use Rattle.std.proofs.Common.{◌∙◌, sym, map, arith}
use Rattle.flash_build.specs.Levels.{items_of}
use Rattle.flash_build.proofs.NumberRecords.{records_get, records_count}
use Rattle.flash_build.proofs.number_rows.NumberRowsRecords.record.Goals as goal

pub put_row-width-requires-clause-long : goal.put_row-width-requires-clause-long
put_row-width-requires-clause-long c = λ column low.
    let source = c.args.self.now in
    let many = records_count (map items_of source.columns.now) source.rows in
    omega (arith, c.requires, many, source.long column low)

pub returns : goal.returns
returns c =
    let source = c.args.self.now in
    let columns = map items_of source.columns.now in
    let many = records_count columns source.rows in
    c.put_row-width.ensures.put ∙ sym (records_get columns source.rows c.args.i (omega (arith, c.requires, many)))
