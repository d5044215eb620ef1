use Rattle.std.proofs.Common.{subst, List}
use Rattle.ghost_model.specs.core.Values.{Value}
use Rattle.csv_split.specs.Cells.{values_in}
use Rattle.flash_build.specs.ReadColumns.{AddsRows}
use Rattle.flash_build.proofs.ColumnReads.{readable_there, column_read, column_damaged, column_calls}
use Rattle.flash_build.proofs.reading.read_column.Goals as goal

pub new-cells-requires : goal.new-cells-requires
new-cells-requires g c = record {
  narrow =
      (readable_there c.args.laid.now c.args.table c.args.column (g.F.Flash.state c.args.flash.now) c.by_layout-file.result c.layout_laws.ensures.layout c.records_stand_within.ensures
      c.requires.hidden c.requires.there c.requires.small c.by_layout-file.ensures.file c.by_layout-file.ensures.readable).plain;
}

pub read_rows-requires-clause-readable : goal.read_rows-requires-clause-readable
read_rows-requires-clause-readable g c =
    readable_there c.args.laid.now c.args.table c.args.column (g.F.Flash.state c.args.flash.now) c.by_layout-file.result c.layout_laws.ensures.layout c.records_stand_within.ensures
    c.requires.hidden c.requires.there c.requires.small c.by_layout-file.ensures.file c.by_layout-file.ensures.readable

pub returns-in-Err-clause-damaged : goal.returns-in-Err-clause-damaged
returns-in-Err-clause-damaged g c = λ since from given.
    column_damaged c.args.laid.now c.args.table c.args.column c.by_layout-file.result c.by_layout-file.ensures.file
    g.F.Flash.told since (g.F.Flash.state c.args.flash.now).page (g.F.Flash.state c.read_rows.new.flash) c.in-Err.fault c.requires.hidden
    (c.in-Err.ensures.damaged since from given)

pub returns-in-Ok-clause-cells : goal.returns-in-Ok-clause-cells
returns-in-Ok-clause-cells g c =
    let file = c.by_layout-file.result in
    column_read c.args.laid.now c.args.table c.args.column file c.by_layout-file.ensures.file
    (subst (λ (before : List Value). AddsRows g.F.Flash.told (g.F.Flash.state c.args.flash.now).page file 0 file.run.count before (values_in c.read_rows.new.cells))
    c.new-cells.ensures.values c.in-Ok.ensures.added)

pub returns-in-Err-clause-at_most : goal.returns-in-Err-clause-at_most
returns-in-Err-clause-at_most g c =
    column_calls c.args.laid.now c.args.table c.args.column c.by_layout-file.result (g.F.Flash.state c.args.flash.now).calls (g.F.Flash.state c.read_rows.new.flash).calls
    c.layout_laws.ensures.layout c.records_stand_within.ensures c.requires.hidden c.by_layout-file.ensures.file c.in-Err.ensures.none c.in-Err.ensures.at_most

pub returns-in-Ok-clause-at_most : goal.returns-in-Ok-clause-at_most
returns-in-Ok-clause-at_most g c =
    column_calls c.args.laid.now c.args.table c.args.column c.by_layout-file.result (g.F.Flash.state c.args.flash.now).calls (g.F.Flash.state c.read_rows.new.flash).calls
    c.layout_laws.ensures.layout c.records_stand_within.ensures c.requires.hidden c.by_layout-file.ensures.file c.in-Ok.ensures.none c.in-Ok.ensures.at_most
