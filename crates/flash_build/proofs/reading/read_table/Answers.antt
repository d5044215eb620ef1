use Rattle.std.proofs.Common.{◌+◌, arith}
use Rattle.ghost_model.specs.laws.LayoutSums.{column_pages}
use Rattle.ghost_model.specs.laws.ShortWords.{column_count}
use Rattle.ghost_model.proofs.LayoutLemmas.Order.{sum_next, sums_rise}
use Rattle.flash_build.proofs.CellReads.{after}
use Rattle.flash_build.proofs.ColumnReads.{column_more, table_damaged}
use Rattle.flash_build.proofs.reading.read_table.Goals as goal

pub returns-in-Err-clause-damaged : goal.returns-in-Err-clause-damaged
returns-in-Err-clause-damaged g c = λ since from given.
    let was = c.loop-column.invariant in
    let rises = was.read.kept.never_falls in
    table_damaged since (g.F.Flash.state c.add_column.new.flash) c.in-Err.fault was.read.kept.page was.columns
    (c.in-Err.ensures.damaged since (omega (arith, from, rises)) (was.read.given since from given))

pub loop-column-preserved : goal.loop-column-preserved
loop-column-preserved g c =
    let was = c.loop-column.invariant in
    record {
      columns = column_more was.read.kept.page was.columns c.in_default.ensures.added;
      calls =
          let next = sum_next (column_pages c.args.laid.now c.args.table) c.loop-column.column in
          let more = c.in_default.ensures.at_most in
          omega (arith, was.calls, next, more);
      read = after was.read c.in_default.ensures.read;
    }

pub returns-in-Err-clause-at_most : goal.returns-in-Err-clause-at_most
returns-in-Err-clause-at_most g c =
    let was = c.loop-column.invariant in
    let cat = c.args.laid.now in
    let next = sum_next (column_pages cat c.args.table) c.loop-column.column in
    let low = c.loop-column-test.true in
    let rise = sums_rise (column_pages cat c.args.table) (c.loop-column.column + 1) (column_count cat.schema c.args.table) (omega (arith, low, c.columns-column-end.ensures.count)) in
    let more = c.in-Err.ensures.at_most in
    omega (arith, was.calls, next, rise, more)

pub returns-clause-at_most : goal.returns-clause-at_most
returns-clause-at_most g c =
    let was = c.loop-column.invariant in
    let cat = c.args.laid.now in
    let rise = sums_rise (column_pages cat c.args.table) c.loop-column.column (column_count cat.schema c.args.table) (omega (arith, c.columns-column-end.ensures.count, c.loop-column.auto.column-end)) in
    omega (arith, was.calls, rise)
