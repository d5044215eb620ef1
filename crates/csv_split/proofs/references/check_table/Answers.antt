use Rattle.std.proofs.Common.{◌∙◌, map, arith}
use Rattle.std.proofs.lemmas.Result.{err_from_is_err_and}
use Rattle.tree_schema.specs.Views.{column_of}
use Rattle.csv_split.proofs.Judging.{first_more, none_first}
use Rattle.csv_split.proofs.CheckedKeys.{row_next, no_row}
use Rattle.csv_split.proofs.references.check_table.Goals as goal

pub returns-in_err-check_row-clause-judged : goal.returns-in_err-check_row-clause-judged
returns-in_err-check_row-clause-judged c =
    let p = err_from_is_err_and c.from_residual.result c.from_residual.ensures.1 in
    let all = c.loop-place.invariant ∙ row_next c.args.tables.now c.args.table (map column_of c.args.columns.now) c.loop-place.place (omega (arith, c.loop-place-test.true, c.rows-place-end.ensures.count)) in
    rw (p.1, p.2, all) (first_more _ _ _ c.in_err-check_row.ensures.judged)

pub loop-place-preserved : goal.loop-place-preserved
loop-place-preserved c =
    c.loop-place.invariant
    ∙ row_next c.args.tables.now c.args.table (map column_of c.args.columns.now) c.loop-place.place (omega (arith, c.loop-place-test.true, c.rows-place-end.ensures.count))
    ∙ none_first _ _ c.in_ok-check_row.ensures.judged

pub returns-clause-judged : goal.returns-clause-judged
returns-clause-judged c =
    c.loop-place.invariant
    ∙ no_row c.args.tables.now c.args.table c.loop-place.place (map column_of c.args.columns.now) (omega (arith, c.loop-place-test.false, c.rows-place-end.ensures.count))
