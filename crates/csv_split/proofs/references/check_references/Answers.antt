use Rattle.std.proofs.Common.{◌∙◌, arith}
use Rattle.std.proofs.lemmas.Result.{err_from_is_err_and}
use Rattle.csv_split.proofs.Judging.{first_more, none_first}
use Rattle.csv_split.proofs.CheckedKeys.{table_next, no_table}
use Rattle.csv_split.proofs.references.check_references.Goals as goal

pub returns-in_err-check_table-clause-judged : goal.returns-in_err-check_table-clause-judged
returns-in_err-check_table-clause-judged c =
    let p = err_from_is_err_and c.from_residual.result c.from_residual.ensures.1 in
    let all = c.loop-table.invariant ∙ table_next c.args.schema.now c.args.tables.now c.loop-table.table (omega (arith, c.loop-table-test.true, c.tables-table-end.ensures.count)) in
    rw (p.1, p.2, all) (first_more _ _ _ (rw c.columns_in.ensures.columns at c.in_err-check_table.ensures.judged))

pub loop-table-preserved : goal.loop-table-preserved
loop-table-preserved c =
    c.loop-table.invariant
    ∙ table_next c.args.schema.now c.args.tables.now c.loop-table.table (omega (arith, c.loop-table-test.true, c.tables-table-end.ensures.count))
    ∙ none_first _ _ (rw c.columns_in.ensures.columns at c.in_ok-check_table.ensures.judged)

pub returns-clause-judged : goal.returns-clause-judged
returns-clause-judged c =
    c.loop-table.invariant
    ∙ no_table c.args.schema.now c.args.tables.now c.loop-table.table (omega (arith, c.loop-table-test.false, c.tables-table-end.ensures.count))
