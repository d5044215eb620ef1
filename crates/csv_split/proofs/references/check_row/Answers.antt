use Rattle.std.proofs.Common.{◌∙◌}
use Rattle.std.proofs.lemmas.Result.{err_from_is_err_and}
use Rattle.ghost_model.specs.core.Database as database
use Rattle.csv_split.specs.References.{row_or_none}
use Rattle.csv_split.proofs.Judging.{first_more, none_first}
use Rattle.csv_split.proofs.CheckedKeys.{key_next, no_key}
use Rattle.csv_split.proofs.references.check_row.Goals as goal

pub returns-in_err-check_key-clause-judged : goal.returns-in_err-check_key-clause-judged
returns-in_err-check_key-clause-judged c =
    let p = err_from_is_err_and c.from_residual.result c.from_residual.ensures.1 in
    let all = c.loop-i.invariant ∙ key_next c.args.tables.now c.args.at.table c.args.at.rec c.args.identifier c.args.columns.now c.loop-i.i c.index-columns-i.result c.loop-i-test.true c.index-columns-i.is in
    rw (p.1, p.2, all) (first_more _ _ _ c.in_err-check_key.ensures.judged)

pub loop-i-preserved : goal.loop-i-preserved
loop-i-preserved c =
    c.loop-i.invariant
    ∙ key_next c.args.tables.now c.args.at.table c.args.at.rec c.args.identifier c.args.columns.now c.loop-i.i c.index-columns-i.result c.loop-i-test.true c.index-columns-i.is
    ∙ none_first _ _ c.in_ok-check_key.ensures.judged

pub returns-clause-judged : goal.returns-clause-judged
returns-clause-judged c =
    c.loop-i.invariant
    ∙ no_key c.args.tables.now c.args.at.table c.args.at.rec c.loop-i.i c.args.columns.now (row_or_none (database.row_of c.args.tables.now c.args.at.table c.args.identifier)) c.loop-i-test.false
