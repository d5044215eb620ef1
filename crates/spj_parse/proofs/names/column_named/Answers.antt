use Rattle.std.proofs.Common.{sym, ◌∙◌, arith, ◌<◌, ◌≤◌, length}
use Rattle.ghost_model.specs.core.Schema.{columns_of}
use Rattle.ghost_model.specs.refusals.Tokens.{in_lower_case}
use Rattle.spj_parse.specs.Names.{is_called}
use Rattle.spj_parse.proofs.Places.{found_at, not_at, nowhere}
use Rattle.spj_parse.proofs.names.column_named.Goals as goal

pub returns-then-is_column_called-clause-place : goal.returns-then-is_column_called-clause-place
returns-then-is_column_called-clause-place c = sym (found_at (is_called (in_lower_case c.args.name.now)) (columns_of c.args.schema.now c.args.table) _ _ c.loop-column.invariant (let within : c.loop-column.column < length (columns_of c.args.schema.now c.args.table) = omega (arith, c.loop-column-test.true, c.columns-column-end.ensures) in within) (sym c.is_column_called.ensures.called ∙ c.if-is_column_called.true))

pub loop-column-preserved : goal.loop-column-preserved
loop-column-preserved c = not_at (is_called (in_lower_case c.args.name.now)) (columns_of c.args.schema.now c.args.table) _ _ c.loop-column.invariant (let within : c.loop-column.column < length (columns_of c.args.schema.now c.args.table) = omega (arith, c.loop-column-test.true, c.columns-column-end.ensures) in within) (sym c.is_column_called.ensures.called ∙ c.if-is_column_called.false)

pub returns-clause-place : goal.returns-clause-place
returns-clause-place c = sym (nowhere (is_called (in_lower_case c.args.name.now)) (columns_of c.args.schema.now c.args.table) _ _ c.loop-column.invariant (let past : length (columns_of c.args.schema.now c.args.table) ≤ c.loop-column.column = omega (arith, c.loop-column-test.false, c.columns-column-end.ensures) in past))
