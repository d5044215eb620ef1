use Rattle.std.proofs.Common.{sym, ◌∙◌, arith, ◌<◌, ◌≤◌, length}
use Rattle.ghost_model.specs.refusals.Tokens.{in_lower_case}
use Rattle.spj_parse.specs.Names.{has_name}
use Rattle.spj_parse.proofs.Places.{found_at, not_at, nowhere}
use Rattle.spj_parse.proofs.names.table_named.Goals as goal

pub returns-then-is_table_called-clause-place : goal.returns-then-is_table_called-clause-place
returns-then-is_table_called-clause-place c = sym (found_at (has_name (in_lower_case c.args.name.now)) c.args.schema.now _ _ c.loop-table.invariant (let within : c.loop-table.table < length c.args.schema.now = omega (arith, c.loop-table-test.true, c.tables-table-end.ensures.count) in within) (sym c.is_table_called.ensures.called ∙ c.if-is_table_called.true))

pub loop-table-preserved : goal.loop-table-preserved
loop-table-preserved c = not_at (has_name (in_lower_case c.args.name.now)) c.args.schema.now _ _ c.loop-table.invariant (let within : c.loop-table.table < length c.args.schema.now = omega (arith, c.loop-table-test.true, c.tables-table-end.ensures.count) in within) (sym c.is_table_called.ensures.called ∙ c.if-is_table_called.false)

pub returns-clause-place : goal.returns-clause-place
returns-clause-place c = sym (nowhere (has_name (in_lower_case c.args.name.now)) c.args.schema.now _ _ c.loop-table.invariant (let past : length c.args.schema.now ≤ c.loop-table.table = omega (arith, c.loop-table-test.false, c.tables-table-end.ensures.count) in past))
