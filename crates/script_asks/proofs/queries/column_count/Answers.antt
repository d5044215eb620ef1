use Rattle.std.proofs.Common.{arith}
use Rattle.script_asks.proofs.queries.column_count.Goals as goal

pub returns-clause-few : goal.returns-clause-few
returns-clause-few c =
    let few = (c.schemas_are_trees.ensures c.args.schema.now c.tables.ensures.declared).few_columns c.args.table in
    omega (arith, few, c.columns.ensures)
