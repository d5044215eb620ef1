use Rattle.csv_split.proofs.DeclaredColumns.{few_columns}
use Rattle.csv_split.proofs.schema_columns.columns_in.Goals as goal

pub returns-clause-few : goal.returns-clause-few
returns-clause-few c =
    few_columns c.args.schema.now c.args.table c.columns_at.result.now (c.schemas_are_trees.ensures c.args.schema.now c.tables-tables.ensures.declared) c.columns_at.ensures
