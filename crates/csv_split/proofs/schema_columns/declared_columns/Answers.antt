use Rattle.csv_split.proofs.DeclaredColumns.{are_columns}
use Rattle.csv_split.proofs.schema_columns.declared_columns.Goals as goal

pub returns-clause-are : goal.returns-clause-are
returns-clause-are c =
    rw c.later_columns.ensures
    (are_columns c.args.schema.now c.args.table c.columns_in.result.now (c.schemas_are_trees.ensures c.args.schema.now c.tables-tables.ensures.declared) c.columns_in.ensures.columns)
