use Rattle.tree_schema.specs.Nulls.{table_with_null}
use Rattle.tree_schema.specs.Views.{table_of}
use Rattle.tree_schema.proofs.NullLemmas.{changed_set}
use Rattle.tree_schema.proofs.nulls.allow_at.Goals as goal

pub returns-clause-tables : goal.returns-clause-tables
returns-clause-tables c =
    changed_set table_of (table_with_null c.args.column) c.args.table c.args.tables.now c.index-tables-table.result c.allow_in.new.table c.requires.there c.allow_in.ensures.table
