use Rattle.tree_schema.specs.Nulls.{column_or_null}
use Rattle.tree_schema.specs.Views.{column_of}
use Rattle.tree_schema.proofs.NullLemmas.{changed_set}
use Rattle.tree_schema.proofs.nulls.allow_among.Goals as goal

pub returns : goal.returns
returns c =
    record { columns = changed_set column_of column_or_null c.args.column c.args.columns.now c.index-columns-column.result c.allow.new.column c.requires.there c.allow.ensures.column }
