use Rattle.std.proofs.Common.{◌∙◌, sym, ap}
use Rattle.std.specs.List.{list_any}
use Rattle.ghost_model.specs.core.Schema as schema
use Rattle.tree_schema.specs.Views.{column_of}
use Rattle.tree_schema.proofs.FirstPlaces.{some_place}
use Rattle.tree_schema.proofs.schema.holds_key_to.Goals as goal

pub returns : goal.returns
returns c =
    c.has_key_to.ensures
    ∙ ap (λ columns. list_any (λ column. schema.is_table c.args.child (column_of column).child) columns) c.deref.ensures.0
    ∙ sym (some_place column_of (λ column. schema.is_table c.args.child column.child) c.args.table.now.columns.items 0)
