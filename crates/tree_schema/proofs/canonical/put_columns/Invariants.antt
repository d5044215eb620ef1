use Rattle.std.proofs.Common.{◌≡◌, map, take, flat_map}
use Rattle.ghost_model.specs.forms.Catalog as catalog
use Rattle.tree_schema.specs.Views.{column_of}
use Rattle.tree_schema.specs.Windows.{pane, with_text}
use Rattle.tree_schema.proofs.canonical.put_columns.Given as goal

abbrev pub invariant-loop-column : goal.invariant-loop-column
invariant-loop-column l =
    pane l.window l.out ≡ with_text (pane l.initial.window l.initial.out) (flat_map (catalog.column_text l.schema) (take l.column-index (map column_of l.columns)))
