use Rattle.std.proofs.Common.{◌≡◌, take, flat_map}
use Rattle.ghost_model.specs.forms.Catalog as catalog
use Rattle.tree_schema.specs.Windows.{pane, with_text}
use Rattle.tree_schema.proofs.canonical.put_schema.Given as goal

abbrev pub invariant-loop-at : goal.invariant-loop-at
invariant-loop-at l =
    pane l.window l.out ≡ with_text (pane l.initial.window l.initial.out) (flat_map (catalog.table_text l.schema) (take l.at l.schema))
