use Rattle.std.proofs.Common.{◌<◌, map, length, ap, sym, ◌∙◌, arith}
use Rattle.std.proofs.Math.ListN.{get_or-map}
use Rattle.std.proofs.lemmas.List.{length-map}
use Rattle.ghost_model.specs.forms.Catalog.{column_text}
use Rattle.tree_schema.specs.Views.{column_of}
use Rattle.tree_schema.specs.Windows.{pane}
use Rattle.tree_schema.proofs.WindowLemmas.{with_piece}
use Rattle.tree_schema.proofs.canonical.put_columns.Goals as goal

pub loop-column-preserved : goal.loop-column-preserved
loop-column-preserved c =
    let columns = c.args.columns.now in
    let i = c.loop-column.column-index in
    let column = c.column-item.result in
    let within : i < length (map column_of columns) = omega (arith, length-map columns column_of, c.loop-column-test.true) in
    with_piece (column_text c.args.schema.now) (pane c.args.window.now c.args.out.now) (map column_of columns) i (column_of column) within
    (get_or-map column_of columns i column ∙ ap column_of (sym c.column-item.is)) c.loop-column.invariant c.put_column.ensures.text
