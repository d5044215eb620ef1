use Rattle.std.proofs.Common.{◌+◌, ◌∙◌, ap}
use Rattle.csv_split.specs.ImageLengths.{counted}
use Rattle.csv_split.proofs.ImageLengths.{one_width}
use Rattle.csv_split.proofs.image.row_width.Goals as goal

pub loop-column-preserved : goal.loop-column-preserved
loop-column-preserved c =
    one_width c.args.declared.now c.loop-column.column-index c.loop-column.width c.saturating_add-width.result c.column-item.result
    c.loop-column.invariant c.loop-column-test.true c.column-item.is (c.saturating_add-width.ensures ∙ ap (λ n. counted (c.loop-column.width + n)) c.column_len.ensures)
