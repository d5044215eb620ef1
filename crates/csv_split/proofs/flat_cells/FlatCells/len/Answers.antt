use Rattle.std.proofs.Common.{◌∙◌, sym, ap, length}
use Rattle.ghost_model.specs.forms.Cells.{cell_width}
use Rattle.ghost_base.specs.Views.{kind_of}
use Rattle.csv_split.specs.FlatCells.{ValueList}
use Rattle.csv_split.proofs.KeptValues.{how_many}
use Rattle.csv_split.proofs.flat_cells.FlatCells.len.Goals as goal

pub returns : goal.returns
returns c =
    sym (how_many (kind_of c.self.inside.kind) (cell_width (kind_of c.self.inside.kind)) c.self.inside.count c.self.inside.bytes.items)
    ∙ ap (λ (list : ValueList). length list.values) c.self.view_is
