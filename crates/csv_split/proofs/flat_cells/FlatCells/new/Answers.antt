use Rattle.std.proofs.Common.{◌≡◌, ◌*◌, ◌∙◌, ap, sym, refl, length, arith}
use Rattle.ghost_model.specs.forms.Cells.{cell_width}
use Rattle.ghost_base.specs.Views.{kind_of}
use Rattle.csv_split.specs.FlatCells.{AreValueCells, values_of_cells}
use Rattle.csv_split.proofs.flat_cells.FlatCells.new.Goals as goal

pub invariant_of-result : goal.invariant_of-result
unfolding AreValueCells
invariant_of-result c =
    let none : 0 * cell_width (kind_of c.args.kind) ≡ 0 = omega arith in
    record { narrow = c.requires; size = ap length c.new.ensures.items ∙ sym none; cells = c.new.ensures.items }

pub returns : goal.returns
unfolding values_of_cells
returns c = refl
