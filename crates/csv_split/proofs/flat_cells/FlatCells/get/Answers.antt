use Rattle.std.proofs.Common.{◌∙◌, ◌<◌, sym, ap, length, arith}
use Rattle.ghost_model.specs.readings.CellReading.{decode_cell}
use Rattle.ghost_base.specs.Views.{kind_of}
use Rattle.csv_split.proofs.KeptValues.{room, placed, was_read}
use Rattle.csv_split.proofs.flat_cells.FlatCells.get.Goals as goal

pub cell_in-requires : goal.cell_in-requires
cell_in-requires c =
    let there : c.args.place < length c.args.self.now.values = omega (arith, c.if-place-len.false, c.len.ensures) in
    rw (c.cell_width-width.ensures, c.deref.ensures.value) (room c.self.inside c.args.self.now c.args.place c.self.invariant c.self.view_is there)

pub returns : goal.returns
returns c =
    let there : c.args.place < length c.args.self.now.values = omega (arith, c.if-place-len.false, c.len.ensures) in
    let at = placed c.self.inside c.args.self.now c.args.place c.self.invariant c.self.view_is there in
    c.decode_cell.ensures.value
    ∙ ap (decode_cell (kind_of c.self.inside.kind)) (rw (c.cell_width-width.ensures, c.deref.ensures.value) at c.cell_in.ensures)
    ∙ was_read (kind_of c.self.inside.kind) _ at.cell ∙ sym at.value
