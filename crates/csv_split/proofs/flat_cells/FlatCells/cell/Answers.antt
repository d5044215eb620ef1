use Rattle.std.proofs.Common.{◌≡◌, sym, ap, Some}
use Rattle.ghost_base.specs.Views.{kind_of}
use Rattle.csv_split.specs.FlatCells.{ValueList}
use Rattle.csv_split.proofs.KeptValues.{room, placed}
use Rattle.csv_split.proofs.flat_cells.FlatCells.cell.Goals as goal

pub cell_in-requires : goal.cell_in-requires
cell_in-requires c =
    rw (c.cell_width.ensures, c.deref.ensures.value) (room c.self.inside c.args.self.now c.args.place c.self.invariant c.self.view_is c.requires)

pub returns-clause-cell : goal.returns-clause-cell
returns-clause-cell c =
    let at = placed c.self.inside c.args.self.now c.args.place c.self.invariant c.self.view_is c.requires in
    let kind : c.args.self.now.kind ≡ kind_of c.self.inside.kind = ap (λ (list : ValueList). list.kind) (sym c.self.view_is) in
    rw (at.value, kind, c.cell_in.ensures, c.cell_width.ensures, c.deref.ensures.value) (ap Some (sym at.cell.cell))

pub returns-clause-held : goal.returns-clause-held
returns-clause-held c =
    let at = placed c.self.inside c.args.self.now c.args.place c.self.invariant c.self.view_is c.requires in
    let kind : c.args.self.now.kind ≡ kind_of c.self.inside.kind = ap (λ (list : ValueList). list.kind) (sym c.self.view_is) in
    rw (at.value, kind) at.cell.held
