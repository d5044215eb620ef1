use Rattle.std.proofs.Common.{◌≡◌, sym, ap, Some}
use Rattle.csv_split.specs.Texts.{TextList}
use Rattle.csv_split.proofs.KeptTexts.{room, placed}
use Rattle.csv_split.proofs.texts.Texts.cell.Goals as goal

pub cell_in-requires : goal.cell_in-requires
cell_in-requires c = rw c.deref.ensures.value (room c.self.inside c.args.self.now c.args.place c.self.invariant c.self.view_is c.requires)

pub returns : goal.returns
returns c =
    let at = placed c.self.inside c.args.self.now c.args.place c.self.invariant c.self.view_is c.requires in
    let width : c.args.self.now.width ≡ c.self.inside.width = ap (λ (list : TextList). list.width) (sym c.self.view_is) in
    rw (at.text, width, c.cell_in.ensures, c.deref.ensures.value) (ap Some (sym at.cell.padding))
