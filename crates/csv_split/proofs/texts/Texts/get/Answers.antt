use Rattle.std.proofs.Common.{◌≡◌, ◌≤◌, ◌*◌, sym, ap, length, take, drop, arith}
use Rattle.ghost_model.specs.readings.CellReading.{text_in}
use Rattle.csv_split.specs.Texts.{TextList}
use Rattle.csv_split.proofs.KeptTexts.{fits_width, room, placed, text_front}
use Rattle.csv_split.proofs.texts.Texts.get.Goals as goal

pub cell_in-cell-requires : goal.cell_in-cell-requires
cell_in-cell-requires c = rw c.deref.ensures.value (room c.self.inside c.args.self.now c.args.place c.self.invariant c.self.view_is c.requires)

pub returns-clause-text : goal.returns-clause-text
returns-clause-text c =
    let at = placed c.self.inside c.args.self.now c.args.place c.self.invariant c.self.view_is c.requires in
    rw (c.text_len.ensures, text_front c.cell_in-cell.result.now, c.cell_in-cell.ensures, c.deref.ensures.value) at.text

pub returns-clause-held : goal.returns-clause-held
returns-clause-held c =
    let at = placed c.self.inside c.args.self.now c.args.place c.self.invariant c.self.view_is c.requires in
    let width : c.args.self.now.width ≡ c.self.inside.width = ap (λ (list : TextList). list.width) (sym c.self.view_is) in
    rw (width, c.text_len.ensures, text_front c.cell_in-cell.result.now, c.cell_in-cell.ensures, c.deref.ensures.value) at.cell.text

pub returns-clause-short : goal.returns-clause-short
returns-clause-short c =
    let at = placed c.self.inside c.args.self.now c.args.place c.self.invariant c.self.view_is c.requires in
    let cell = text_in (take c.self.inside.width (drop (c.args.place * c.self.inside.width) c.self.inside.bytes.items)) in
    let fits : length cell ≤ c.self.inside.width = fits_width c.self.inside.width cell at.cell.text in
    let small : c.self.inside.width ≤ 64 = c.self.invariant.small in
    let all : length cell ≤ 64 = omega arith in
    rw (c.text_len.ensures, text_front c.cell_in-cell.result.now, c.cell_in-cell.ensures, c.deref.ensures.value) all
