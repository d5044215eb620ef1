use Rattle.std.proofs.Common.{◌≡◌, ◌+◌, suc, refl, sym, ap, arith, length}
use Rattle.csv_split.specs.Texts.{TextList}
use Rattle.csv_split.proofs.KeptTexts.{how_many, kept_more, texts_more}
use Rattle.csv_split.proofs.texts.Texts.push.Goals as goal

pub overflow_add-self : goal.overflow_add-self
overflow_add-self c =
    let many = how_many c.self.inside.width c.self.inside.count c.self.inside.bytes.items in
    let list = ap (λ (list : TextList). length list.texts) c.self.view_is in
    let room = c.requires.room in
    omega arith

pub invariant_of-self-2 : goal.invariant_of-self-2
invariant_of-self-2 c =
    let width : c.args.self.now.width ≡ c.self.inside.width = ap (λ (list : TextList). list.width) (sym c.self.view_is) in
    let more = kept_more c.self.inside.width c.self.inside.count c.self.inside.bytes.items c.args.text.now c.put_cell.new.cells.items
    c.in_ok-put_cell.ensures.put c.self.invariant.size (rw width at c.requires.text) c.self.invariant.cells in
    record { small = c.self.invariant.small; size = more.0; cells = more.1 }

pub returns-clause-texts : goal.returns-clause-texts
returns-clause-texts c =
    let width : c.args.self.now.width ≡ c.self.inside.width = ap (λ (list : TextList). list.width) (sym c.self.view_is) in
    let held = rw width at c.requires.text in
    let e : c.self.inside.count + 1 ≡ suc c.self.inside.count = omega arith in
    rw (← c.self.view_is, c.in_ok-put_cell.ensures.put, e, texts_more c.self.inside.width c.self.inside.count c.self.inside.bytes.items c.args.text.now c.self.invariant.size held c.self.invariant.cells) refl
