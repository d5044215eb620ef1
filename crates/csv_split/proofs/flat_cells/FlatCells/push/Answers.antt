use Rattle.std.proofs.Common.{◌≡◌, refl, sym, ap, subst, arith, length}
use Rattle.std.specs.Prelude.{IsTrue}
use Rattle.ghost_model.specs.core.Database.{is_of_kind}
use Rattle.ghost_model.specs.forms.Cells.{cell_width}
use Rattle.ghost_base.specs.Views.{kind_of, value_of}
use Rattle.csv_split.specs.FlatCells.{ValueList}
use Rattle.csv_split.proofs.KeptValues.{how_many, kept_more}
use Rattle.csv_split.proofs.flat_cells.FlatCells.push.Goals as goal

pub overflow_add-self : goal.overflow_add-self
overflow_add-self c =
    let many = how_many (kind_of c.self.inside.kind) (cell_width (kind_of c.self.inside.kind)) c.self.inside.count c.self.inside.bytes.items in
    let list = ap (λ (list : ValueList). length list.values) c.self.view_is in
    let room = c.requires.room in
    omega arith

pub invariant_of-self-2 : goal.invariant_of-self-2
invariant_of-self-2 c =
    let kind : c.args.self.now.kind ≡ kind_of c.self.inside.kind = ap (λ (list : ValueList). list.kind) (sym c.self.view_is) in
    let held = subst (λ kind. IsTrue (is_of_kind kind (value_of c.args.value.now))) kind c.requires.held in
    let more = kept_more (kind_of c.self.inside.kind) (value_of c.args.value.now) c.self.inside.count c.self.inside.bytes.items c.put_cell.new.out.items
    c.in_ok-put_cell.ensures.put c.self.invariant.size held c.self.invariant.cells in
    record { narrow = c.self.invariant.narrow; size = more.size; cells = more.kept }

pub returns-clause-values : goal.returns-clause-values
returns-clause-values c =
    let kind : c.args.self.now.kind ≡ kind_of c.self.inside.kind = ap (λ (list : ValueList). list.kind) (sym c.self.view_is) in
    let held = subst (λ kind. IsTrue (is_of_kind kind (value_of c.args.value.now))) kind c.requires.held in
    let more = kept_more (kind_of c.self.inside.kind) (value_of c.args.value.now) c.self.inside.count c.self.inside.bytes.items c.put_cell.new.out.items
    c.in_ok-put_cell.ensures.put c.self.invariant.size held c.self.invariant.cells in
    rw (← c.self.view_is, more.values) refl
