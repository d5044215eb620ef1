use Rattle.std.proofs.Common.{List, [], ◌∷◌, length, map, ap, sym, ◌∙◌, arith}
use Rattle.std.specs.Cmp.{second_so}
use Rattle.std.specs.List.{list_all}
use Rattle.std.proofs.lemmas.List.{map-append}
use Rattle.ghost_base.specs.Views.{kind_of, value_of}
use Rattle.ghost_base.specs.declared.kind.Kind.{Kind}
use Rattle.host_exec.specs.Checked.{is_narrow}
use Rattle.host_exec.proofs.GrownColumns.{one_taken}
use Rattle.host_exec.proofs.RowSpelling.{not_read, read_one}
use Rattle.host_exec.proofs.columns.row_in.Goals as goal

pub returns-in-None-clause-none : goal.returns-in-None-clause-none
returns-in-None-clause-none c =
    not_read (map kind_of c.args.kinds.now) c.args.bytes.now (map kind_of c.kinds.rest.now) c.kinds.cells.now (kind_of c.in-Some.kind.now) (map kind_of c.in-Some.later.now)
    c.cell_width-width.result c.front-cell.result.now c.kinds.invariant.read (ap (map kind_of) c.in-Some.ensures.cases.0) c.cell_width-width.ensures c.front-cell.ensures
    (sym c.in-None.ensures.value)

pub kinds-preserved : goal.kinds-preserved
kinds-preserved c =
    let split = ap (λ (ks : List Kind). map kind_of ks) c.in-Some.ensures.cases.0 in
    let fewer = ap (λ (ks : List Kind). length ks) c.in-Some.ensures.cases.0 in
    record {
      narrow = second_so (is_narrow (kind_of c.in-Some.kind.now)) _ (ap (list_all is_narrow) (sym split) ∙ c.kinds.invariant.narrow);
      room = omega (arith, fewer, c.push.ensures.len, c.kinds.invariant.room);
      read = read_one (map kind_of c.args.kinds.now) c.args.bytes.now (map kind_of c.kinds.rest.now) c.kinds.cells.now (kind_of c.in-Some.kind.now) (map kind_of c.in-Some.later.now)
          c.cell_width-width.result c.front-cell.result.now c.behind-cells.result.now (value_of c.in-Some-decode_cell.value) c.kinds.invariant.read split c.cell_width-width.ensures c.front-cell.ensures
          c.behind-cells.ensures c.in-Some-decode_cell.ensures.cell c.in-Some-decode_cell.ensures.kind;
      taken = one_taken (map kind_of c.args.kinds.now) c.args.bytes.now (map value_of c.kinds.row.items) (map value_of c.push.new.self.items) (map kind_of c.kinds.rest.now) c.kinds.cells.now
          (kind_of c.in-Some.kind.now) (map kind_of c.in-Some.later.now)
          c.cell_width-width.result c.front-cell.result.now c.behind-cells.result.now (value_of c.in-Some-decode_cell.value) c.kinds.invariant.taken split c.cell_width-width.ensures c.front-cell.ensures
          c.behind-cells.ensures c.in-Some-decode_cell.ensures.cell c.in-Some-decode_cell.ensures.kind
          (ap (map value_of) c.push.ensures.items ∙ map-append value_of c.kinds.row.items (c.in-Some-decode_cell.value ∷ []));
    }
