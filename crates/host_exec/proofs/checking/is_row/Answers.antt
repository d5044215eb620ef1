use Rattle.std.proofs.Common.{List, map, ap, sym, ◌∙◌}
use Rattle.std.specs.Cmp.{second_so}
use Rattle.std.specs.List.{list_all}
use Rattle.ghost_base.specs.Views.{kind_of, value_of}
use Rattle.ghost_base.specs.declared.kind.Kind.{Kind}
use Rattle.host_exec.specs.Checked.{is_narrow}
use Rattle.host_exec.proofs.RowSpelling.{not_read, read_one}
use Rattle.host_exec.proofs.checking.is_row.Goals as goal

pub returns-in-None-clause-bad : goal.returns-in-None-clause-bad
returns-in-None-clause-bad c e =
    not_read (map kind_of c.args.kinds.now) c.args.row.now (map kind_of c.kinds.rest.now) c.kinds.bytes.now (kind_of c.in-Some.kind.now) (map kind_of c.in-Some.later.now)
    c.cell_width-width.result c.front-cell.result.now c.kinds.invariant.read (ap (map kind_of) c.in-Some.ensures.cases.0) c.cell_width-width.ensures c.front-cell.ensures
    (sym c.in-None.ensures.value)

pub kinds-preserved : goal.kinds-preserved
kinds-preserved c =
    let split = ap (λ (ks : List Kind). map kind_of ks) c.in-Some.ensures.cases.0 in
    record {
      narrow = second_so (is_narrow (kind_of c.in-Some.kind.now)) _ (ap (list_all is_narrow) (sym split) ∙ c.kinds.invariant.narrow);
      read = read_one (map kind_of c.args.kinds.now) c.args.row.now (map kind_of c.kinds.rest.now) c.kinds.bytes.now (kind_of c.in-Some.kind.now) (map kind_of c.in-Some.later.now)
          c.cell_width-width.result c.front-cell.result.now c.behind-bytes.result.now (value_of c.in-Some-decode_cell.field-0) c.kinds.invariant.read split c.cell_width-width.ensures c.front-cell.ensures
          c.behind-bytes.ensures c.in-Some-decode_cell.ensures.cell c.in-Some-decode_cell.ensures.kind;
    }
