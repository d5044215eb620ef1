use Rattle.std.proofs.Common.{◌+◌, map, ap, subst, sym, ◌∙◌, arith}
use Rattle.std.specs.List.{list_all}
use Rattle.arrayvec.specs.ArrayVec.{array_vec_len}
use Rattle.ghost_base.specs.Views.{kind_of}
use Rattle.host_exec.specs.Checked.{is_narrow}
use Rattle.host_exec.proofs.RowSpelling.{KindsTo, kinds_more, kinds_same, all_kinds, narrow_more}
use Rattle.host_exec.proofs.checking.kinds_of.Goals as goal
use Rattle.host_exec.proofs.checking.kinds_of.Goals.{then-is_visible, else-is_visible}

pub columns-preserved : goal.columns-preserved
columns-preserved c =
    elim c.if-is_visible.branch [
      | then-is_visible w ↦ record {
        some = omega arith;
        told = kinds_more c.args.schema.now c.args.table c.columns.at c.columns.kinds.items _ w.kind_at-kind.result c.is_visible.result c.columns.invariant.some
            (omega (arith, c.columns-test.true, c.columns-columns.ensures)) c.is_visible.ensures w.if-is_visible.true w.kind_at-kind.ensures.kind
            (ap (λ kinds. kinds.items) w.kinds-is ∙ w.push.ensures.items) c.columns.invariant.told;
        narrow = narrow_more c.columns.kinds.items _ w.kind_at-kind.result (ap (λ kinds. kinds.items) w.kinds-is ∙ w.push.ensures.items) c.columns.invariant.narrow w.kind_at-kind.ensures.narrow;
        room = omega (arith, ap array_vec_len w.kinds-is, w.push.ensures.len, c.columns.invariant.room);
      }
      | else-is_visible w ↦ record {
        some = omega arith;
        told = subst (KindsTo c.args.schema.now c.args.table (c.columns.at + 1)) (sym (ap (λ kinds. kinds.items) w.kinds-is))
            (kinds_same c.args.schema.now c.args.table c.columns.at c.columns.kinds.items c.is_visible.result c.columns.invariant.some
            (omega (arith, c.columns-test.true, c.columns-columns.ensures)) c.is_visible.ensures w.if-is_visible.false c.columns.invariant.told);
        narrow = ap (λ kinds. list_all is_narrow (map kind_of kinds.items)) w.kinds-is ∙ c.columns.invariant.narrow;
        room = omega (arith, ap array_vec_len w.kinds-is, c.columns.invariant.room);
      }
    ]

pub returns-clause-kinds : goal.returns-clause-kinds
returns-clause-kinds c = all_kinds c.args.schema.now c.args.table c.columns.at c.columns.kinds.items (omega (arith, c.columns-test.false, c.columns-columns.ensures)) c.columns.invariant.some c.columns.invariant.told
