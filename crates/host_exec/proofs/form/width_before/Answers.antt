use Rattle.std.proofs.Common.{◌≡◌, ◌-◌, ap, sym, ◌∙◌, arith}
use Rattle.host_exec.specs.RowBytes.{data_columns, width_before}
use Rattle.host_exec.proofs.Widths.{none_before, more_before}
use Rattle.host_exec.proofs.form.width_before.Goals as goal

pub loop-at-init : goal.loop-at-init
loop-at-init c = record {
  told = sym (none_before (data_columns c.args.schema.now c.args.table));
  narrow = omega arith;
  within = omega arith;
}

pub loop-at-preserved : goal.loop-at-preserved
loop-at-preserved c = record {
  told = more_before c.args.schema.now c.args.table c.loop-at.at c.loop-at.width _ c.loop-at.auto.at c.loop-at.invariant.told c.shown_width-width.ensures.width;
  narrow = omega (arith, c.loop-at.invariant.narrow, c.shown_width-width.ensures.narrow, c.loop-at.auto.at);
  within = omega (arith, c.loop-at-test.true);
}

pub returns-clause-width : goal.returns-clause-width
returns-clause-width c =
    let there : c.loop-at.at - 1 ≡ c.args.column - 1 = omega (arith, c.loop-at.invariant.within, c.loop-at-test.false) in
    c.loop-at.invariant.told ∙ ap (width_before (data_columns c.args.schema.now c.args.table)) there

pub returns-clause-narrow : goal.returns-clause-narrow
returns-clause-narrow c = omega (arith, c.loop-at.invariant.narrow, c.loop-at.invariant.within)
