use Rattle.std.proofs.Common.{◌<◌, ◌≤◌, length, sym, ◌∙◌, arith}
use Rattle.std.proofs.lemmas.List.{length-map}
use Rattle.tree_schema.specs.Views.{schema_of, table_of}
use Rattle.tree_schema.proofs.TreeSteps.{climb_begins, climb_returns, climb_goes, climb_ends}
use Rattle.tree_schema.proofs.trees.returns.Goals as goal

pub loop-step-init : goal.loop-step-init
loop-step-init c = climb_begins _ c.args.table

pub returns-then-is_table : goal.returns-then-is_table
returns-then-is_table c =
    let within : c.loop-step.step < length (schema_of c.args.tables.now) = omega (arith, c.loop-step-test.true, length-map c.args.tables.now table_of) in
    record {
      back = sym (climb_returns (schema_of c.args.tables.now) c.args.table c.loop-step.step c.loop-step.here c.parent_of-here.result c.loop-step.invariant c.parent_of-here.ensures.parent
          (sym c.is_table.ensures ∙ c.if-is_table.true) within);
    }

pub loop-step-preserved : goal.loop-step-preserved
loop-step-preserved c =
    let within : c.loop-step.step < length (schema_of c.args.tables.now) = omega (arith, c.loop-step-test.true, length-map c.args.tables.now table_of) in
    climb_goes (schema_of c.args.tables.now) c.args.table c.loop-step.step c.loop-step.here c.parent_of-here.result c.loop-step.invariant c.parent_of-here.ensures.parent
    (sym c.is_table.ensures ∙ c.if-is_table.false) within

pub returns : goal.returns
returns c =
    let past : length (schema_of c.args.tables.now) ≤ c.loop-step.step = omega (arith, c.loop-step-test.false, length-map c.args.tables.now table_of) in
    record { back = sym (climb_ends (schema_of c.args.tables.now) c.args.table c.loop-step.step c.loop-step.here c.loop-step.invariant past) }
