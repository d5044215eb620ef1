use Rattle.std.proofs.Common.{◌<◌, ◌≤◌, length, sym, ◌∙◌, arith}
use Rattle.std.proofs.lemmas.List.{length-map}
use Rattle.tree_schema.specs.Views.{schema_of, table_of}
use Rattle.tree_schema.proofs.RuleSteps.{search_next, search_found, search_fails}
use Rattle.tree_schema.proofs.trees.first_in_cycle.Goals as goal

pub returns-then-returns : goal.returns-then-returns
returns-then-returns c =
    let within : c.loop-table.table < length (schema_of c.args.tables.now) = omega (arith, c.loop-table-test.true, length-map c.args.tables.now table_of) in
    record { first = sym (search_found _ _ _ c.loop-table.invariant within (sym c.returns.ensures.back ∙ c.if-returns.true)) }

pub loop-table-preserved : goal.loop-table-preserved
loop-table-preserved c =
    let within : c.loop-table.table < length (schema_of c.args.tables.now) = omega (arith, c.loop-table-test.true, length-map c.args.tables.now table_of) in
    search_next _ _ _ c.loop-table.invariant within (sym c.returns.ensures.back ∙ c.if-returns.false)

pub returns : goal.returns
returns c =
    let past : length (schema_of c.args.tables.now) ≤ c.loop-table.table = omega (arith, c.loop-table-test.false, length-map c.args.tables.now table_of) in
    record { first = sym (search_fails _ _ _ c.loop-table.invariant past) }
