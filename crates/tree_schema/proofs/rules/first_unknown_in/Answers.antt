use Rattle.std.proofs.Common.{◌<◌, ◌≤◌, length, map, slice_get, sym, ◌∙◌, arith}
use Rattle.ghost_model.specs.refusals.SchemaFaults as faults
use Rattle.tree_schema.specs.Drafts.{table_of}
use Rattle.tree_schema.proofs.RuleSteps.{search_next, search_found, search_fails}
use Rattle.tree_schema.proofs.rules.first_unknown_in.Goals as goal

pub returns-then-is_unknown : goal.returns-then-is_unknown
returns-then-is_unknown c =
    let within : c.loop-column.column < length (faults.columns_at (slice_get (map table_of c.args.tables.now) c.args.table)) = omega (arith, c.loop-column-test.true, c.columns_len-column-end.ensures.count) in
    record { first = sym (search_found _ _ _ c.loop-column.invariant within (sym c.is_unknown.ensures.unknown ∙ c.if-is_unknown.true)) }

pub loop-column-preserved : goal.loop-column-preserved
loop-column-preserved c =
    let within : c.loop-column.column < length (faults.columns_at (slice_get (map table_of c.args.tables.now) c.args.table)) = omega (arith, c.loop-column-test.true, c.columns_len-column-end.ensures.count) in
    search_next _ _ _ c.loop-column.invariant within (sym c.is_unknown.ensures.unknown ∙ c.if-is_unknown.false)

pub returns : goal.returns
returns c =
    let past : length (faults.columns_at (slice_get (map table_of c.args.tables.now) c.args.table)) ≤ c.loop-column.column = omega (arith, c.loop-column-test.false, c.columns_len-column-end.ensures.count) in
    record { first = sym (search_fails _ _ _ c.loop-column.invariant past) }
