use Rattle.std.proofs.Common.{◌<◌, ◌≤◌, length, ap, sym, ◌∙◌, nat_lt, arith}
use Rattle.std.proofs.lemmas.Bool.{lt-ltb, le-ltb}
use Rattle.std.proofs.lemmas.List.{length-map}
use Rattle.tree_schema.specs.Views.{schema_of, table_of}
use Rattle.tree_schema.proofs.RuleSteps.{search_next, search_found, search_fails}
use Rattle.tree_schema.proofs.trees.first_shared.Goals as goal

pub returns-then-keys_naming-gt1 : goal.returns-then-keys_naming-gt1
returns-then-keys_naming-gt1 c =
    let within : c.loop-child.child < length (schema_of c.args.tables.now) = omega (arith, c.loop-child-test.true, length-map c.args.tables.now table_of) in
    record { first = sym (search_found _ _ _ c.loop-child.invariant within (ap (nat_lt 1) (sym c.keys_naming.ensures.keys) ∙ lt-ltb 1 _ c.if-keys_naming-gt1.true)) }

pub loop-child-preserved : goal.loop-child-preserved
loop-child-preserved c =
    let within : c.loop-child.child < length (schema_of c.args.tables.now) = omega (arith, c.loop-child-test.true, length-map c.args.tables.now table_of) in
    search_next _ _ _ c.loop-child.invariant within (ap (nat_lt 1) (sym c.keys_naming.ensures.keys) ∙ le-ltb 1 _ c.if-keys_naming-gt1.false)

pub returns : goal.returns
returns c =
    let past : length (schema_of c.args.tables.now) ≤ c.loop-child.child = omega (arith, c.loop-child-test.false, length-map c.args.tables.now table_of) in
    record { first = sym (search_fails _ _ _ c.loop-child.invariant past) }
