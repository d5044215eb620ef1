use Rattle.std.proofs.Common.{◌<◌, length, sym, ◌∙◌, arith}
use Rattle.script_asks.proofs.QueryLemmas.{found_ask, passed_table, no_table}
use Rattle.script_asks.proofs.queries.next_ask.Goals as goal

pub returns-then-is_some-clause-some : goal.returns-then-is_some-clause-some
returns-then-is_some-clause-some c =
    let within : c.tables.table < length c.args.schema.now = omega (arith, c.tables-test.true, c.table_count-tables.ensures.count) in
    found_ask c.args.schema.now c.args.query.now c.args.first c.tables.table c.byte_of.result c.needed_ask-found.result within c.tables.invariant
    c.byte_of.ensures c.needed_ask-found.ensures.ask c.needed_ask-found.ensures.place

pub tables-preserved : goal.tables-preserved
tables-preserved c =
    let within : c.tables.table < length c.args.schema.now = omega (arith, c.tables-test.true, c.table_count-tables.ensures.count) in
    passed_table c.args.schema.now c.args.query.now c.args.first c.tables.table c.byte_of.result c.needed_ask-found.result within c.tables.invariant
    c.byte_of.ensures c.needed_ask-found.ensures.ask (sym c.is_some.ensures ∙ c.if-is_some.false)

pub returns-clause-none : goal.returns-clause-none
returns-clause-none c =
    c.tables.invariant ∙ no_table c.args.schema.now c.args.query.now c.tables.table (omega (arith, c.tables-test.false, c.table_count-tables.ensures.count))
