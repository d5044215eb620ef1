use Rattle.script_asks.proofs.QueryLemmas.{ask_is}
use Rattle.script_asks.proofs.queries.ask_for.Goals as goal

pub returns : goal.returns
returns c = record {
  ask = ask_is c.args.schema.now c.args.query.now c.args.table _ _ _ c.members.ensures.grouped c.wanted_columns.ensures.columns c.tests_for.ensures.tests;
}
