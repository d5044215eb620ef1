use Rattle.std.proofs.Common.{ap, sym, not}
use Rattle.ghost_model.specs.core.Schema.{parent}
use Rattle.ghost_model.specs.core.Query.{is_some_among}
use Rattle.spj_parse.proofs.NameLemmas.{two_pass}
use Rattle.spj_parse.proofs.links.top_among.Goals as goal

pub returns-then-is_some : goal.returns-then-is_some
returns-then-is_some c = record {
  top = two_pass (λ table. not (is_some_among c.args.from.now (parent c.args.schema.now table))) c.args.from.now c.loop-table.table-index c.loop-table.top
      c.if-is_some.ensures c.loop-table.invariant (ap not (sym c.if-not-has_parent_among.ensures.among)) c.loop-table-test.true;
}
