use Rattle.ghost_model.specs.core.Asks.{is_shown}
use Rattle.script_asks.proofs.QueryLemmas.{some_then, some_else}
use Rattle.script_asks.proofs.queries.has_visible_member.Goals as goal

pub returns-then-is_shown : goal.returns-then-is_shown
returns-then-is_shown c = record {
  visible = some_then (is_shown c.args.schema.now c.args.table) c.args.first.now c.args.others.now c.is_shown.result c.is_shown.ensures.shown c.if-is_shown.true;
}

pub returns-else-is_shown : goal.returns-else-is_shown
returns-else-is_shown c = record {
  visible = some_else (is_shown c.args.schema.now c.args.table) c.args.first.now c.args.others.now c.is_shown.result c.any_shown.result
      c.is_shown.ensures.shown c.if-is_shown.false c.any_shown.ensures.shown;
}
