use Rattle.ghost_model.specs.core.Asks.{is_shown}
use Rattle.script_asks.proofs.QueryLemmas.{each_then, each_else}
use Rattle.script_asks.proofs.queries.is_visible_group.Goals as goal

pub returns-then-is_shown : goal.returns-then-is_shown
returns-then-is_shown c = record {
  visible = each_then (is_shown c.args.schema.now c.args.table) c.args.first.now c.args.others.now c.is_shown.result c.are_shown.result
      c.is_shown.ensures.shown c.if-is_shown.true c.are_shown.ensures.shown;
}

pub returns-else-is_shown : goal.returns-else-is_shown
returns-else-is_shown c = record {
  visible = each_else (is_shown c.args.schema.now c.args.table) c.args.first.now c.args.others.now c.is_shown.result c.is_shown.ensures.shown c.if-is_shown.false;
}
