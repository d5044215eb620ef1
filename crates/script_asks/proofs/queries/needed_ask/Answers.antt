use Rattle.std.proofs.Common.{◌≡◌, ◌==◌, true, sym, ap, ◌∙◌}
use Rattle.std.specs.List.{list_any}
use Rattle.ghost_model.specs.core.Asks.{is_needed}
use Rattle.channel_codec.specs.AskViews.{ask_view, test_view}
use Rattle.script_asks.proofs.QueryLemmas.{not_asked, asked_alone, needs_columns, needs_tests}
use Rattle.script_asks.proofs.queries.needed_ask.Goals as goal
use Rattle.script_asks.proofs.queries.needed_ask.Goals.{else-is_empty-via-then-is_empty+else-is_empty-2, else-is_empty-via-else-is_empty}

pub returns-then-not-is_among-clause-ask : goal.returns-then-not-is_among-clause-ask
returns-then-not-is_among-clause-ask c =
    not_asked c.args.schema.now c.args.query.now c.args.table
    (ap (list_any (λ other. other == c.args.table)) (sym c.from.ensures.tables) ∙ (sym c.is_among.ensures ∙ c.if-not-is_among.true))

pub returns-clause-ask : goal.returns-clause-ask
returns-clause-ask c =
    let needed : is_needed (ask_view c.ask_for-ask.result) ≡ true = elim c.else-is_empty.branch [
      | else-is_empty-via-then-is_empty+else-is_empty-2 w ↦ needs_tests c.ask_for-ask.result.table c.ask_for-ask.result.columns.items test_view c.ask_for-ask.result.tests.items
          (sym w.is_empty-then-is_empty.ensures ∙ w.if-is_empty-2.false)
      | else-is_empty-via-else-is_empty w ↦ needs_columns (ask_view c.ask_for-ask.result) (sym c.is_empty.ensures ∙ w.if-is_empty.false)
    ] in
    asked_alone c.args.schema.now c.args.query.now c.args.table _
    (ap (list_any (λ other. other == c.args.table)) (sym c.from.ensures.tables) ∙ (sym c.is_among.ensures ∙ c.if-not-is_among.false)) c.ask_for-ask.ensures.ask needed
