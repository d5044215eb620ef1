use Rattle.std.proofs.Common.{◌∙◌, ◌&&◌, ap₂}
use Rattle.std.specs.List.{list_all}
use Rattle.ghost_laws.specs.Scans.{known_along, holds_or_asked_along, stands_along}
use Rattle.condition_lists.proofs.MeetLemmas.{all_met, always_held}
use Rattle.condition_lists.proofs.FilterLemmas.{conditions_hold, tables_are}
use Rattle.condition_lists.proofs.laws.terms_are_those_of_queries.Goals as goal

pub returns : goal.returns
returns c = λ cat database over text asked read top top_is forms terms are given identifier row.
    let one = c.one_reading.ensures in
    let levels = c.levels_are_ancestors.ensures in
    let accepted = c.accepted_queries_are_followed.ensures in
    let keys = c.rows_lead_to_rows.ensures cat.schema database over.tree over.is in
    let values = c.hidden_values_of_databases.ensures in
    let holds = holds_or_asked_along cat.schema (known_along cat.schema database given top identifier) in
    all_met cat database over given top identifier row levels keys values asked.conditions _ terms are
    ∙ ap₂ (λ b ts. b && list_all (stands_along cat.schema database given top identifier) ts)
    (conditions_hold cat.schema over.tree levels top text asked read one accepted top_is holds (always_held cat database over given top identifier row levels keys values))
    (tables_are cat.schema over.tree levels top text asked read one accepted top_is forms)
