use Rattle.std.proofs.Common.{[], ◌∷◌, map}
use Rattle.std.specs.Prelude.{◌&&◌, unwrap_or}
use Rattle.std.specs.List.{list_all}
use Rattle.ghost_model.specs.core.Meaning.{no_value}
use Rattle.ghost_laws.specs.Scans.{known_along, holds_or_asked_along, stands_along}
use Rattle.condition_lists.proofs.MemberLemmas.{among_of}
use Rattle.condition_lists.proofs.TermLemmas.{no_and, no_rows}
use Rattle.condition_lists.proofs.UnionLemmas.{one_absent}
use Rattle.condition_lists.proofs.laws.rows_outside_replies_are_no_answers.Goals as goal

pub returns : goal.returns
returns c = λ schema database asked given top identifier table held absent.
    let holds = holds_or_asked_along schema (known_along schema database given top identifier) in
    let stands = stands_along schema database given top identifier in
    let values = map (λ one. unwrap_or (known_along schema database given top identifier one) no_value) asked.select in
    no_rows (values ∷ []) (list_all stands asked.from && list_all holds asked.conditions)
    (no_and (list_all stands asked.from) (list_all holds asked.conditions)
    (one_absent stands asked.from table (among_of asked.from table held) absent))
