use Rattle.std.proofs.Common.{◌∙◌, ap, sym, inl, inr, ◌&&◌, [], ◌∷◌, filter, map}
use Rattle.std.specs.Prelude.{unwrap_or}
use Rattle.std.specs.List.{list_all}
use Rattle.std.proofs.lemmas.Bool.{and_parts}
use Rattle.ghost_model.specs.core.Meaning.{no_value}
use Rattle.ghost_laws.specs.Scans.{known_along, holds_or_asked_along, stands_along}
use Rattle.ghost_laws.specs.Asking.{is_gathered, without_left}
use Rattle.ghost_laws.proofs.AskingLemmas.{gathered_without_left}
use Rattle.condition_lists.specs.Terms.{is_compared, is_united}
use Rattle.condition_lists.proofs.TermLemmas.{and_no, no_and, no_rows}
use Rattle.condition_lists.proofs.UnionLemmas.{one_fails, either_fails}
use Rattle.condition_lists.proofs.laws.terms_sift_rows.Goals as goal

pub returns : goal.returns
returns c = record {
  met = λ cat database over text asked read top top_is forms terms are given identifier row e.
      (and_parts
      (list_all (holds_or_asked_along cat.schema (known_along cat.schema database given top identifier)) (filter (is_gathered cat.schema) asked.conditions))
      (list_all (stands_along cat.schema database given top identifier) (filter (λ table. is_compared cat.schema asked table && is_united forms top table) asked.from))
      (sym (c.terms_are_those_of_queries.ensures cat database over text asked read top top_is forms terms are given identifier row) ∙ e)).0;
  unmet = λ cat database over text asked read top top_is forms terms are given identifier row e.
      let holds = holds_or_asked_along cat.schema (known_along cat.schema database given top identifier) in
      let stands = stands_along cat.schema database given top identifier in
      let values = map (λ one. unwrap_or (known_along cat.schema database given top identifier one) no_value) asked.select in
      let failed = sym (c.terms_are_those_of_queries.ensures cat database over text asked read top top_is forms terms are given identifier row) ∙ e in
      let kept = (without_left cat.schema asked).conditions in
      no_rows (values ∷ []) (list_all stands asked.from && list_all holds kept)
      (elim (either_fails (list_all holds (filter (is_gathered cat.schema) asked.conditions)) (list_all stands (filter (λ table. is_compared cat.schema asked table && is_united forms top table) asked.from)) failed) [
        | inl unheld ↦ and_no (list_all stands asked.from) (list_all holds kept)
            (one_fails holds (is_gathered cat.schema) kept (ap (list_all holds) (gathered_without_left cat.schema asked) ∙ unheld))
        | inr absent ↦ no_and (list_all stands asked.from) (list_all holds kept) (one_fails stands (λ table. is_compared cat.schema asked table && is_united forms top table) asked.from absent)
      ]);
}
