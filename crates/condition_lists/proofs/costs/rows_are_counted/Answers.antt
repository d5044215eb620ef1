use Rattle.std.proofs.Common.{◌≡◌, ◌∙◌, subst, ℕ, ◌<◌, ◌≤◌, List, length, filter, get_or, arith}
use Rattle.std.proofs.lemmas.Bool.{eqb-true}
use Rattle.std.proofs.lemmas.Cmp.{nat_eq_equiv}
use Rattle.std.proofs.lemmas.List.Sums.{length-filter}
use Rattle.std.specs.Prelude.{nat_eq}
use Rattle.ghost_model.specs.core.Values.{Database}
use Rattle.ghost_model.specs.core.Channel.{Catalog}
use Rattle.ghost_model.specs.core.Replies as replies
use Rattle.ghost_model.specs.forms.Flash.{ids}
use Rattle.ghost_model.specs.forms.Layout.{count_of}
use Rattle.ghost_model.proofs.MeaningLemmas.OneRow.{Among, among-filter}
use Rattle.ghost_model.proofs.MeaningLemmas.Leading.{among_range}
use Rattle.condition_lists.specs.declared.term.Term.{Term}
use Rattle.condition_lists.specs.Terms.{meets}
use Rattle.condition_lists.specs.Costs.{rows_meeting}
use Rattle.condition_lists.specs.Laws.{IsMet}
use Rattle.condition_lists.proofs.CountLemmas.{ascending_once, at_most}
use Rattle.condition_lists.proofs.MemberLemmas.{contains_of, got}
use Rattle.condition_lists.proofs.costs.rows_are_counted.Goals as goal

module _ (cat : Catalog) (database : Database) (given : List replies.Reply) (top : ℕ) (term : Term) where
  met_rows : List ℕ
  met_rows = filter (λ x. meets cat.schema database given top x term) (ids (count_of cat top))

  met_among : (x : ℕ) → IsMet cat database given top term x → Among x met_rows
  unfolding met_rows
  met_among x is =
      let low = is.row.some in
      let high = is.row.within in
      among-filter (λ y. meets cat.schema database given top y term) x (ids (count_of cat top)) (among_range 1 (count_of cat top) x low (omega (arith, high))) is.met

  counted_rows : (identifiers : List ℕ) → ((i j : ℕ) → i < j → j < length identifiers → get_or identifiers i 0 < get_or identifiers j 0)
      → ((place : ℕ) → place < length identifiers → IsMet cat database given top term (get_or identifiers place 0)) → length identifiers ≤ length met_rows
  counted_rows identifiers up met =
      at_most nat_eq nat_eq_equiv (λ a b. eqb-true a b) identifiers met_rows (ascending_once identifiers up)
      (λ x among.
      let held = contains_of identifiers x among in
      met_among x (subst (IsMet cat database given top term) (got identifiers held.0 0 x held.1 ∙ held.2) (met held.0 held.1)))

  as_counted : length met_rows ≡ rows_meeting cat database given top term
  unfolding met_rows
  as_counted = length-filter (λ x. meets cat.schema database given top x term) (ids (count_of cat top))

pub returns : goal.returns
returns c = λ cat database given top term identifiers up met.
    let few = counted_rows cat database given top term identifiers up met in
    let size = as_counted cat database given top term in
    omega (arith, few, size)
