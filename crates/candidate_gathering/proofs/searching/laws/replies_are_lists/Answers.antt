use Rattle.std.proofs.Common.{subst, ℕ, List, Contains}
use Rattle.std.specs.Prelude.{◌↔◌}
use Rattle.spill_pass.specs.Lists.{InList}
use Rattle.candidate_gathering.specs.searching.Begun.{rows_list}
use Rattle.candidate_gathering.proofs.searching_lemmas.Places.{both}
use Rattle.candidate_gathering.proofs.searching_lemmas.RowReplies.{in_rows, ordered}
use Rattle.candidate_gathering.proofs.searching.laws.replies_are_lists.Goals as goal

pub returns : goal.returns
returns c = record {
  ordered = λ page right reply wide held holds rights. ordered reply wide held page right holds rights;
  rows = λ right cat database given top one reply are wide held holds same identifier.
      both (subst (λ (ids : List ℕ). InList right (rows_list one) identifier ↔ Contains ids identifier) same (in_rows one wide held right holds identifier))
      (c.lists_are_of_terms.ensures.top_reply cat database given top reply are identifier);
}
