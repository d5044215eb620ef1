use Rattle.std.proofs.Common.{sym, subst, inl, inr, [], ◌∷◌, filter}
use Rattle.ghost_model.proofs.MeaningLemmas.OneRow.{from_filter}
use Rattle.condition_lists.specs.Terms.{IsReplyTermOf, is_listed, listed_members}
use Rattle.condition_lists.proofs.FilterLemmas.{term_is_gathered}
use Rattle.condition_lists.proofs.MemberLemmas.{contains_of}
use Rattle.condition_lists.proofs.PlaceLemmas.{found, its_condition}
use Rattle.condition_lists.proofs.laws.each_table_term_is_of_the_query.Goals as goal

pub returns : goal.returns
returns c = λ cat asked table held compared terms are place term e.
    elim (found cat table (listed_members cat.schema table asked.conditions) (table ∷ []) terms are place term e) [
      | inl of ↦ (
          let one = its_condition cat table (filter (is_listed cat.schema table) asked.conditions) term of in
          let from = from_filter (is_listed cat.schema table) one.condition asked.conditions one.among in
          inl (record {
            condition = one.condition;
            among = contains_of asked.conditions one.condition from.0;
            gathered = term_is_gathered cat.schema table one.condition from.1;
            is = one.is;
          }))
      | inr other ↦ elim other.among [
        | inl same ↦ inr (record {
          table = table;
          among = held;
          compared = compared;
          is = subst (λ t. IsReplyTermOf cat table t term.term) (sym same) other.is.is;
        })
        | inr later ↦ absurd later
      ]
    ]
