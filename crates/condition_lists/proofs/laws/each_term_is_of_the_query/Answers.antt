use Rattle.std.proofs.Common.{inl, inr, filter}
use Rattle.std.specs.Prelude.{◌&&◌}
use Rattle.std.proofs.lemmas.Bool.{and_parts}
use Rattle.ghost_model.proofs.MeaningLemmas.OneRow.{from_filter}
use Rattle.condition_lists.specs.Terms.{is_listed, listed_members, is_replied, is_compared, is_united, has_level}
use Rattle.condition_lists.proofs.FilterLemmas.{term_is_gathered}
use Rattle.condition_lists.proofs.MemberLemmas.{contains_of}
use Rattle.condition_lists.proofs.PlaceLemmas.{found, its_condition}
use Rattle.condition_lists.proofs.laws.each_term_is_of_the_query.Goals as goal

pub returns : goal.returns
returns c = λ cat asked forms top terms are place term e.
    elim (found cat top (listed_members cat.schema top asked.conditions) (filter (is_replied cat.schema asked forms top) asked.from) terms are place term e) [
      | inl of ↦ (
          let one = its_condition cat top (filter (is_listed cat.schema top) asked.conditions) term of in
          let from = from_filter (is_listed cat.schema top) one.condition asked.conditions one.among in
          inl (record {
            condition = one.condition;
            among = contains_of asked.conditions one.condition from.0;
            gathered = term_is_gathered cat.schema top one.condition from.1;
            is = one.is;
          }))
      | inr other ↦ (
          let from = from_filter (is_replied cat.schema asked forms top) other.table asked.from other.among in
          inr (record {
            table = other.table;
            among = contains_of asked.from other.table from.0;
            compared =
                (and_parts (is_compared cat.schema asked other.table) (has_level cat.schema top other.table)
                (and_parts (is_compared cat.schema asked other.table && has_level cat.schema top other.table) (is_united forms top other.table) from.1).0).0;
            is = other.is.is;
          }))
    ]
