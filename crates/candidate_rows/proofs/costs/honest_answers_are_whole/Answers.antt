use Rattle.candidate_rows.proofs.HonestLemmas.{answers_are}
use Rattle.candidate_rows.proofs.costs.honest_answers_are_whole.Goals as goal

pub returns : goal.returns
returns c = record {
  answers = answers_are c.one_reading.ensures c.accepted_queries_are_followed.ensures c.without_left_is_followed.ensures c.followed_answers_follow_keys.ensures c.rows_lead_to_rows.ensures
      c.joins_count_once.ensures;
}
