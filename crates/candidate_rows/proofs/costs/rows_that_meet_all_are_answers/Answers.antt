use Rattle.candidate_rows.proofs.HonestLemmas.{all_answer}
use Rattle.candidate_rows.proofs.costs.rows_that_meet_all_are_answers.Goals as goal

pub returns : goal.returns
returns c = record {
  answers = all_answer c.one_reading.ensures c.accepted_queries_are_followed.ensures c.rows_lead_to_rows.ensures;
}
