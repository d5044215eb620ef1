use Rattle.candidate_rows.proofs.HonestLemmas.{rows_cost}
use Rattle.candidate_rows.proofs.costs.rows_cost_their_work.Goals as goal

pub returns : goal.returns
returns c = record { row = rows_cost c.one_reading.ensures c.accepted_queries_are_followed.ensures }
