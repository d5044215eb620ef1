use Rattle.candidate_rows.proofs.FromLemmas.{tests_are}
use Rattle.candidate_rows.proofs.laws.tests_are_those_of_answers.Goals as goal

pub returns : goal.returns
returns c = record { same = tests_are c.one_reading.ensures c.accepted_queries_are_followed.ensures c.rows_lead_to_rows.ensures }
