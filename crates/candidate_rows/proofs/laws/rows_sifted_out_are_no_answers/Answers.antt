use Rattle.candidate_rows.proofs.FromLemmas.{sifted_out, stands_not, left_add_none}
use Rattle.candidate_rows.proofs.laws.rows_sifted_out_are_no_answers.Goals as goal

pub returns : goal.returns
returns c = record { conditions = sifted_out; stands = stands_not; left = left_add_none }
