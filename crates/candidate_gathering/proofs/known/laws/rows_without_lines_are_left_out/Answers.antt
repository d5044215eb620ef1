use Rattle.candidate_gathering.proofs.known_lemmas.Candidates.{left_out}
use Rattle.candidate_gathering.proofs.known.laws.rows_without_lines_are_left_out.Goals as goal

pub returns : goal.returns
returns c = record { left_out = left_out }
