use Rattle.candidate_gathering.proofs.known_lemmas.Candidates.{sifted}
use Rattle.candidate_gathering.proofs.known.laws.candidates_are_sifted.Goals as goal

pub returns : goal.returns
returns c = sifted
