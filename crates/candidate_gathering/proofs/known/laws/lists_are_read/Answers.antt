use Rattle.candidate_gathering.proofs.known_lemmas.ReadFiles.{lists_read}
use Rattle.candidate_gathering.proofs.known.laws.lists_are_read.Goals as goal

pub returns : goal.returns
returns c = lists_read
