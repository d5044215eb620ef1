use Rattle.candidate_gathering.proofs.searching_lemmas.ReadsGiven.{search_blames}
use Rattle.candidate_gathering.proofs.searching.laws.searches_blame.Goals as goal

pub returns : goal.returns
returns c = search_blames
