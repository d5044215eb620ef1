use Rattle.candidate_gathering.proofs.known_lemmas.Blaming.{are_found}
use Rattle.candidate_gathering.proofs.known.laws.blamed_slots_are_found.Goals as goal

pub returns : goal.returns
returns c = record { found = are_found }
