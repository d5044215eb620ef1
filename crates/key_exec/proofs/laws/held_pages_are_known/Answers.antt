use Rattle.key_exec.proofs.KnowledgeLemmas.{held_known}
use Rattle.key_exec.proofs.laws.held_pages_are_known.Goals as goal

pub returns : goal.returns
returns c = record { known = held_known }
