use Rattle.key_exec.proofs.KnowledgeLemmas.{held_but_by}
use Rattle.key_exec.proofs.laws.knowledge_is_enough.Goals as goal

pub returns : goal.returns
returns c = record { enough = held_but_by c.columns_give_values.ensures.values c.held_files_are_known.ensures.known }
