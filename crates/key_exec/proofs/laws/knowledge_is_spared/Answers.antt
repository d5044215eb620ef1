use Rattle.key_exec.proofs.SparedLemmas.{knowledge_still}
use Rattle.key_exec.proofs.laws.knowledge_is_spared.Goals as goal

pub returns : goal.returns
returns c = record { spared = knowledge_still c.knowledge_stays.ensures.but c.spared_halves_stay.ensures.rows }
