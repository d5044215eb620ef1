use Rattle.key_exec.proofs.KnowledgeLemmas.{no_damage}
use Rattle.key_exec.proofs.laws.damage_is_never_met.Goals as goal

pub returns : goal.returns
returns c = record { never = no_damage c.columns_give_values.ensures.values c.held_files_are_known.ensures.known }
