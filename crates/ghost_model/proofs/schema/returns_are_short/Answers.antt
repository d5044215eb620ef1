use Rattle.ghost_model.proofs.SchemaRuleLemmas.{returns_yes, returns_no}
use Rattle.ghost_model.proofs.schema.returns_are_short.Goals as goal

pub returns : goal.returns
returns c = λ schema table. (returns_yes schema table, returns_no schema table)
