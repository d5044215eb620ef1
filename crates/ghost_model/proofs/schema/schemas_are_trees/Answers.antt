use Rattle.ghost_model.proofs.SchemaTreeLemmas.{schemas_are_trees}
use Rattle.ghost_model.proofs.schema.schemas_are_trees.Goals as goal

pub returns : goal.returns
returns c = schemas_are_trees
