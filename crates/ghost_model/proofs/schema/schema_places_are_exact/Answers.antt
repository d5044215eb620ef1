use Rattle.ghost_model.proofs.SchemaLemmas.{schema_places}
use Rattle.ghost_model.proofs.schema.schema_places_are_exact.Goals as goal

pub returns : goal.returns
returns c = schema_places
