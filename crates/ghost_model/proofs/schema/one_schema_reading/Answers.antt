use Rattle.ghost_model.proofs.SchemaRuleLemmas.{one_schema}
use Rattle.ghost_model.proofs.schema.one_schema_reading.Goals as goal

pub returns : goal.returns
returns c = one_schema
