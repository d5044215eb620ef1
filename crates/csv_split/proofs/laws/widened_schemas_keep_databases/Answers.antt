use Rattle.csv_split.proofs.WidenedSchemas.{kept}
use Rattle.csv_split.proofs.laws.widened_schemas_keep_databases.Goals as goal

pub returns : goal.returns
returns c = kept
