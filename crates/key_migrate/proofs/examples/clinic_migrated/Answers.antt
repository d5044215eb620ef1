use Rattle.std.proofs.Common.{refl}
use Rattle.std.specs.Fmt.{digits}
use Rattle.ghost_model.specs.core.Schema.{places_from}
use Rattle.tree_schema.specs.Nulls.{changed_at}
use Rattle.key_migrate.proofs.examples.clinic_migrated.Goals as goal

pub returns : goal.returns
unfolding changed_at digits places_from
returns c = record { renewed = refl; again = refl; kind = refl; bytes = refl; line = refl }
