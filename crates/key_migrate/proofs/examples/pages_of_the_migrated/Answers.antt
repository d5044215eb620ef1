use Rattle.std.proofs.Common.{refl}
use Rattle.std.specs.Fmt.{digits}
use Rattle.ghost_model.specs.core.Schema.{places_from, ancestor}
use Rattle.ghost_model.specs.forms.Layout.{first_page, files_end}
use Rattle.tree_schema.specs.Nulls.{changed_at}
use Rattle.key_migrate.proofs.examples.pages_of_the_migrated.Goals as goal

pub returns : goal.returns
unfolding ancestor changed_at digits files_end first_page places_from
returns c = record { country = refl; purpose = refl }
