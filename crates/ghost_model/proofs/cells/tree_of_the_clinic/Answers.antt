use Rattle.std.proofs.Common.{refl}
use Rattle.ghost_model.specs.core.Schema.{places_from}
use Rattle.ghost_model.specs.laws.SchemaLaws.{children_from}
use Rattle.ghost_model.proofs.cells.tree_of_the_clinic.Goals as goal

pub returns : goal.returns
unfolding places_from children_from
returns c = record { parents = refl; children = refl }
