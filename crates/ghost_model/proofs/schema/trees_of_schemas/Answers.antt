use Rattle.std.proofs.Common.{refl}
use Rattle.ghost_model.specs.core.Schema.{places_from, ancestor}
use Rattle.ghost_model.specs.refusals.Tokens.{tokens_from, quoted_from}
use Rattle.ghost_model.specs.readings.SchemaPlaces.{syntax_from}
use Rattle.ghost_model.specs.refusals.SchemaFaults.{fields_from}
use Rattle.ghost_model.proofs.schema.trees_of_schemas.Goals as goal

pub returns : goal.returns
unfolding tokens_from quoted_from syntax_from places_from ancestor fields_from
returns c = record {
  before_two_parents = refl;
  two_parents = refl;
  one_table_twice = refl;
  the_child_that_is_declared_first = refl;
  before_a_cycle = refl;
  each_other = refl;
  itself = refl;
  the_lowest_on_the_cycle = refl;
  before_the_roots = refl;
  two_roots = refl;
  no_table = refl;
  white_space = refl;
}
