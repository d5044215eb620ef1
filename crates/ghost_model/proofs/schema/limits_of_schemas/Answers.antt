use Rattle.std.proofs.Common.{refl}
use Rattle.ghost_model.specs.core.Schema.{places_from, ancestor}
use Rattle.ghost_model.specs.refusals.Tokens.{tokens_from, quoted_from}
use Rattle.ghost_model.specs.readings.SchemaPlaces.{syntax_from}
use Rattle.ghost_model.specs.refusals.SchemaFaults.{fields_from}
use Rattle.ghost_model.proofs.schema.limits_of_schemas.Goals as goal

pub returns : goal.returns
unfolding tokens_from quoted_from syntax_from places_from ancestor fields_from
returns c = record {
  thirteen_tables = refl;
  twelve_tables = refl;
  twenty_five_columns = refl;
  twenty_four_columns = refl;
  name_of_a_table = refl;
  name_of_a_column = refl;
  name_of_a_text_column = refl;
  name_that_is_referred_to = refl;
  no_character = refl;
  sixty_five_characters = refl;
  very_many_characters = refl;
  before_a_repeated_name = refl;
}
