use Rattle.std.proofs.Common.{refl}
use Rattle.ghost_model.specs.core.Schema.{places_from, ancestor}
use Rattle.ghost_model.specs.refusals.Tokens.{tokens_from, quoted_from}
use Rattle.ghost_model.specs.readings.SchemaPlaces.{syntax_from}
use Rattle.ghost_model.specs.refusals.SchemaFaults.{fields_from}
use Rattle.ghost_model.proofs.schema.names_of_schemas.Goals as goal

pub returns : goal.returns
unfolding tokens_from quoted_from syntax_from places_from ancestor fields_from
returns c = record {
  a_table_twice = refl;
  a_table_before_its_columns = refl;
  a_column_twice = refl;
  before_an_identifier = refl;
  a_second_identifier = refl;
  another_name = refl;
  no_key = refl;
  a_text = refl;
  an_identifier_with_null = refl;
  a_hidden_identifier = refl;
  an_identifier_that_refers = refl;
  a_later_key = refl;
  before_an_unknown_table = refl;
  an_unknown_table = refl;
  the_first_unknown_table = refl;
  a_column_is_no_table = refl;
}
