use Rattle.std.proofs.Common.{refl}
use Rattle.std.specs.Fmt.{digits}
use Rattle.ghost_model.specs.core.Schema.{places_from, ancestor}
use Rattle.ghost_model.specs.refusals.Tokens.{tokens_from, quoted_from}
use Rattle.ghost_model.specs.readings.SchemaPlaces.{syntax_from}
use Rattle.ghost_model.specs.refusals.SchemaFaults.{fields_from}
use Rattle.ghost_model.proofs.schema.schemas_of_texts.Goals as goal

pub returns : goal.returns
unfolding digits tokens_from quoted_from syntax_from places_from ancestor fields_from
returns c = record {
  clinic = refl;
  small_letters_and_int = refl;
  a_key_is_hidden_unasked = refl;
  columns_with_null = refl;
  numbers_with_null = refl;
  null_in_its_own_text = refl;
  longest_name = refl;
}
