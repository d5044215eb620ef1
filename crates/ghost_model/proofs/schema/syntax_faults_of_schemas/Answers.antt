use Rattle.std.proofs.Common.{refl}
use Rattle.ghost_model.specs.core.Schema.{places_from, ancestor}
use Rattle.ghost_model.specs.refusals.Tokens.{tokens_from, quoted_from}
use Rattle.ghost_model.specs.readings.SchemaPlaces.{syntax_from}
use Rattle.ghost_model.specs.refusals.SchemaFaults.{fields_from}
use Rattle.ghost_model.proofs.schema.syntax_faults_of_schemas.Goals as goal

pub returns : goal.returns
unfolding tokens_from quoted_from syntax_from places_from ancestor fields_from
returns c = record {
  no_column = refl;
  the_end = refl;
  white_space_before = refl;
  a_reserved_word = refl;
  a_word_of_queries = refl;
  a_column_of_such_a_word = refl;
  digits_before_a_name = refl;
  a_sign = refl;
  half_a_key = refl;
  null = refl;
  null_before_a_reference = refl;
  null_after_a_reference = refl;
  null_after_hidden = refl;
  null_twice = refl;
  not_null = refl;
  a_key_of_text = refl;
  a_text_that_refers = refl;
  hidden_stands_last = refl;
  references_stands_after = refl;
  not_the_identifier = refl;
  a_comma_too_many = refl;
  no_semicolon = refl;
  a_comment = refl;
  an_open_literal = refl;
  before_a_limit = refl;
}
