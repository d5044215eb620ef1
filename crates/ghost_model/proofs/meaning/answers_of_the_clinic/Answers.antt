use Rattle.std.proofs.Common.{refl}
use Rattle.std.specs.Fmt.{digits}
use Rattle.ghost_model.specs.core.Schema.{places_from}
use Rattle.ghost_model.specs.refusals.Tokens.{tokens_from, quoted_from}
use Rattle.ghost_model.specs.readings.QueryPlaces.{read_from}
use Rattle.ghost_model.specs.core.Meaning.{combinations}
use Rattle.ghost_model.proofs.meaning.answers_of_the_clinic.Goals as goal

pub returns : goal.returns
unfolding digits places_from tokens_from quoted_from read_from combinations
returns c = record {
  a_join = refl;
  no_text = refl;
  a_hidden_condition = refl;
  a_visible_condition = refl;
  each_row_once = refl;
  a_refusal_and_an_answer = refl;
  no_row = refl;
  three_texts = refl;
  the_least_integer = refl;
  a_hidden_condition_below = refl;
  every_column = refl;
  a_join_either_side_first = refl;
  notes_on_a_topic = refl;
  the_same_text_twice = refl;
  two_texts_on_notes = refl;
}
