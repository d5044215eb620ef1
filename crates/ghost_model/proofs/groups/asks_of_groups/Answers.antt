use Rattle.std.proofs.Common.{refl}
use Rattle.std.specs.Fmt.{digits}
use Rattle.hex.specs.Hex.{encode_with, decode_pairs}
use Rattle.ghost_model.specs.core.Schema.{places_from}
use Rattle.ghost_model.specs.refusals.Tokens.{tokens_from, quoted_from}
use Rattle.ghost_model.specs.readings.QueryPlaces.{read_from}
use Rattle.ghost_model.proofs.groups.asks_of_groups.Goals as goal

pub returns : goal.returns
unfolding digits encode_with decode_pairs places_from tokens_from quoted_from read_from
returns c = record {
  a_mixed_group = refl;
  a_visible_list = refl;
  a_hidden_list = refl;
  keys_and_identifiers = refl;
  a_refused_group = refl;
  an_identifier_and_a_visible_column = refl;
  a_value_or_null = refl;
  a_comparison = refl;
  null = refl;
  unequal = refl;
  a_list_in_a_group = refl;
}
