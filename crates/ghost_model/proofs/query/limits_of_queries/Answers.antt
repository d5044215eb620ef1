use Rattle.std.proofs.Common.{refl}
use Rattle.ghost_model.specs.refusals.Tokens.{tokens_from, quoted_from}
use Rattle.ghost_model.specs.core.Schema.{places_from}
use Rattle.ghost_model.specs.readings.QueryPlaces.{read_from}
use Rattle.ghost_model.proofs.query.limits_of_queries.Goals as goal

pub returns : goal.returns
unfolding tokens_from quoted_from places_from read_from
returns c = record {
  after_syntax = refl;
  tables = refl;
  before_table = refl;
  long_table = refl;
  no_long_table = refl;
  long_column = refl;
  no_long_column = refl;
  long_qualifier = refl;
  long_other_side = refl;
  literals = refl;
  between_counts_twice = refl;
  joins_do_not_count = refl;
  columns = refl;
  no_column_too_many = refl;
  star_counts_each_entry = refl;
  star_below_the_limit = refl;
  star_counts_no_missing_table = refl;
  long_text = refl;
  no_long_text = refl;
}
