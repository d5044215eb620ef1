use Rattle.ghost_model.proofs.QueryReadingLemmas.{one_or_other, means_of, reading_of_means, refused_of, reading_of_refused}
use Rattle.ghost_model.proofs.query.one_reading.Goals as goal

pub returns : goal.returns
returns c = record {
  one = λ schema text. one_or_other schema text;
  meaning = λ schema text query. (means_of schema text query, reading_of_means schema text query);
  refusal = λ schema text refusal. (refused_of schema text refusal, reading_of_refused schema text refusal);
}
