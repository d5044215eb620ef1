use Rattle.std.proofs.Common.{refl}
use Rattle.std.specs.Fmt.{digits}
use Rattle.ghost_model.specs.core.Schema.{places_from}
use Rattle.ghost_model.specs.refusals.Tokens.{tokens_from, quoted_from}
use Rattle.ghost_model.specs.readings.QueryPlaces.{read_from}
use Rattle.ghost_model.specs.core.Meaning.{combinations}
use Rattle.ghost_model.proofs.meaning.refused_texts.Goals as goal

pub returns : goal.returns
unfolding digits places_from tokens_from quoted_from read_from combinations
returns c = record {
  each = refl;
}
