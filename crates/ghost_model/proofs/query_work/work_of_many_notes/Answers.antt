use Rattle.std.proofs.Common.{refl}
use Rattle.std.specs.Fmt.{digits}
use Rattle.ghost_model.specs.forms.Left.{new_fields}
use Rattle.ghost_model.specs.core.Schema.{places_from, ancestor}
use Rattle.ghost_model.specs.core.Database.{leads_within}
use Rattle.ghost_model.specs.core.Split.{replies_from}
use Rattle.ghost_model.specs.refusals.Tokens.{tokens_from, quoted_from}
use Rattle.ghost_model.specs.readings.QueryPlaces.{read_from}
use Rattle.ghost_model.specs.core.Meaning.{combinations}
use Rattle.ghost_model.proofs.query_work.work_of_many_notes.Goals as goal

pub returns : goal.returns
unfolding digits places_from ancestor leads_within replies_from tokens_from quoted_from read_from combinations new_fields
returns c = record {
  sixty_four_rows = refl;
  sixty_three_rows = refl;
}
