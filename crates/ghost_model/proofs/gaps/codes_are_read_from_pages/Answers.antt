use Rattle.ghost_model.proofs.GapLemmas.Reading.{from_pages}
use Rattle.ghost_model.proofs.gaps.codes_are_read_from_pages.Goals as goal

pub returns : goal.returns
returns c = from_pages
