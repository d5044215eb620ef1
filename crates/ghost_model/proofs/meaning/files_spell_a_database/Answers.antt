use Rattle.ghost_model.proofs.MeaningLemmas.Loading.{files_are}
use Rattle.ghost_model.proofs.meaning.files_spell_a_database.Goals as goal

pub returns : goal.returns
returns c = files_are
