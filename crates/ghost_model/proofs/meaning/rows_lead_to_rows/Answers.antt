use Rattle.ghost_model.proofs.MeaningLemmas.Leading.{rows_lead}
use Rattle.ghost_model.proofs.meaning.rows_lead_to_rows.Goals as goal

pub returns : goal.returns
returns c = rows_lead
