use Rattle.ghost_model.proofs.MeaningLemmas.PartsByFlags.{visible_parts, hidden_parts, rejoined_parts}
use Rattle.ghost_model.proofs.meaning.parts_by_flags.Goals as goal

pub returns : goal.returns
returns c = record { visible = visible_parts; hidden = hidden_parts; again = rejoined_parts }
