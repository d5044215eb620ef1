use Rattle.spill_pass.proofs.SparedMerging.{source_is_spared}
use Rattle.spill_pass.proofs.spared.source_is_spared.Goals as goal

pub returns : goal.returns
returns c = record { source = source_is_spared }
