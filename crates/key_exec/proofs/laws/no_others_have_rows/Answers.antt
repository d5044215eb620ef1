use Rattle.key_exec.proofs.FilledSlots.{only_these, no_slot_spells}
use Rattle.key_exec.proofs.laws.no_others_have_rows.Goals as goal

pub returns : goal.returns
returns c = record { only = only_these; none = no_slot_spells }
