use Rattle.climbing_index.proofs.BlamedSlots.{are_damaged}
use Rattle.climbing_index.proofs.laws.damage_is_of_slots.Goals as goal

pub returns : goal.returns
returns c = record { damaged = are_damaged c.files_lie_as_summed.ensures }
