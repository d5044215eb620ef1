use Rattle.candidate_gathering.proofs.known_lemmas.Blaming.{bad_are_read}
use Rattle.candidate_gathering.proofs.known.laws.bad_slots_are_read.Goals as goal

pub returns : goal.returns
returns c = record { read = bad_are_read c.files_lie_as_summed.ensures c.files_lie_in_order.ensures c.layout_is_small.ensures c.records_stand_within.ensures }
