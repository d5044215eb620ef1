use Rattle.candidate_gathering.proofs.known_lemmas.Staying.{stays}
use Rattle.candidate_gathering.proofs.known.laws.knowledge_stays.Goals as goal

pub returns : goal.returns
returns c =
    stays c.files_lie_as_summed.ensures c.files_lie_in_order.ensures c.layout_is_small.ensures c.records_stand_within.ensures
    c.held_indexes_stay.ensures.stay c.held_indexes_stay.ensures.readings c.holdings_are_kept.ensures
