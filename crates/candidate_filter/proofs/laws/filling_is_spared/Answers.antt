use Rattle.candidate_filter.proofs.Sparing.{filling_given, filling_stays, fills_stay}
use Rattle.candidate_filter.proofs.laws.filling_is_spared.Goals as goal

pub returns : goal.returns
returns c = record { filling = filling_stays; fills = fills_stay c.filters_stay.ensures.stay; given = filling_given }
