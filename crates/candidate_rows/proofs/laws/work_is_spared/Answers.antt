use Rattle.candidate_rows.proofs.SparedLemmas.{stays_ready, still_stands}
use Rattle.candidate_rows.proofs.laws.work_is_spared.Goals as goal

pub returns : goal.returns
returns c = record { ready = stays_ready c.spared_halves_stay.ensures.readable; stands = still_stands }
