use Rattle.visible_spool.proofs.SparedSpool.{stays_spooling, still_pushed}
use Rattle.visible_spool.proofs.laws.the_spool_is_spared.Goals as goal

pub returns : goal.returns
returns c = record { stays = stays_spooling; pushed = still_pushed }
