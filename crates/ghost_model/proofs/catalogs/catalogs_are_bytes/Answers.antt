use Rattle.ghost_model.proofs.SessionLemmas.Settings.{bytes_are}
use Rattle.ghost_model.proofs.catalogs.catalogs_are_bytes.Goals as goal

pub returns : goal.returns
returns c = bytes_are
