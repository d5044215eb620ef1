use Rattle.std.proofs.Common.{[]}
use Rattle.ghost_model.specs.core.Asks.{asked_of}
use Rattle.ghost_model.proofs.SessionLemmas.OneJournal.{same_journal}
use Rattle.ghost_model.proofs.session_laws.one_local_journal.Goals as goal

pub returns : goal.returns
returns c held catalog at texts first second p q f g s t =
    same_journal held catalog at (asked_of catalog.schema texts) [] first second p q f g s t
