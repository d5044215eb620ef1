use Rattle.std.proofs.Common.{[]}
use Rattle.ghost_model.specs.core.Asks.{asked_of}
use Rattle.session_laws.proofs.Closing.{no_more}
use Rattle.session_laws.proofs.text_ends.finished_journals_stay.Goals as goal

pub returns : goal.returns
returns c catalog at texts journal more goes finished =
    no_more catalog (asked_of catalog.schema texts) at [] journal more goes finished
