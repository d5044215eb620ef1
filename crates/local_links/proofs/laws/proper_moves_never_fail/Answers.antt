use Rattle.std.proofs.Common.{[]}
use Rattle.ghost_model.specs.core.Asks.{asked_of}
use Rattle.local_links.proofs.Sessions.{never_failed}
use Rattle.local_links.proofs.laws.proper_moves_never_fail.Goals as goal

pub returns : goal.returns
returns g c = record {
  never = λ catalog at texts journal before after proper steps. never_failed g.D.Depot.contents g.D.Depot.faults g.D.Depot.sure catalog at (asked_of catalog.schema texts) [] journal before after proper steps;
}
