use Rattle.std.proofs.Common.{inr}
use Rattle.local_links.proofs.Sessions.{all_served}
use Rattle.local_links.proofs.laws.sessions_are_served.Goals as goal

pub returns : goal.returns
returns g c = record {
  served = λ before after journal held desk steps calm at free. all_served g.D.Depot.contents g.D.Depot.faults g.D.Depot.sure before after journal held desk steps (inr calm) at free;
}
