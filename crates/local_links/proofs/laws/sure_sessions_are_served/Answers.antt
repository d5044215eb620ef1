use Rattle.local_links.proofs.Sessions.{surely_served}
use Rattle.local_links.proofs.laws.sure_sessions_are_served.Goals as goal

pub returns : goal.returns
returns g c = record {
  served = λ before after journal held desk steps is at free. surely_served g.D.Depot.contents g.D.Depot.faults g.D.Depot.sure before after journal held desk steps is at free;
}
