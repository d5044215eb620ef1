use Rattle.local_links.proofs.Sessions.{goes_locally}
use Rattle.local_links.proofs.laws.sessions_are_local.Goals as goal

pub returns : goal.returns
returns g c = record {
  is_local = λ catalog database at texts journal before after setting stored proper steps is stands.
      goes_locally g.D.Depot.contents g.D.Depot.faults g.D.Depot.sure catalog database at texts setting stored c.served_journals_join.ensures c.next_moves_find_the_desk.ensures journal before after proper steps is stands;
}
