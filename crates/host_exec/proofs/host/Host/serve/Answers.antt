use Rattle.std.proofs.Common.{refl}
use Rattle.edge_traits.proofs.CountLemmas.{counting_more, made_well}
use Rattle.host_exec.proofs.Endings.{serves_closed}
use Rattle.host_exec.proofs.host.Host.serve.Goals as goal

pub returns-clause-serves : goal.returns-clause-serves
returns-clause-serves g c =
    serves_closed _ _ _ _ _ _ c.take_turns-served.ensures.serves
    (λ one went. counting_more _ _ _ _ _ _ (λ a b x y. g.met.L.Link.joins _ _ _ a b x y) one _ went
    (made_well _ _ _ _ c.close.ensures.moved refl c.close.ensures.faults))
