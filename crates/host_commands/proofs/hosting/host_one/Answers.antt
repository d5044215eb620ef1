use Rattle.std.proofs.Common.{refl}
use Rattle.edge_traits.proofs.CountLemmas.{counting_more, made_well, made_in_vain}
use Rattle.host_commands.specs.Hosting.{Unheard, Unprinted, Uncalled}
use Rattle.host_commands.proofs.Courses.{accepted, blames}
use Rattle.host_commands.proofs.hosting.host_one.Goals as goal

pub returns-in-Err-clause-hosts : goal.returns-in-Err-clause-hosts
returns-in-Err-clause-hosts g c = record {
  course = Unheard;
  went = made_in_vain _ _ _ _ c.in-Err.ensures.moved refl c.in-Err.ensures.cause.never_falls c.in-Err.ensures.cause.failed;
  tells = refl;
  ends = (refl, refl);
}

pub returns-in-Err-clause-link : goal.returns-in-Err-clause-link
returns-in-Err-clause-link g c = blames _ _ _ _ _ _ _ _ _ _ (returns-in-Err-clause-hosts g c)

pub returns-in-Err-print_port-clause-hosts : goal.returns-in-Err-print_port-clause-hosts
returns-in-Err-print_port-clause-hosts g c = record {
  course = Unprinted c.in-Ok.port;
  went = made_well _ _ _ _ c.in-Ok.ensures.moved refl c.in-Ok.ensures.cause.other;
  tells = c.in-Err-print_port.ensures.failed;
  ends = (refl, refl);
}

pub returns-in-Err-print_port-clause-link : goal.returns-in-Err-print_port-clause-link
returns-in-Err-print_port-clause-link g c = blames _ _ _ _ _ _ _ _ _ _ (returns-in-Err-print_port-clause-hosts g c)

pub returns-in-Err-accept-clause-hosts : goal.returns-in-Err-accept-clause-hosts
returns-in-Err-accept-clause-hosts g c = record {
  course = Uncalled c.in-Ok.port;
  went = counting_more _ _ _ _ _ _ (λ a b x y. g.met.L.Link.joins _ _ _ a b x y) _ _
      (made_well _ _ _ _ c.in-Ok.ensures.moved refl c.in-Ok.ensures.cause.other)
      (made_in_vain _ _ _ _ c.in-Err-accept.ensures.moved refl c.in-Err-accept.ensures.cause.never_falls c.in-Err-accept.ensures.cause.failed);
  tells = c.in-Ok-print_port.ensures.whole;
  ends = (refl, refl);
}

pub returns-in-Err-accept-clause-link : goal.returns-in-Err-accept-clause-link
returns-in-Err-accept-clause-link g c = blames _ _ _ _ _ _ _ _ _ _ (returns-in-Err-accept-clause-hosts g c)

pub returns-clause-hosts : goal.returns-clause-hosts
returns-clause-hosts g c =
    accepted _ _ c.args.at.now c.in-Ok.port c.serve-served.result c.after_session.result _ _ _ _ _ c.serve-served.ensures.serves
    (λ session went. counting_more _ _ _ _ _ _ (λ a b x y. g.met.L.Link.joins _ _ _ a b x y) _ session
    (counting_more _ _ _ _ _ _ (λ a b x y. g.met.L.Link.joins _ _ _ a b x y) _ _
    (made_well _ _ _ _ c.in-Ok.ensures.moved refl c.in-Ok.ensures.cause.other)
    (made_well _ _ _ _ c.in-Ok-accept.ensures.moved refl c.in-Ok-accept.ensures.cause.other)) went)
    c.in-Ok-print_port.ensures.whole c.after_session.ensures.status

pub returns-clause-link : goal.returns-clause-link
returns-clause-link g c = blames _ _ _ _ _ _ _ _ _ _ (returns-clause-hosts g c)
