use Rattle.std.proofs.Common.{◌∙◌, sym, ap, subst, rules}
use Rattle.edge_traits.specs.Files.{file_of}
use Rattle.edge_traits.proofs.CountLemmas.{counting_more}
use Rattle.host_exec.specs.Sessions.{IsWhole}
use Rattle.host_exec.proofs.Heard.{came_as}
use Rattle.host_exec.proofs.Turns.{turn_none, turn_bad, turn_made, turn_unsaid}
use Rattle.host_exec.proofs.host.Host.take_turn.Goals as goal

pub returns-in-None-clause-turns : goal.returns-in-None-clause-turns
returns-in-None-clause-turns g c = turn_none _ _ _ _ c.in-None.ensures.came

pub returns-in-Some-hear-clause-turns : goal.returns-in-Some-hear-clause-turns
returns-in-Some-hear-clause-turns g c =
    turn_bad _ _ _ _ c.split_at.result.0.now c.in-Some-hear.kind (came_as _ _ _ _ (sym c.split_at.ensures.front) c.in-Some.ensures.came) c.in-Some-hear.ensures.named
    (λ held file stand stood. c.in-Some-hear.ensures.heard (subst IsWhole (sym c.split_at.ensures.front) c.in-Some.ensures.whole) held file stand stood.1 stood.2)

pub returns-in-Ok-clause-turns : goal.returns-in-Ok-clause-turns
returns-in-Ok-clause-turns g c =
    turn_made _ _ _ _ _ c.in-Some.size c.in-Ok.refused _ _ c.hear.new.self c.speak.new.self c.split_at.result.0.now
    (λ one other first second. counting_more _ _ _ _ _ _ (λ a b x y. g.met.L.Link.joins _ _ _ a b x y) one other first second) (came_as _ _ _ _ (sym c.split_at.ensures.front) c.in-Some.ensures.came) c.in-Ok.ensures.speaks (search rules)
    (c.in-None-hear.ensures.cut (subst IsWhole (sym c.split_at.ensures.front) c.in-Some.ensures.whole)) c.speak.ensures.over
    (λ held file stand stood. c.in-None-hear.ensures.heard (subst IsWhole (sym c.split_at.ensures.front) c.in-Some.ensures.whole) held file stand stood.1 stood.2)
    (λ held file stand stood owed later stands. (ap (file_of (g.D.Depot.contents c.args.depot.now)) c.hear.ensures.same.name ∙ stood.0, stands))

pub returns-in-Err-clause-turns : goal.returns-in-Err-clause-turns
returns-in-Err-clause-turns g c =
    turn_unsaid _ _ _ _ _ _ _ c.hear.new.self c.speak.new.self c.split_at.result.0.now
    (λ one other first second. counting_more _ _ _ _ _ _ (λ a b x y. g.met.L.Link.joins _ _ _ a b x y) one other first second) (came_as _ _ _ _ (sym c.split_at.ensures.front) c.in-Some.ensures.came) c.in-Err.ensures.speaks
    (λ held file stand stood. c.in-None-hear.ensures.heard (subst IsWhole (sym c.split_at.ensures.front) c.in-Some.ensures.whole) held file stand stood.1 stood.2)
    (λ held file stand stood owed later stands. (ap (file_of (g.D.Depot.contents c.args.depot.now)) c.hear.ensures.same.name ∙ stood.0, stands))
