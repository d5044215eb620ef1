use Rattle.key_session.proofs.Agreeing.{agree, held_agree}
use Rattle.key_session.proofs.laws.plans_agree.Goals as goal

pub returns : goal.returns
returns g c = record {
  agree = λ before now other_before other_now. agree (λ journal. g.L.Link.went before journal now) (λ journal. g.M.Link.went other_before journal other_now);
  held = λ before now other_before other_now. held_agree c.knowledge_is_enough.ensures.enough (λ journal. g.L.Link.went before journal now) (λ journal. g.M.Link.went other_before journal other_now);
}
