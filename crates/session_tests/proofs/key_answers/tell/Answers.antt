use Rattle.std.proofs.Common.{◌≡◌, ◌+◌, ◌≤◌, ◌∙◌, not, count_by, length, ap, sym, subst, arith}
use Rattle.page_pool.specs.Pools.{others_out}
use Rattle.visible_spool.specs.Sparing.{IsHalf}
use Rattle.leakless_plan.specs.declared.plan.Plan.TheVariants as plan
use Rattle.key_exec.specs.Telling.{leases_of}
use Rattle.session_tests.proofs.key_answers.tell.Goals as goal

pub steps-init : goal.steps-init
steps-init g c =
    let free : count_by not (others_out c.args.pool.now (leases_of c.begin-telling.result)) ≡ length c.args.pool.now.pages =
    ap (λ leases. count_by not (others_out c.args.pool.now leases)) c.begin-telling.ensures.leases ∙ c.requires.idle.free in
    record {
      can = c.begin-telling.ensures.can g.F.Flash.told 1 (g.F.Flash.state c.args.flash.now) c.args.pool.now (omega arith) c.requires.suffices
          (subst (IsHalf g.F.Flash.told c.args.cat.now 1 (g.F.Flash.state c.args.flash.now)) (sym c.none-half.ensures.half)
          (c.no_replies_are_a_half.ensures.half g.F.Flash.told c.args.cat.now 1 (g.F.Flash.state c.args.flash.now) c.requires.suffices.small))
          (record { enough = c.requires.idle.enough; free = omega (arith, c.requires.idle.free) });
      free = free;
    }

pub steps-preserved : goal.steps-preserved
steps-preserved g c = record {
  can = c.in-None.ensures.can plan.Scan c.args.cat.now 1 c.steps.invariant.can;
  free = ap (count_by not) c.step.ensures.others ∙ (c.steps.invariant.free ∙ sym c.step.ensures.kept_others.size);
}

pub returns-in-Some : goal.returns-in-Some
returns-in-Some g c = record {
  idle = record {
    enough = omega (arith, c.steps.invariant.can.room.enough, c.step.ensures.kept_others.size);
    free = ap (λ leases. count_by not (others_out c.step.new.pool leases)) (sym c.in-Some.ensures.back)
        ∙ (ap (count_by not) c.step.ensures.others ∙ (c.steps.invariant.free ∙ sym c.step.ensures.kept_others.size));
  };
}
