use Rattle.std.proofs.Common.{◌≡◌, inl, inr, ap, sym, subst, ◌∙◌, refl, arith, [], false, MatchBool}
use Rattle.ghost_model.specs.core.Causes.{Rose}
use Rattle.edge_traits.specs.Files.{file_of}
use Rattle.edge_traits.proofs.CountLemmas.{counting_more, counting_none, made_well, made_in_vain}
use Rattle.host_exec.specs.Hosts.{name_of}
use Rattle.host_exec.proofs.Speaking.{speaks_on, speaks_in_vain, speaks_all, told_more, same_more, owing_now, not_over_resting, granted_calm, neither}
use Rattle.host_exec.proofs.host.Host.speak.Goals as goal

pub frames-init : goal.frames-init
frames-init g c = record {
  same = record { name = refl; catalog = refl; starts = refl };
  contents = refl;
  appends = refl;
  sure = λ is. is;
  calm = λ is. refl;
  granted = λ is. refl;
  never_falls = omega arith;
  nearer = omega arith;
  over = λ is. is;
  told = refl;
  speaks = record {
    journal = [];
    went = counting_none _ _ (g.met.L.Link.stays _);
    takes = refl;
    going = refl;
    fresh = λ serial place count is. (refl, is);
    refused = false;
    counted = refl;
    said = λ file owed stand stood. record { rest = owed; stands = stood.1; joined = refl };
  };
}

pub frames-preserved : goal.frames-preserved
frames-preserved g c =
    let so = c.frames.invariant in
    record {
      same = same_more _ _ _ so.same c.say.ensures.same;
      contents = c.say.ensures.depot ∙ so.contents;
      appends = c.say.ensures.appends ∙ so.appends;
      sure = λ is. c.say.ensures.stays_sure (so.sure is);
      calm = λ is. granted_calm c.in-Some.said.refused _ _ (c.in-Some.ensures.granted (so.sure is)) c.in-Some.ensures.told ∙ so.calm is;
      granted = λ is. neither c.frames.refused c.in-Some.said.refused _ c.either-refused.ensures.value (so.granted is) (c.in-Some.ensures.granted (so.sure is));
      never_falls = (let a = so.never_falls in let b = c.say.ensures.never_falls in omega (arith, a, b));
      nearer = (let a = so.nearer in let b = c.in-Some.ensures.fewer in omega (arith, a, b));
      over = λ is. absurd (not_over_resting _ c.in-Some.ensures.rests is);
      told = subst (λ b. MatchBool b (Rose (g.D.Depot.faults c.args.depot.now) (g.D.Depot.faults c.say.new.depot)) (g.D.Depot.faults c.say.new.depot ≡ g.D.Depot.faults c.args.depot.now)) (sym c.either-refused.ensures.value)
          (told_more c.frames.refused c.in-Some.said.refused _ _ _ so.never_falls c.say.ensures.never_falls so.told c.in-Some.ensures.told);
      speaks = speaks_on _ _ _ _ _ _ _ _ c.say.new.self c.in-Some.said.size c.say.new.out c.split_at.result.0.now so.speaks
          (λ journal went. counting_more _ _ _ _ _ _ (λ a b x y. g.met.L.Link.joins _ _ _ a b x y) journal _ went
          (made_well _ _ _ _ c.in-Ok.ensures.moved refl c.in-Ok.ensures.cause.other)) so.never_falls c.say.ensures.never_falls c.split_at.ensures.front
          (owing_now _ _ c.in-Some.is c.say.ensures.owed) c.in-Some.ensures.rests
          (elim c.in-Some.ensures.said [
            | inl refused ↦ inl refused
            | inr said ↦ inr (
              said.0,
              λ file owed stand any stood stands. said.1 file owed stand
                  (ap (λ files. file_of files (name_of c.frames.self)) so.contents ∙ (ap (file_of (g.D.Depot.contents c.args.depot.now)) so.same.name ∙ stood.0)) stands,
            )
          ]);
    }

pub returns-in-Err-clause-speaks : goal.returns-in-Err-clause-speaks
returns-in-Err-clause-speaks g c =
    let so = c.frames.invariant in
    speaks_in_vain _ _ _ _ _ _ _ _ c.say.new.self c.in-Some.said.size c.say.new.out c.split_at.result.0.now so.speaks
    (λ journal went. counting_more _ _ _ _ _ _ (λ a b x y. g.met.L.Link.joins _ _ _ a b x y) journal _ went
    (made_in_vain _ _ _ _ c.in-Err.ensures.moved refl c.in-Err.ensures.cause.never_falls c.in-Err.ensures.cause.failed)) so.never_falls c.say.ensures.never_falls c.split_at.ensures.front
    (owing_now _ _ c.in-Some.is c.say.ensures.owed)
    (elim c.in-Some.ensures.said [
      | inl refused ↦ inl refused
      | inr said ↦ inr (
        said.0,
        λ file owed stand any stood stands. said.1 file owed stand
            (ap (λ files. file_of files (name_of c.frames.self)) so.contents ∙ (ap (file_of (g.D.Depot.contents c.args.depot.now)) so.same.name ∙ stood.0)) stands,
      )
    ])

pub returns-in-Err-clause-stays_sure : goal.returns-in-Err-clause-stays_sure
returns-in-Err-clause-stays_sure g c is = c.say.ensures.stays_sure (c.frames.invariant.sure is)

pub returns-in-Err-clause-calm : goal.returns-in-Err-clause-calm
returns-in-Err-clause-calm g c is =
    let so = c.frames.invariant in
    granted_calm c.in-Some.said.refused _ _ (c.in-Some.ensures.granted (so.sure is)) c.in-Some.ensures.told ∙ so.calm is

pub returns-in-Err-clause-over : goal.returns-in-Err-clause-over
returns-in-Err-clause-over g c over = absurd (not_over_resting _ c.in-Some.ensures.rests over)

pub returns-in-None-clause-stays_sure : goal.returns-in-None-clause-stays_sure
returns-in-None-clause-stays_sure g c is = c.say.ensures.stays_sure (c.frames.invariant.sure is)

pub returns-in-None-clause-calm : goal.returns-in-None-clause-calm
returns-in-None-clause-calm g c is = c.in-None.ensures.quiet ∙ c.frames.invariant.calm is

pub returns-in-None-clause-over : goal.returns-in-None-clause-over
returns-in-None-clause-over g c over = c.frames.invariant.over (sym (ap (λ h. h.stage) c.in-None.ensures.none) ∙ over)

pub returns-in-None-clause-speaks : goal.returns-in-None-clause-speaks
returns-in-None-clause-speaks g c = speaks_all _ _ _ _ _ _ _ _ c.frames.invariant.speaks c.in-None.ensures.quiet c.in-None.ensures.none c.in-None.ensures.nothing
