use Rattle.std.proofs.Common.{◌≡◌, ◌+◌, ap, sym, subst, ◌∙◌, refl, arith, rules, MatchBool}
use Rattle.ghost_model.specs.core.Causes.{Rose}
use Rattle.edge_traits.specs.Files.{file_of}
use Rattle.edge_traits.proofs.CountLemmas.{counting_more, counting_none}
use Rattle.host_exec.specs.Hosts.{name_of}
use Rattle.host_exec.proofs.Speaking.{same_more, told_more, neither}
use Rattle.host_exec.proofs.Silence.{holds_on}
use Rattle.host_exec.proofs.Endings.{turns_begin, turns_on, turns_lost, turns_bad, turns_bye, turns_depot, fits_first, fits_on, never_over}
use Rattle.host_exec.proofs.host.Host.take_turns.Goals as goal

pub turns-init : goal.turns-init
turns-init g c = record {
  same = record { name = refl; catalog = refl; starts = refl };
  contents = refl;
  appends = refl;
  sure = λ is. is;
  calm = λ is. refl;
  granted = λ is. refl;
  never_falls = omega arith;
  running = never_over _ c.requires.begins;
  fits = fits_first _ c.catalog_len-bytes.result _ (sym c.catalog_len-bytes.ensures.value) (search rules) c.requires.begins;
  told = refl;
  turns = turns_begin _ _ _ c.args.self.now (counting_none _ _ (g.met.L.Link.stays _)) c.requires.begins;
}

pub returns-in-Lost-clause-serves : goal.returns-in-Lost-clause-serves
returns-in-Lost-clause-serves g c =
    let so = c.turns.invariant in
    turns_lost _ _ _ _ _ _ _ _ _ _ c.turns.self c.take_turn.new.self so.turns c.in-Lost.ensures.turns
    (λ one other first second. counting_more _ _ _ _ _ _ (λ a b x y. g.met.L.Link.joins _ _ _ a b x y) one other first second) c.take_turn.ensures.never_falls
    (λ held file stand stood stands. (ap (λ files. file_of files (name_of c.turns.self)) so.contents ∙ (ap (file_of (g.D.Depot.contents c.args.depot.now)) so.same.name ∙ stood.0), holds_on held file _ _ so.same stood.1, stands))
    (λ held holder. (holder.file, (holder.is, holder.holds)))

pub returns-in-Bad-clause-serves : goal.returns-in-Bad-clause-serves
returns-in-Bad-clause-serves g c =
    let so = c.turns.invariant in
    turns_bad _ _ _ c.turns.at c.in-Bad.kind _ _ _ _ _ _ c.turns.self c.take_turn.new.self so.turns c.in-Bad.ensures.turns
    (λ one other first second. counting_more _ _ _ _ _ _ (λ a b x y. g.met.L.Link.joins _ _ _ a b x y) one other first second) (c.in-Bad.ensures.untouched refl) so.running
    (λ held file stand stood stands. (ap (λ files. file_of files (name_of c.turns.self)) so.contents ∙ (ap (file_of (g.D.Depot.contents c.args.depot.now)) so.same.name ∙ stood.0), holds_on held file _ _ so.same stood.1, stands))
    (λ held holder. (holder.file, (holder.is, holder.holds)))

pub turns-preserved : goal.turns-preserved
turns-preserved g c =
    let so = c.turns.invariant in
    record {
      same = same_more _ _ _ so.same c.take_turn.ensures.same;
      contents = c.take_turn.ensures.contents ∙ so.contents;
      appends = c.take_turn.ensures.appends ∙ so.appends;
      sure = λ is. c.take_turn.ensures.stays_sure (so.sure is);
      calm = λ is. c.take_turn.ensures.calm (so.sure is) ∙ so.calm is;
      granted = λ is. neither c.turns.failed c.in-Answered.refused _ c.either-failed.ensures.value (so.granted is) (c.in-Answered.ensures.granted (so.sure is));
      never_falls = (let a = so.never_falls in let b = c.take_turn.ensures.never_falls in omega (arith, a, b));
      running = search rules;
      fits = fits_on c.turns.at c.in-Answered.size _ _ so.fits c.in-Answered.ensures.short (c.in-Answered.ensures.fewer refl);
      told = subst (λ b. MatchBool b (Rose (g.D.Depot.faults c.args.depot.now) (g.D.Depot.faults c.take_turn.new.depot)) (g.D.Depot.faults c.take_turn.new.depot ≡ g.D.Depot.faults c.args.depot.now)) (sym c.either-failed.ensures.value)
          (told_more c.turns.failed c.in-Answered.refused _ _ _ so.never_falls c.take_turn.ensures.never_falls so.told (c.in-Answered.ensures.told refl));
      turns = turns_on _ _ _ c.turns.at c.in-Answered.size _ _ _ c.in-Answered.refused _ _ c.turns.self c.take_turn.new.self so.turns c.in-Answered.ensures.turns
          (λ one other first second. counting_more _ _ _ _ _ _ (λ a b x y. g.met.L.Link.joins _ _ _ a b x y) one other first second) c.take_turn.ensures.never_falls
          (λ held file stand stood stands. (ap (λ files. file_of files (name_of c.turns.self)) so.contents ∙ (ap (file_of (g.D.Depot.contents c.args.depot.now)) so.same.name ∙ stood.0), holds_on held file _ _ so.same stood.1, stands));
    }

pub returns-then-failed-clause-serves : goal.returns-then-failed-clause-serves
returns-then-failed-clause-serves g c =
    let so = c.turns.invariant in
    let told = subst (λ b. MatchBool b (Rose (g.D.Depot.faults c.args.depot.now) (g.D.Depot.faults c.take_turn.new.depot)) (g.D.Depot.faults c.take_turn.new.depot ≡ g.D.Depot.faults c.args.depot.now)) (sym c.either-failed.ensures.value)
    (told_more c.turns.failed c.in-Answered.refused _ _ _ so.never_falls c.take_turn.ensures.never_falls so.told (c.in-Answered.ensures.told refl)) in
    turns_depot _ (c.turns.at + c.in-Answered.size) _ _ _ _ c.take_turn.new.self
    (turns_on _ _ _ c.turns.at c.in-Answered.size _ _ _ c.in-Answered.refused _ _ c.turns.self c.take_turn.new.self so.turns c.in-Answered.ensures.turns
    (λ one other first second. counting_more _ _ _ _ _ _ (λ a b x y. g.met.L.Link.joins _ _ _ a b x y) one other first second) c.take_turn.ensures.never_falls
    (λ held file stand stood stands. (ap (λ files. file_of files (name_of c.turns.self)) so.contents ∙ (ap (file_of (g.D.Depot.contents c.args.depot.now)) so.same.name ∙ stood.0), holds_on held file _ _ so.same stood.1, stands)))
    (subst (λ b. MatchBool b (Rose (g.D.Depot.faults c.args.depot.now) (g.D.Depot.faults c.take_turn.new.depot)) (g.D.Depot.faults c.take_turn.new.depot ≡ g.D.Depot.faults c.args.depot.now)) c.if-failed.true told) c.in-Over.is
    (λ held holder. (holder.file, (holder.is, holder.holds)))

pub returns-else-failed-clause-serves : goal.returns-else-failed-clause-serves
returns-else-failed-clause-serves g c =
    let so = c.turns.invariant in
    let told = subst (λ b. MatchBool b (Rose (g.D.Depot.faults c.args.depot.now) (g.D.Depot.faults c.take_turn.new.depot)) (g.D.Depot.faults c.take_turn.new.depot ≡ g.D.Depot.faults c.args.depot.now)) (sym c.either-failed.ensures.value)
    (told_more c.turns.failed c.in-Answered.refused _ _ _ so.never_falls c.take_turn.ensures.never_falls so.told (c.in-Answered.ensures.told refl)) in
    turns_bye _ (c.turns.at + c.in-Answered.size) _ _ _ _ c.take_turn.new.self
    (turns_on _ _ _ c.turns.at c.in-Answered.size _ _ _ c.in-Answered.refused _ _ c.turns.self c.take_turn.new.self so.turns c.in-Answered.ensures.turns
    (λ one other first second. counting_more _ _ _ _ _ _ (λ a b x y. g.met.L.Link.joins _ _ _ a b x y) one other first second) c.take_turn.ensures.never_falls
    (λ held file stand stood stands. (ap (λ files. file_of files (name_of c.turns.self)) so.contents ∙ (ap (file_of (g.D.Depot.contents c.args.depot.now)) so.same.name ∙ stood.0), holds_on held file _ _ so.same stood.1, stands)))
    (subst (λ b. MatchBool b (Rose (g.D.Depot.faults c.args.depot.now) (g.D.Depot.faults c.take_turn.new.depot)) (g.D.Depot.faults c.take_turn.new.depot ≡ g.D.Depot.faults c.args.depot.now)) c.if-failed.false told) c.in-Over.is
    (λ held holder. (holder.file, (holder.is, holder.holds)))
