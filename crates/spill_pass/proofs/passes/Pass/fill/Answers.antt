use Rattle.std.proofs.Common.{rules, ℕ, sym, subst}
use Rattle.std.proofs.lemmas.Result.{err_from_is_err_and}
use Rattle.id_merge.proofs.SinceLaws.{since_later}
use Rattle.spill_pass.specs.Given.{PassKnown}
use Rattle.spill_pass.specs.PassContents.{PassHas}
use Rattle.spill_pass.proofs.ListCalls.{ends_counts}
use Rattle.spill_pass.proofs.PassContents.{took_none, took_some}
use Rattle.spill_pass.proofs.Over.{none_blames, none_damaged}
use Rattle.spill_pass.proofs.PassFrames.{pass_goes_on}
use Rattle.spill_pass.proofs.passes.Pass.fill.Goals as goal

pub returns-clause-does : goal.returns-clause-does
returns-clause-does g c = record {
  blames = λ since from given. none_blames since (g.F.Flash.state c.finish.new.flash) c.finish.result c.finish.ensures.finishes.no_slot;
  sound =
      λ told right lists h of.
      none_damaged (g.S.ListSource.damaged (g.F.Flash.state c.finish.new.flash).page c.args.self.now.groups.into.rows c.args.self.now.lists) c.finish.result
      c.finish.ensures.finishes.no_slot;
  of_source = λ told of. c.finish.ensures.does.of_source told (c.take.ensures.does.of_source told of);
  less =
      λ page rows number slot found damaged.
      c.take.ensures.does.less page rows number slot found (rw (sym c.finish.ensures.finishes.lists_are) damaged);
  stepped = search rules;
  at_most = search rules;
  goes = pass_goes_on c.take.ensures.does.goes c.finish.ensures.does.goes;
  outside =
      λ low high uses outside.
      c.finish.ensures.does.outside low high (λ page is. uses page (c.take.ensures.does.goes.uses page is)) (c.take.ensures.does.outside low high uses outside);
  fan = search rules;
  ready = search rules;
}

pub returns-clause-turns : goal.returns-clause-turns
returns-clause-turns g c = record {
  has =
      λ told right lists h.
      let now = (g.F.Flash.state c.finish.new.flash).page in
      let n = c.in_ok-calls.ensures in
      let R : ℕ → Type 0 = λ rows.
      PassHas (g.S.ListSource.has_lists now right rows c.finish.new.self.lists) g.F.Flash.told right now c.finish.new.pool c.finish.new.self.groups rows
      lists c.finish.result in
      let took = took_none _ c.in_default.is (n.takes.has told right lists h) in
      subst R c.take.ensures.does.goes.rows (c.finish.ensures.finishes.has told right lists took.1);
  known =
      λ since from given.
      let now = g.F.Flash.state c.finish.new.flash in
      let R : ℕ → Type 0 = λ rows. PassKnown g.S.ListSource.given since now c.finish.new.pool rows c.finish.new.self c.finish.result in
      subst R c.take.ensures.does.goes.rows
      (c.finish.ensures.finishes.known since (since_later c.take.ensures.does.goes.changes.never_falls from) (c.in_ok-calls.ensures.takes.given since from given));
  spent = search rules;
  counts = λ told right lists h. ends_counts _ _ _ _ _ _ c.finish.result (c.in_ok-calls.ensures.takes.counts told right lists h) c.finish.ensures.finishes.ends;
  tells = search rules;
}

pub returns-in_err-calls-clause-does : goal.returns-in_err-calls-clause-does
returns-in_err-calls-clause-does g c = record {
  blames =
      λ since from given.
      let p = err_from_is_err_and c.from_residual.result c.from_residual.ensures.1 in
      rw (p.1, p.2) (c.in_err-calls.ensures.does.blames since from given);
  sound =
      λ told right lists h of.
      let p = err_from_is_err_and c.from_residual.result c.from_residual.ensures.1 in
      rw (p.1, p.2) (c.in_err-calls.ensures.does.sound told right lists h of);
  of_source = λ told of. c.take.ensures.does.of_source told of;
  less = search rules;
  stepped = search rules;
  at_most = search rules;
  goes = search rules;
  outside = search rules;
  fan = search rules;
  ready = search rules;
}

pub returns-in-Some-clause-turns : goal.returns-in-Some-clause-turns
returns-in-Some-clause-turns g c = record {
  has = λ told right lists h. took_some c.in-Some.is (c.in_ok-calls.ensures.takes.has told right lists h);
  known = λ since from given. c.in_ok-calls.ensures.takes.given since from given;
  spent = search rules;
  counts = λ told right lists h. c.in_ok-calls.ensures.takes.counts told right lists h;
  tells = search rules;
}

pub returns-then-lists-gt0-clause-turns : goal.returns-then-lists-gt0-clause-turns
returns-then-lists-gt0-clause-turns g c = record {
  has = λ told right lists h. (took_none _ c.in_default.is (c.in_ok-calls.ensures.takes.has told right lists h)).0;
  known = λ since from given. let was = c.in_ok-calls.ensures.takes.given since from given in record { source = was.source; groups = was.groups };
  spent = search rules;
  counts = λ told right lists h. c.in_ok-calls.ensures.takes.counts told right lists h;
  tells = search rules;
}
