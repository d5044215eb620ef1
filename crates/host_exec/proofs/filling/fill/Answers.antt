use Rattle.std.proofs.Common.{◌≡◌, ◌+◌, ◌-◌, ◌++◌, ℕ, length, take, drop, replicate, refl, sym, ap, subst, ◌∙◌, rules, arith}
use Rattle.edge_traits.specs.Files.{ReadsAt}
use Rattle.host_exec.proofs.Windows.{window_nothing, more_filled, all_filled}
use Rattle.host_exec.proofs.filling.fill.Goals as goal

pub bytes-init : goal.bytes-init
bytes-init g c = record {
  same = refl;
  faults = refl;
  appends = refl;
  sure = λ is. is;
  within = omega arith;
  front = λ file is. sym (window_nothing file c.args.at);
}

pub bytes-preserved-then-count-eq0 : goal.bytes-preserved-then-count-eq0
bytes-preserved-then-count-eq0 g c = record {
  same = c.in_ok-count.ensures.same ∙ c.bytes.invariant.same;
  faults = c.in_ok-count.ensures.cause.other ∙ c.bytes.invariant.faults;
  appends = c.in_ok-count.ensures.appends ∙ c.bytes.invariant.appends;
  sure = λ is. c.in_ok-count.ensures.stays_sure (c.bytes.invariant.sure is);
  within = omega arith;
  front = λ file is. all_filled _ _ c.args.name.now c.args.at c.bytes.have (length c.clear_from.new.buf) c.bytes.buf c.read_on.new.buf c.clear_from.new.buf file c.bytes.invariant.same
      (subst (λ (n : ℕ). ReadsAt (g.D.Depot.contents c.bytes.depot) c.args.name.now (c.args.at + c.bytes.have) (drop c.bytes.have c.bytes.buf) n (drop c.bytes.have c.read_on.new.buf)) c.if-count-eq0.true c.in_ok-count.ensures.bytes)
      c.in_ok-count.ensures.front c.bytes-test.true
      (c.clear_from.ensures ∙ ap (λ (n : ℕ). take c.bytes.have c.read_on.new.buf ++ replicate (n - c.bytes.have) 0) (let e : length c.read_on.new.buf ≡ length c.clear_from.new.buf = search rules in e))
      refl (omega (arith, c.bytes-test.true)) is (c.bytes.invariant.front file is);
}

pub bytes-preserved : goal.bytes-preserved
bytes-preserved g c = record {
  same = c.in_ok-count.ensures.same ∙ c.bytes.invariant.same;
  faults = c.in_ok-count.ensures.cause.other ∙ c.bytes.invariant.faults;
  appends = c.in_ok-count.ensures.appends ∙ c.bytes.invariant.appends;
  sure = λ is. c.in_ok-count.ensures.stays_sure (c.bytes.invariant.sure is);
  within = search rules;
  front = λ file is. more_filled _ _ c.args.name.now c.args.at c.bytes.have c.in_ok-count.count c.bytes.buf c.read_on.new.buf file c.bytes.invariant.same
      c.in_ok-count.ensures.bytes c.in_ok-count.ensures.front is (c.bytes.invariant.front file is);
}
