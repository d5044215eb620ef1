use Rattle.std.proofs.Common.{◌≡◌, ◌+◌, ◌-◌, ◌*◌, ℕ, List, min, ap, sym, ◌∙◌, rules, arith}
use Rattle.ghost_model.specs.core.Recorded.{number_behind}
use Rattle.channel_audit.proofs.Numbers.{counted}
use Rattle.channel_audit.proofs.digits.number_up_to_many.Goals as goal

pub loop-digit-preserved : goal.loop-digit-preserved
loop-digit-preserved c =
    let is : c.min-value.result ≡ min (c.loop-digit.value * 10 + (c.in-Some.digit.now - 48)) 100000 = search rules in
    record {
      value = ap (λ (n : ℕ). min (number_behind n c.in-Some.later.now) 100000) is
          ∙ (counted 100000 (c.loop-digit.value * 10 + (c.in-Some.digit.now - 48)) c.in-Some.later.now
          ∙ (ap (λ (xs : List ℕ). min (number_behind c.loop-digit.value xs) 100000) (sym c.in-Some.ensures.cases.0) ∙ c.loop-digit.invariant.value));
      small = omega (arith, is);
    }
