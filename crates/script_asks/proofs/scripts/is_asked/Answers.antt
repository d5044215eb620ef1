use Rattle.std.proofs.Common.{◌+◌, length, ap, ◌∙◌, arith}
use Rattle.script_asks.proofs.ScriptLemmas.{this_text, another_text}
use Rattle.script_asks.proofs.scripts.is_asked.Goals as goal

pub returns-then-number-text : goal.returns-then-number-text
returns-then-number-text c = record {
  any = c.is_some.ensures
      ∙ (this_text c.args.schema.now (c.texts.number + 1) c.args.text c.texts.texts c.next.new.self c.in-Some.other.now c.hand_of.result c.in-Some.ensures.taken c.if-number-text.true c.hand_of.ensures.asks
      ∙ c.texts.invariant.same);
}

pub texts-preserved : goal.texts-preserved
texts-preserved c = record {
  same = another_text c.args.schema.now (c.texts.number + 1) c.args.text c.texts.texts c.next.new.self c.in-Some.other.now c.in-Some.ensures.taken c.if-number-text.false
      ∙ c.texts.invariant.same;
  few = omega (arith, c.texts.invariant.few, ap length c.in-Some.ensures.taken);
}
