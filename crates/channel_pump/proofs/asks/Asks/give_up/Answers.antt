use Rattle.std.proofs.Common.{ap, ap₂, ◌∙◌}
use Rattle.script_asks.specs.Left.{are_proper}
use Rattle.channel_pump.specs.Scripts.{forms_asked}
use Rattle.channel_pump.specs.Turning.{forms_after}
use Rattle.channel_pump.proofs.AsksLemmas.{after_asked, held_of, later_proper}
use Rattle.channel_pump.proofs.asks.Asks.give_up.Goals as goal

pub put_first-self-inside-requires : goal.put_first-self-inside-requires
put_first-self-inside-requires c = record {
  proper = ap₂ are_proper c.schema.ensures.value c.give_up.ensures.rest ∙ later_proper _ c.args.text _ c.self.invariant.1.proper;
}

pub invariant_of-self : goal.invariant_of-self
invariant_of-self c =
    held_of c.self.inside.catalog.now _ _ c.give_up.new.self c.put_first-self-inside.new.out c.put_first-self-inside.result _
    c.schema.ensures.value c.schema-2.ensures.value c.put_first-self-inside.ensures.most
    c.put_first-self-inside.ensures.bytes c.first_kinds-self-inside.ensures.kinds c.first_kinds-self-inside.ensures.narrow
    (ap (are_proper c.self.inside.catalog.now.schema) c.give_up.ensures.rest ∙ later_proper _ c.args.text _ c.self.invariant.1.proper)

pub returns : goal.returns
returns c = record {
  rest = ap (forms_asked c.self.inside.catalog.now) c.give_up.ensures.rest
      ∙ (after_asked c.self.inside.catalog.now c.args.text c.self.inside.asks ∙ ap (forms_after c.args.text) c.self.view_is);
}
