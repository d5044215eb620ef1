use Rattle.std.proofs.Common.{ap, ◌∙◌, subst}
use Rattle.ghost_model.specs.core.Asks.{asked_of}
use Rattle.ghost_model.specs.core.Texts.{texts_of}
use Rattle.channel_pump.specs.Asked.{AreAsked}
use Rattle.channel_pump.specs.Scripts.{forms_asked}
use Rattle.channel_pump.proofs.AsksLemmas.{are_asked}
use Rattle.channel_pump.proofs.asks.Asks.new.Goals as goal

pub returns-clause-asked : goal.returns-clause-asked
returns-clause-asked c =
    subst (AreAsked c.args.catalog.now (forms_asked c.args.catalog.now c.new-asks.result))
    (c.new-asks.ensures.all ∙ ap (λ schema. asked_of schema (texts_of c.args.script.now)) c.schema.ensures.value)
    (are_asked c.args.catalog.now c.new-asks.result c.new-asks.ensures.numbered)
