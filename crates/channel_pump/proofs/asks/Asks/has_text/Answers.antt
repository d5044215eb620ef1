use Rattle.std.proofs.Common.{◌==◌, ap, ◌∙◌}
use Rattle.std.specs.List.{list_any}
use Rattle.channel_pump.specs.Forms.{Form}
use Rattle.channel_pump.proofs.AsksLemmas.{any_asked_text}
use Rattle.channel_pump.proofs.asks.Asks.has_text.Goals as goal

pub returns : goal.returns
returns c = record {
  any = c.has_text.ensures.any
      ∙ (any_asked_text c.self.inside.catalog.now c.args.text c.self.inside.asks
      ∙ ap (list_any (λ (form : Form). form.text == c.args.text)) c.self.view_is);
}
