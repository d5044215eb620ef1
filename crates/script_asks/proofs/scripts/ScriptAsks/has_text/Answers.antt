use Rattle.std.proofs.Common.{◌+◌, ◌==◌, List, Option, ℕ, map, sym, ap, ◌∙◌}
use Rattle.std.specs.List.{list_any}
use Rattle.ghost_model.specs.core.Asks.{NumberedAsk, asked_from}
use Rattle.ghost_model.specs.readings.QueryReading.{reading}
use Rattle.script_asks.specs.declared.scripts.Hand.{Hand}
use Rattle.script_asks.specs.Left.{asked_left}
use Rattle.script_asks.proofs.ScriptLemmas.{text_behind}
use Rattle.script_asks.proofs.scripts.ScriptAsks.has_text.Goals as goal

pub returns : goal.returns
returns c = record {
  any = c.is_asked.ensures.any
      ∙ (ap (λ (ts : List (List ℕ)). list_any (λ (a : NumberedAsk). a.text == c.args.text) (asked_from c.self.inside.schema.now (c.self.inside.number + 1) (map (reading c.self.inside.schema.now) ts))) c.again.ensures.same
      ∙ (text_behind c.self.inside.schema.now c.self.inside.number c.args.text c.in-Some._hand c.self.inside.texts c.if-self-text.false
      ∙ (ap (λ (h : Option Hand). list_any (λ (a : NumberedAsk). a.text == c.args.text) (asked_left c.self.inside.schema.now c.self.inside.number h c.self.inside.texts)) (sym c.in-Some.is)
      ∙ ap (list_any (λ (a : NumberedAsk). a.text == c.args.text)) c.self.view_is)));
}
