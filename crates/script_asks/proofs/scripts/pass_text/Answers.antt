use Rattle.std.proofs.Common.{sym, ◌∙◌}
use Rattle.script_asks.proofs.ScriptLemmas.{given_up}
use Rattle.script_asks.proofs.scripts.pass_text.Goals as goal

pub returns-then-number-text-clause-rest : goal.returns-then-number-text-clause-rest
returns-then-number-text-clause-rest c =
    c.fetch.ensures.left ∙ sym (given_up _ _ _ _ _ (sym c.is_some.ensures ∙ c.if-is_some.true) c.if-number-text.true)
