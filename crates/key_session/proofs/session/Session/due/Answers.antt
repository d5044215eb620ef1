use Rattle.std.proofs.Common.{rules, ◌∙◌}
use Rattle.ghost_model.specs.core.Asks.{asked_of}
use Rattle.key_session.proofs.Leasing.{spoken}
use Rattle.key_session.proofs.Stepping.{by_rule_live}
use Rattle.key_session.proofs.session.Session.due.Goals as goal

pub returns-then-is_first-clause-rule : goal.returns-then-is_first-clause-rule
returns-then-is_first-clause-rule c = search rules

pub returns-then-is_first-clause-by_rule : goal.returns-then-is_first-clause-by_rule
returns-then-is_first-clause-by_rule c = λ plan told texts journal since now pool live.
    returns-then-is_first-clause-rule c c.args.self.now.cat.now (asked_of c.args.self.now.cat.now.schema texts) journal (spoken told plan texts journal since now pool c.args.self.now live).1.after
    ∙ by_rule_live c.over_texts_are_settled.ensures c.texts_come_in_order.ensures c.texts_are_decided.ensures plan told texts journal since now pool c.args.self.now live

pub returns-else-is_left-2-clause-rule : goal.returns-else-is_left-2-clause-rule
returns-else-is_left-2-clause-rule c = search rules

pub returns-else-is_left-2-clause-by_rule : goal.returns-else-is_left-2-clause-by_rule
returns-else-is_left-2-clause-by_rule c = λ plan told texts journal since now pool live.
    returns-else-is_left-2-clause-rule c c.args.self.now.cat.now (asked_of c.args.self.now.cat.now.schema texts) journal (spoken told plan texts journal since now pool c.args.self.now live).1.after
    ∙ by_rule_live c.over_texts_are_settled.ensures c.texts_come_in_order.ensures c.texts_are_decided.ensures plan told texts journal since now pool c.args.self.now live
