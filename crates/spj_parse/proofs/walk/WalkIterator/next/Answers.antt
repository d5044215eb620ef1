use Rattle.std.proofs.Common.{rules, ◌≡◌, ◌∙◌, ap, sym, ◌∷◌, length, arith}
use Rattle.spj_parse.specs.Drafts.{item_of}
use Rattle.spj_parse.specs.Walks.{items_left}
use Rattle.spj_parse.proofs.Turns.{goes, gives, stops, none_left, none_behind}
use Rattle.spj_parse.proofs.walk.WalkIterator.next.Goals as goal

pub returns-in_default-clause-steps : goal.returns-in_default-clause-steps
returns-in_default-clause-steps c =
    (c.loop-token.invariant ∙ none_left _ _ c.in_default.ensures.ended.0, none_left _ _ c.in_default.ensures.ended.1)

pub loop-token-preserved : goal.loop-token-preserved
loop-token-preserved c = c.loop-token.invariant ∙ goes _ _ _ _ _ c.in-Some.ensures.taken (sym c.in-Goes.ensures.turn)

pub returns-in-Gives-clause-steps : goal.returns-in-Gives-clause-steps
returns-in-Gives-clause-steps c = c.loop-token.invariant ∙ gives _ _ _ _ _ _ c.in-Some.ensures.taken (sym c.in-Gives.ensures.turn)

pub returns-in-Gives-clause-goes : goal.returns-in-Gives-clause-goes
returns-in-Gives-clause-goes c =
    let steps : items_left c.args.self.now ≡ item_of c.in-Gives.item ∷ items_left _ = c.loop-token.invariant ∙ gives _ _ _ _ _ _ c.in-Some.ensures.taken (sym c.in-Gives.ensures.turn) in
    let count : length (items_left c.args.self.now) ≡ length (item_of c.in-Gives.item ∷ items_left _) = ap length steps in
    search (rules, arith)

pub returns-in-Stops-clause-steps : goal.returns-in-Stops-clause-steps
returns-in-Stops-clause-steps c = (c.loop-token.invariant ∙ stops _ _ _ _ c.in-Some.ensures.taken (sym c.in-Stops.ensures.turn), none_behind _)
