use Rattle.std.proofs.Common.{ap, sym, subst, inl, inr}
use Rattle.spj_parse.specs.Items.{Start}
use Rattle.spj_parse.specs.Drafts.{spot_of, item_of}
use Rattle.spj_parse.proofs.Turns.{IsAt, at_start, next_place, fault, ended, cut_off, not_whole}
use Rattle.spj_parse.proofs.syntax.check_syntax.Goals as goal

pub loop-token-init : goal.loop-token-init
loop-token-init c = subst (IsAt c.args.text.now Start) (sym c.of-cursor.ensures) (at_start c.args.text.now)

pub returns-in-Whole-clause-tree : goal.returns-in-Whole-clause-tree
returns-in-Whole-clause-tree c = ended _ _ _ c.loop-token.invariant c.in_default.ensures.ended.0 (ap spot_of c.in-Whole.is)

pub returns-in_default-spot : goal.returns-in_default-spot
returns-in_default-spot c = record {
  tree = tt;
  fault = cut_off _ _ _ c.loop-token.invariant c.in_default.ensures.ended.0 (not_whole c.loop-token.spot c.in_default-spot.not-Whole);
}

pub loop-token-preserved-in-Goes : goal.loop-token-preserved-in-Goes
loop-token-preserved-in-Goes c = next_place _ _ _ _ _ _ c.loop-token.invariant c.in-Some.ensures.taken (inl (sym c.in-Goes.ensures.turn))

pub loop-token-preserved : goal.loop-token-preserved
loop-token-preserved c = next_place _ _ _ _ _ _ c.loop-token.invariant c.in-Some.ensures.taken (inr (item_of c.in-Gives.field-0, sym c.in-Gives.ensures.turn))

pub returns-in-Stops-clause-fault : goal.returns-in-Stops-clause-fault
returns-in-Stops-clause-fault c = fault _ _ _ _ _ c.loop-token.invariant c.in-Some.ensures.taken (sym c.in-Stops.ensures.turn)
