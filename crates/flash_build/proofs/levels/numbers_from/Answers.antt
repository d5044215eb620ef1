use Rattle.std.proofs.Common.{rules, ◌+◌, ◌∙◌, ◌∷◌, [], ◌++◌, ap, sym, List}
use Rattle.flash_build.proofs.Leading.{range_next}
use Rattle.flash_build.proofs.levels.numbers_from.Goals as goal

pub loop-at-preserved : goal.loop-at-preserved
loop-at-preserved c = record {
  numbers = c.push_reserved.ensures.items ∙ (ap (λ (xs : List _). xs ++ (c.args.first + c.loop-at.at) ∷ []) c.loop-at.invariant.numbers ∙ sym (range_next c.args.first c.loop-at.at));
  count = search rules;
  room = search rules;
}
