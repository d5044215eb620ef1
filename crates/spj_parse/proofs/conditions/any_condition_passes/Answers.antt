use Rattle.std.proofs.Common.{◌≡◌, true, false, rules}
use Rattle.std.proofs.lemmas.Iterator.{cases_from_any}
use Rattle.std.proofs.lemmas.Iterator.Consumers.{YieldsList-from_first}
use borrow.Author.Tests.{tests}
use Rattle.spj_parse.specs.Drafts.{item_of}
use Rattle.spj_parse.specs.Walks.{items_left}
use Rattle.spj_parse.specs.Conditions.{item_passes}
use Rattle.spj_parse.proofs.WalkLemmas.{any_of}
use Rattle.spj_parse.proofs.conditions.any_condition_passes.Goals as goal

pub returns : goal.returns
returns c = record {
  passes = any_of c.any.result (item_passes c.args.test c.args.schema.now c.args.from.now) _
      (cases_from_any _ _ c.any.result (λ x. item_passes c.args.test c.args.schema.now c.args.from.now x ≡ true)
      (λ x. item_passes c.args.test c.args.schema.now c.args.from.now x ≡ false) c.any.ensures.ran
      (YieldsList-from_first item_of items_left _ c.of.ensures.items) (λ x q k. search (rules, tests)) (λ x q k. search (rules, tests)));
}
