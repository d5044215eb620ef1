use Rattle.std.proofs.Common.{ap, ap₂, ◌∙◌, ◌||◌, List, ℕ, nat_lt, length}
use Rattle.std.specs.List.{list_any}
use Rattle.ghost_model.specs.refusals.QueryMeaning.{columns_in, meanings, has_repeat, from_tables}
use Rattle.spj_parse.specs.declared.rules.NameRule.TheVariants as rule
use Rattle.spj_parse.specs.Rules.{breaks_rule}
use Rattle.spj_parse.proofs.TreeLemmas.{items_are, several_meanings}
use Rattle.spj_parse.proofs.rules.is_ambiguous.Goals as goal

pub returns-then-has_repeat : goal.returns-then-has_repeat
returns-then-has_repeat c = record {
  ambiguous = λ tree h f.
      ap (λ b. b || list_any (λ column. nat_lt 1 (length (meanings c.args.schema.now (from_tables c.args.schema.now tree) column))) (columns_in tree)) (c.if-has_repeat.ensures.repeat ∙ ap has_repeat f);
}

pub returns : goal.returns
returns c = record {
  ambiguous = λ tree h f. ap₂ (λ a b. a || b) (c.if-has_repeat.ensures.repeat ∙ ap has_repeat f)
      (c.breaks_name_rule.ensures.breaks
      ∙ ap (list_any (breaks_rule rule.SeveralMeanings c.args.schema.now c.args.from.now)) (items_are c.args.text.now tree h)
      ∙ several_meanings c.args.schema.now c.args.from.now tree
      ∙ ap (λ (from : List ℕ). list_any (λ column. nat_lt 1 (length (meanings c.args.schema.now from column))) (columns_in tree)) f);
}
