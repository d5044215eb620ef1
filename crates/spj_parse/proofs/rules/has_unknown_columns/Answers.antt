use Rattle.std.proofs.Common.{ap, ◌∙◌, List, ℕ}
use Rattle.std.specs.List.{list_any}
use Rattle.ghost_model.specs.core.Schema.{is_empty}
use Rattle.ghost_model.specs.refusals.QueryMeaning.{columns_in, meanings}
use Rattle.spj_parse.specs.declared.rules.NameRule.TheVariants as rule
use Rattle.spj_parse.specs.Rules.{breaks_rule}
use Rattle.spj_parse.proofs.TreeLemmas.{items_are, unknown_columns}
use Rattle.spj_parse.proofs.rules.has_unknown_columns.Goals as goal

pub returns : goal.returns
returns c = record {
  unknown = λ tree h f. c.breaks_name_rule.ensures.breaks
      ∙ ap (list_any (breaks_rule rule.NoMeaning c.args.schema.now c.args.from.now)) (items_are c.args.text.now tree h)
      ∙ unknown_columns c.args.schema.now c.args.from.now tree
      ∙ ap (λ (from : List ℕ). list_any (λ column. is_empty (meanings c.args.schema.now from column)) (columns_in tree)) f;
}
