use Rattle.std.proofs.Common.{ap, ◌∙◌, []}
use Rattle.std.specs.List.{list_any}
use Rattle.spj_parse.specs.declared.rules.NameRule.TheVariants as rule
use Rattle.spj_parse.specs.Rules.{breaks_rule}
use Rattle.spj_parse.proofs.TreeLemmas.{items_are, unknown_tables}
use Rattle.spj_parse.proofs.rules.has_unknown_tables.Goals as goal

pub returns : goal.returns
returns c = record {
  unknown = λ tree h. c.breaks_name_rule.ensures.breaks
      ∙ ap (list_any (breaks_rule rule.NoTable c.args.schema.now [])) (items_are c.args.text.now tree h)
      ∙ unknown_tables c.args.schema.now [] tree;
}
