use Rattle.std.proofs.Common.{true, false, refl}
use Rattle.spj_parse.proofs.TreeLemmas.{limits, long_name_in, many_tables_in, many_tests_in, many_columns_in}
use Rattle.spj_parse.proofs.limits.is_over_limit.Goals as goal

pub returns-then-breaks_name_rule : goal.returns-then-breaks_name_rule
returns-then-breaks_name_rule c = record {
  over = λ tree h. limits c.args.schema.now c.args.text.now tree false true _ _ _ c.if-is_too_long.ensures.long
      (long_name_in c.args.schema.now c.args.text.now tree true h c.if-breaks_name_rule.ensures.breaks) refl refl refl;
}

pub returns-then-has_more_than : goal.returns-then-has_more_than
returns-then-has_more_than c = record {
  over = λ tree h. limits c.args.schema.now c.args.text.now tree false false true _ _ c.if-is_too_long.ensures.long
      (long_name_in c.args.schema.now c.args.text.now tree false h c.if-breaks_name_rule.ensures.breaks)
      (many_tables_in c.args.schema.now c.args.text.now tree true h c.if-has_more_than.ensures.more) refl refl;
}

pub returns-then-has_more_than-2 : goal.returns-then-has_more_than-2
returns-then-has_more_than-2 c = record {
  over = λ tree h. limits c.args.schema.now c.args.text.now tree false false false true _ c.if-is_too_long.ensures.long
      (long_name_in c.args.schema.now c.args.text.now tree false h c.if-breaks_name_rule.ensures.breaks)
      (many_tables_in c.args.schema.now c.args.text.now tree false h c.if-has_more_than.ensures.more)
      (many_tests_in c.args.schema.now c.args.text.now tree true h c.if-has_more_than-2.ensures.more) refl;
}

pub returns : goal.returns
returns c = record {
  over = λ tree h. limits c.args.schema.now c.args.text.now tree false false false false c.has_more_than-3.result c.if-is_too_long.ensures.long
      (long_name_in c.args.schema.now c.args.text.now tree false h c.if-breaks_name_rule.ensures.breaks)
      (many_tables_in c.args.schema.now c.args.text.now tree false h c.if-has_more_than.ensures.more)
      (many_tests_in c.args.schema.now c.args.text.now tree false h c.if-has_more_than-2.ensures.more)
      (many_columns_in c.args.schema.now c.args.text.now tree c.has_more_than-3.result c.selects_all.result c.columns_or-columns.result h c.selects_all.ensures.all c.columns_or-columns.ensures.count c.has_more_than-3.ensures.more);
}
