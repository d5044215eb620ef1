use Rattle.std.proofs.Common.{◌∙◌}
use Rattle.spj_parse.proofs.SplitLemmas.{of_table_seen}
use Rattle.spj_parse.proofs.groups.is_of_one_table.Goals as goal

pub returns : goal.returns
returns c = record { same = c.are_of_table.ensures.same ∙ of_table_seen c.args.first.now.field.table c.args.others.now }
