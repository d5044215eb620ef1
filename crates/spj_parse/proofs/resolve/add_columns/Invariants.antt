use Rattle.spj_parse.specs.Adding.{Adds}
use Rattle.spj_parse.specs.Views.{field_of}
use Rattle.spj_parse.proofs.ResolveLemmas.{fields_below}
use Rattle.spj_parse.proofs.resolve.add_columns.Given as goal

abbrev pub invariant-loop-column : goal.invariant-loop-column
invariant-loop-column l = Adds field_of 32 l.fn.select.items l.select.items (fields_below l.table l.column)
