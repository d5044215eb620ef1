use Rattle.std.proofs.Common.{flat_map, take}
use Rattle.ghost_model.specs.refusals.QueryMeaning.{fields_of}
use Rattle.spj_parse.specs.Adding.{Adds}
use Rattle.spj_parse.specs.Views.{field_of}
use Rattle.spj_parse.proofs.resolve.add_all_columns.Given as goal

abbrev pub invariant-loop-table : goal.invariant-loop-table
invariant-loop-table l = Adds field_of 32 l.fn.select.items l.select.items (flat_map (fields_of l.schema) (take l.table-index l.from))
