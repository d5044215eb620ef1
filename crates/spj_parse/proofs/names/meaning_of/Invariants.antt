use Rattle.std.proofs.Common.{◌≡◌, take, flat_map, option_map}
use Rattle.std.specs.Prelude.{option_to_list}
use Rattle.spj_parse.specs.Names.{fields_in}
use Rattle.spj_parse.specs.Drafts.{column_of}
use Rattle.spj_parse.specs.Views.{field_of}
use Rattle.spj_parse.proofs.names.meaning_of.Given as goal

abbrev pub invariant-loop-table : goal.invariant-loop-table
invariant-loop-table l = option_to_list (option_map field_of l.found) ≡ flat_map (fields_in l.schema (column_of l.column)) (take l.table-index l.from)
