use Rattle.std.proofs.Common.{◌≡◌, [], take, flat_map}
use Rattle.spj_parse.specs.Names.{fields_in}
use Rattle.spj_parse.specs.Drafts.{column_of}
use Rattle.spj_parse.proofs.names.first_meaning.Given as goal

abbrev pub invariant-loop-table : goal.invariant-loop-table
invariant-loop-table l = flat_map (fields_in l.schema (column_of l.column)) (take l.table-index l.from) ≡ []
