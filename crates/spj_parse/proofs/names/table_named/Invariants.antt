use Rattle.std.proofs.Common.{◌≡◌}
use Rattle.ghost_model.specs.refusals.Tokens.{in_lower_case}
use Rattle.ghost_model.specs.refusals.QueryMeaning as meaning
use Rattle.spj_parse.specs.Names.{has_name}
use Rattle.spj_parse.proofs.Places.{first_from}
use Rattle.spj_parse.proofs.names.table_named.Given as goal

abbrev pub invariant-loop-table : goal.invariant-loop-table
invariant-loop-table l = meaning.table_named l.schema (in_lower_case l.name) ≡ first_from (has_name (in_lower_case l.name)) l.schema l.table
