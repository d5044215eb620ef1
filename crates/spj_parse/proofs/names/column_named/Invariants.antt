use Rattle.std.proofs.Common.{◌≡◌}
use Rattle.ghost_model.specs.core.Schema.{columns_of}
use Rattle.ghost_model.specs.refusals.Tokens.{in_lower_case}
use Rattle.ghost_model.specs.core.Schema as schemas
use Rattle.ghost_model.specs.refusals.QueryMeaning as meaning
use Rattle.spj_parse.specs.Names.{is_called}
use Rattle.spj_parse.proofs.Places.{first_from}
use Rattle.spj_parse.proofs.names.column_named.Given as goal

abbrev pub invariant-loop-column : goal.invariant-loop-column
invariant-loop-column l = schemas.column_named l.schema l.table (in_lower_case l.name) ≡ first_from (is_called (in_lower_case l.name)) (columns_of l.schema l.table) l.column
