use Rattle.std.proofs.Common.{◌≡◌, take, filter, not}
use Rattle.std.specs.Prelude.{option_to_list}
use Rattle.ghost_model.specs.core.Schema.{parent}
use Rattle.ghost_model.specs.core.Query.{is_some_among}
use Rattle.spj_parse.proofs.links.top_among.Given as goal

abbrev pub invariant-loop-table : goal.invariant-loop-table
invariant-loop-table l = option_to_list l.top ≡ filter (λ table. not (is_some_among l.from (parent l.schema table))) (take l.table-index l.from)
