use Rattle.std.proofs.Common.{◌≡◌, ◌≤◌, ◌++◌, true, drop, filter}
use Rattle.arrayvec.specs.ArrayVec.{array_vec_len}
use Rattle.ghost_model.specs.core.Schema.{places_from, columns_of}
use Rattle.ghost_model.specs.core.Schema as schemas
use Rattle.ghost_model.specs.core.Asks.{is_wanted}
use Rattle.script_asks.proofs.queries.wanted_columns.Given as goal

abbrev pub invariant-loop-at : goal.invariant-loop-at
invariant-loop-at l = record {
  told : l.found.items ++ filter (is_wanted l.schema l.query l.table) (places_from (λ _. true) l.at (drop l.at (columns_of l.schema l.table)))
      ≡ filter (is_wanted l.schema l.query l.table) (schemas.places_of (columns_of l.schema l.table));
  room : array_vec_len l.found ≤ l.at;
}
