use Rattle.std.proofs.Common.{◌≡◌, ◌≤◌, ◌++◌, drop}
use Rattle.arrayvec.specs.ArrayVec.{array_vec_len}
use Rattle.ghost_model.specs.laws.SchemaLaws as schema_laws
use Rattle.ghost_model.specs.core.Schema as schema
use Rattle.tree_schema.proofs.schema.Schema.children.Given as goal

abbrev pub invariant-loop-at : goal.invariant-loop-at
invariant-loop-at l =
    record {
      told : l.found.items ++ schema_laws.children_from l.self l.table l.at (drop l.at l.self) ≡ schema_laws.children l.self l.table;
      room : array_vec_len l.found ≤ l.at;
    }
