use Rattle.std.proofs.Common.{◌≡◌, ◌≤◌, ◌*◌, length, take, sum_by}
use Rattle.ghost_model.specs.core.Schema as schema
use Rattle.tree_schema.specs.Views.{table_of}
use Rattle.tree_schema.specs.declared.schema.Table.{Table}
use Rattle.tree_schema.proofs.trees.keys_naming.Given as goal

abbrev pub invariant-loop-table : goal.invariant-loop-table
invariant-loop-table l =
    record {
      summed : l.keys ≡ sum_by (λ (table : Table). length (schema.references_to l.child (table_of table))) (take l.table-index l.tables);
      few : l.keys ≤ l.table-index * 24;
    }
