use Rattle.std.proofs.Common.{◌≡◌, ◌≤◌, take, count_by}
use Rattle.ghost_model.specs.core.Schema as schema
use Rattle.tree_schema.specs.declared.schema.Column.{Column}
use Rattle.tree_schema.proofs.trees.keys_in.Given as goal

abbrev pub invariant-loop-column : goal.invariant-loop-column
invariant-loop-column l =
    record {
      counted : l.keys ≡ count_by (λ (column : Column). schema.is_table l.child column.child) (take l.column-index l.columns);
      few : l.keys ≤ l.column-index;
    }
