use Rattle.std.proofs.Common.{◌≡◌, ◌∷◌, ◌+◌, length, map, take}
use Rattle.ghost_model.specs.refusals.SchemaMeaning as meaning
use Rattle.tree_schema.specs.Drafts as drafts
use Rattle.tree_schema.specs.Views as views
use Rattle.tree_schema.proofs.building.columns_in.Given as goal

abbrev pub invariant-loop-column : goal.invariant-loop-column
invariant-loop-column l =
    record {
      built : map views.column_of l.columns.items ≡ map (meaning.column_of (map drafts.table_of l.tables)) (drafts.column_of l.table.first ∷ map drafts.column_of (take l.column-index l.column-items));
      many : length l.columns.items ≡ l.column-index + 1;
    }
