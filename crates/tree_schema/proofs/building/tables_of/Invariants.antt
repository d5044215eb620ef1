use Rattle.std.proofs.Common.{◌≡◌, length, map, take}
use Rattle.ghost_model.specs.refusals.SchemaMeaning as meaning
use Rattle.tree_schema.specs.Drafts as drafts
use Rattle.tree_schema.specs.Views as views
use Rattle.tree_schema.proofs.building.tables_of.Given as goal

abbrev pub invariant-loop-table : goal.invariant-loop-table
invariant-loop-table l =
    record {
      read : map views.table_of l.built.items ≡ map (meaning.table_of (map drafts.table_of l.tables)) (map drafts.table_of (take l.table-index l.tables));
      many : length l.built.items ≡ l.table-index;
    }
