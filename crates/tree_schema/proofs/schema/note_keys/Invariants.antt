use Rattle.std.proofs.Common.{take}
use Rattle.std.specs.List.{list_any}
use Rattle.ghost_model.specs.core.Schema as schema
use Rattle.tree_schema.specs.Schemas.{IsNoted}
use Rattle.tree_schema.proofs.schema.note_keys.Given as goal

abbrev pub invariant-loop-column : goal.invariant-loop-column
invariant-loop-column l =
    IsNoted l.holder (λ child. list_any (λ column. schema.is_table child column.child) (take l.column-index l.columns)) l.initial.parents l.parents
