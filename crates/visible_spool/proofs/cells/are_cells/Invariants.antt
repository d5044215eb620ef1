use Rattle.std.proofs.Common.{◌≡◌, length, map, IsTrue}
use Rattle.std.specs.List.{list_all}
use Rattle.ghost_model.specs.core.NextMove as next
use Rattle.ghost_base.specs.Views.{kind_of}
use Rattle.visible_spool.specs.Replies.{is_narrow}
use Rattle.visible_spool.proofs.cells.are_cells.Given as goal

abbrev pub invariant-kinds : goal.invariant-kinds
invariant-kinds l = record {
  narrow : IsTrue (list_all is_narrow (map kind_of l.rest));
  same : next.are_cells (map kind_of l.rest) l.bytes ≡ next.are_cells (map kind_of l.kinds) l.cells;
}

abbrev pub decreases-kinds : goal.decreases-kinds
decreases-kinds l = length l.rest
