use Rattle.std.proofs.Common.{◌≡◌, take, flat_map}
use Rattle.std.specs.Int.{to_be_bytes, w32}
use Rattle.tree_schema.specs.Windows.{pane, with_text}
use Rattle.tree_schema.proofs.catalog_bytes.put_counts.Given as goal

abbrev pub invariant-loop-table : goal.invariant-loop-table
invariant-loop-table l =
    pane l.window l.out ≡ with_text (pane l.initial.window l.initial.out) (flat_map (to_be_bytes w32) (take l.table l.cat.counts))
