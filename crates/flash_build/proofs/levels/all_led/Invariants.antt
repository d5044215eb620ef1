use Rattle.std.proofs.Common.{map, filter}
use Rattle.ghost_model.specs.forms.Layout.{is_below, below}
use Rattle.flash_build.specs.Levels.{AreLed, items_of}
use Rattle.flash_build.proofs.levels.all_led.Given as goal

abbrev pub invariant-loop-other : goal.invariant-loop-other
invariant-loop-other l = record { led : AreLed l.laid l.hidden l.table (filter (is_below l.laid.schema l.table) (below l.other)) (map items_of l.all.items) }
