use Rattle.std.proofs.Common.{get_or}
use Rattle.ghost_model.specs.forms.Layout.{levels_of}
use Rattle.index_lists.specs.Laws.{LeadAs}
use Rattle.flash_build.proofs.levels.led.Given as goal

abbrev pub invariant-loop-level : goal.invariant-loop-level
invariant-loop-level l = record { lead : LeadAs l.laid l.hidden (get_or (levels_of l.laid.schema l.table) l.level 0) l.table l.reached.items }
