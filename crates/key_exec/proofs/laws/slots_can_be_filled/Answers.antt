use Rattle.key_exec.proofs.FilledSlots.{filled, filled_known, can_be_filled, have_both}
use Rattle.key_exec.proofs.laws.slots_can_be_filled.Goals as goal

pub returns : goal.returns
returns c = record {
  there = filled c.cells_spell_one_value.ensures c.parts_by_flags.ensures;
  known = filled_known c.hidden_values_of_databases.ensures;
  fills = can_be_filled;
  both = λ page cat public bytes limited can is table column identifier h some few none value other one another.
      have_both c.cells_spell_one_value.ensures c.parts_by_flags.ensures c.hidden_values_of_databases.ensures page cat public bytes limited can is table column identifier h some few none
      value other one another;
}
