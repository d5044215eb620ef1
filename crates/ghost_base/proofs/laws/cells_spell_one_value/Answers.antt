use Rattle.ghost_base.proofs.CellSpelling.{reads_back, spells_a_cell}
use Rattle.ghost_base.proofs.laws.cells_spell_one_value.Goals as goal

pub returns : goal.returns
returns c = record { reads_back = reads_back; spells_a_cell = spells_a_cell }
