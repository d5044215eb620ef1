use Rattle.candidate_gathering.proofs.known_lemmas.BadSlots.{are_bad}
use Rattle.candidate_gathering.proofs.known.laws.damage_is_bad.Goals as goal

pub returns : goal.returns
returns c = are_bad c.held_files_have_no_damage.ensures.none c.files_lie_as_summed.ensures c.broken_codes_are_damaged.ensures.damaged c.files_are_of_columns.ensures.same c.tables_are_of_slots.ensures.same
