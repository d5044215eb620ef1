use Rattle.entry_lists.proofs.RepliedLists.{replies_damage}
use Rattle.entry_lists.proofs.laws.damage_is_of_id_slots.Goals as goal

pub returns : goal.returns
returns c = record { identifiers = replies_damage c.damage_is_of_slots.ensures.damaged c.broken_codes_are_damaged.ensures.damaged }
