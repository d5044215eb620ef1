use Rattle.entry_lists.proofs.DamagedLists.{value_lists_damage, id_lists_damage}
use Rattle.entry_lists.proofs.laws.damage_is_of_slots.Goals as goal

pub returns : goal.returns
returns c = record {
  values = value_lists_damage c.damage_is_of_slots.ensures.damaged c.broken_codes_are_damaged.ensures.damaged;
  identifiers = id_lists_damage c.damage_is_of_slots.ensures.damaged c.broken_codes_are_damaged.ensures.damaged;
}
