use Rattle.candidate_gathering.proofs.searching_lemmas.ListDamage.{entries, identifiers, replied_damage}
use Rattle.candidate_gathering.proofs.searching.laws.damage_of_lists_is_of_slots.Goals as goal

pub returns : goal.returns
returns c = record {
  entries = entries c.damage_is_of_slots.ensures.values;
  identifiers = identifiers c.damage_is_of_slots.ensures.identifiers;
  replies = replied_damage c.damage_is_of_id_slots.ensures.identifiers;
}
