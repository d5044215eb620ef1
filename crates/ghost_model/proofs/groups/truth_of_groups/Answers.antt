use Rattle.std.proofs.Common.{refl}
use Rattle.std.specs.Fmt.{digits}
use Rattle.hex.specs.Hex.{encode_with, decode_pairs}
use Rattle.ghost_model.specs.core.Groups.{groups_of}
use Rattle.ghost_model.specs.core.Schema.{places_from, ancestor}
use Rattle.ghost_model.specs.core.Database.{leads_within}
use Rattle.ghost_model.specs.core.Split.{replies_from}
use Rattle.ghost_model.specs.core.Meaning.{combinations}
use Rattle.ghost_model.proofs.groups.truth_of_groups.Goals as goal

pub returns : goal.returns
unfolding digits encode_with decode_pairs groups_of places_from ancestor leads_within replies_from combinations
returns c = record {
  a_mixed_group = refl;
  a_mixed_group_asked = refl;
  a_mixed_group_known = refl;
  beside_a_condition_asked = refl;
  a_visible_group = refl;
  a_visible_group_asked = refl;
  a_visible_group_known = refl;
  two_groups_asked = refl;
  two_groups_known = refl;
  a_group_of_the_key = refl;
  a_group_of_the_key_asked = refl;
  a_group_of_the_key_known = refl;
  work_of_a_group = refl;
  work_of_ranges = refl;
  work_of_a_range = refl;
  work_of_a_mixed_group = refl;
  null_is_not_unequal = refl;
  null = refl;
  all_but_null = refl;
  a_value_or_null = refl;
  a_value_or_null_asked = refl;
  each_code_asked = refl;
  work_of_unequal = refl;
  work_of_null = refl;
  work_of_all_but_null = refl;
}
