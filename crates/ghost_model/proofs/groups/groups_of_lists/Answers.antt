use Rattle.std.proofs.Common.{refl}
use Rattle.ghost_model.specs.core.Groups.{groups_of}
use Rattle.ghost_model.proofs.groups.groups_of_lists.Goals as goal

pub returns : goal.returns
unfolding groups_of
returns c = record {
  none = refl;
  alone = refl;
  three = refl;
  ended = refl;
  not_ended = refl;
  each_passes = refl;
  one_fails = refl;
  the_last_member = refl;
}
