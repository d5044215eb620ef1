use Rattle.std.proofs.Common.{refl}
use Rattle.hex.specs.Hex.{decode_pairs}
use Rattle.ghost_model.proofs.channel.readings_of_frames.Goals as goal

pub returns : goal.returns
unfolding decode_pairs
returns c = record {
  hello = refl;
  ask = refl;
  rows = refl;
  more_with_others_after = refl;
  bye = refl;
  done = refl;
  sorry = refl;
  nothing = refl;
  part_of_a_header = refl;
  part_of_a_payload = refl;
  another_kind = refl;
  another_version = refl;
  another_length = refl;
  bye_with_a_serial = refl;
  more_without_a_serial = refl;
  sorry_of_zero = refl;
  welcome_of_two = refl;
}
