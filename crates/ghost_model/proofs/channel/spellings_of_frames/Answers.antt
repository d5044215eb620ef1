use Rattle.std.proofs.Common.{refl}
use Rattle.std.specs.Fmt.{digits}
use Rattle.hex.specs.Hex.{encode_with, decode_pairs}
use Rattle.ghost_model.proofs.channel.spellings_of_frames.Goals as goal

pub returns : goal.returns
unfolding digits encode_with decode_pairs
returns c = record {
  hello = refl;
  ask = refl;
  more = refl;
  bye = refl;
  rows = refl;
  done = refl;
  sorry = refl;
  short_ask = refl;
  ask_of_a_column = refl;
  ask_of_a_column_and_a_condition = refl;
  done_of_no_row = refl;
  welcome = refl;
}
