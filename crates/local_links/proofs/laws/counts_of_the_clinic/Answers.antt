use Rattle.std.proofs.Common.{refl}
use Rattle.std.specs.Fmt.{digits}
use Rattle.hex.specs.Hex.{decode_pairs}
use Rattle.local_links.proofs.laws.counts_of_the_clinic.Goals as goal

pub returns : goal.returns
unfolding digits decode_pairs
returns c = record {
  moves = refl;
  sent = refl;
  taken = refl;
  moves_of_the_failed = refl;
  handed_over = refl;
  nothing_taken = refl;
}
