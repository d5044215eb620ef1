use Rattle.candidate_filter.proofs.Sparing.{sifting_given, sifting_stays, sifting_has_stays, sifting_keeps, sifting_small, left_stays}
use Rattle.candidate_filter.proofs.laws.sifting_is_spared.Goals as goal

pub returns : goal.returns
returns c = record {
  sifting = sifting_stays c.merging_is_spared.ensures.merging;
  has = sifting_has_stays c.cursors_are_spared.ensures.right;
  given = sifting_given c.cursors_are_spared.ensures.given;
  left = left_stays c.merging_is_spared.ensures.left;
  keeps = sifting_keeps;
  small = sifting_small c.merging_is_spared.ensures.small;
}
