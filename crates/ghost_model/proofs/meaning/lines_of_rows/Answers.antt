use Rattle.std.proofs.Common.{refl}
use Rattle.std.specs.Fmt.{digits}
use Rattle.ghost_model.proofs.meaning.lines_of_rows.Goals as goal

pub returns : goal.returns
unfolding digits
returns c = record {
  below_zero = refl;
  zero_alone = refl;
  an_empty_field_at_the_end = refl;
  an_empty_field_alone = refl;
}
