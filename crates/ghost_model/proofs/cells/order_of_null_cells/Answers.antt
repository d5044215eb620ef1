use Rattle.std.proofs.Common.{refl}
use Rattle.ghost_model.proofs.cells.order_of_null_cells.Goals as goal

pub returns : goal.returns
returns c = record {
  below_integers = λ number. refl;
  below_texts = λ most text. refl;
  below_the_lowest = refl;
  below_the_empty_text = refl;
  itself = refl;
  integers = refl;
  texts = refl;
}
