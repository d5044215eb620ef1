use Rattle.std.proofs.Common.{refl}
use Rattle.ghost_model.proofs.tokens.texts_of_symbols.Goals as goal

pub returns : goal.returns
returns c = record {
  words_and_signs = refl;
  a_literal = refl;
}
