use Rattle.std.proofs.Common.{refl}
use Rattle.ghost_model.specs.refusals.Tokens.{tokens_from, quoted_from}
use Rattle.ghost_model.proofs.tokens.offsets_of_tokens.Goals as goal

pub returns : goal.returns
unfolding tokens_from quoted_from
returns c = record {
  a_token = refl;
  white_space_counts = refl;
  a_broken_literal = refl;
  after_a_literal = refl;
  the_end = refl;
  the_end_after_white_space = refl;
  the_end_of_no_bytes = refl;
  none_after_the_end = refl;
}
