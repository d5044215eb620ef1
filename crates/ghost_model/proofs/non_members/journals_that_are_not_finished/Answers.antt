use Rattle.hex.specs.Hex.{decode_pairs}
use Rattle.ghost_model.proofs.non_members.journals_that_are_not_finished.Goals as goal

pub returns : goal.returns
unfolding decode_pairs
returns c = record {
  nothing = λ f. f;
  no_close = λ f. absurd (cc (f));
  a_move_after_close = λ f. absurd (cc (f));
}
