use Rattle.ghost_model.proofs.TextLemmas.{cut_at, uncut}
use Rattle.ghost_model.proofs.tokens.scripts_are_cut.Goals as goal

pub returns : goal.returns
returns c = record { cut = cut_at; uncut = uncut }
