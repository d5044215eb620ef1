use Rattle.ghost_model.proofs.TokenLemmas.{spelled_text, before_end}
use Rattle.ghost_model.proofs.tokens.tokens_are_spelled.Goals as goal

pub returns : goal.returns
returns c = record { each_list_has_a_text = spelled_text; each_text_has_a_list = before_end }
