use Rattle.candidate_gathering.proofs.known_lemmas.BadSlots.{no_reply_damage}
use Rattle.candidate_gathering.proofs.known.laws.replies_have_no_damage.Goals as goal

pub returns : goal.returns
returns c = record { none = no_reply_damage }
