use Rattle.ghost_model.proofs.ChannelLemmas.{spelled_is_found, found_begins}
use Rattle.ghost_model.proofs.channel.frames_have_one_spelling.Goals as goal

pub returns : goal.returns
returns c = record { spelled_is_found = spelled_is_found; found_is_spelled = found_begins }
