use Rattle.ghost_model.proofs.ChannelLemmas.Greeting.{greetings_are_heard}
use Rattle.ghost_model.proofs.channel.greetings_are_heard.Goals as goal

pub returns : goal.returns
returns c catalog asks parts bytes fit whole = greetings_are_heard catalog asks parts bytes fit whole
