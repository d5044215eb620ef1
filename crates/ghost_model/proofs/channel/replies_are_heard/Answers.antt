use Rattle.ghost_model.proofs.ChannelLemmas.Replies.{replies_are_heard}
use Rattle.ghost_model.proofs.channel.replies_are_heard.Goals as goal

pub returns : goal.returns
returns c catalog asks asked serial later groups before a p r b some fits total all =
    replies_are_heard catalog asks asked serial later groups before a p r b some fits total all
