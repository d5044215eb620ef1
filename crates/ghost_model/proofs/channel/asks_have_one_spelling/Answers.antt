use Rattle.ghost_model.proofs.ChannelLemmas.Asks.{spelled_ask_is_read, read_ask_is_proper, read_ask_is_spelled}
use Rattle.ghost_model.proofs.channel.asks_have_one_spelling.Goals as goal

pub returns : goal.returns
returns c = record {
  spelled_is_read = spelled_ask_is_read;
  read_is_proper = read_ask_is_proper;
  read_is_spelled = read_ask_is_spelled;
}
