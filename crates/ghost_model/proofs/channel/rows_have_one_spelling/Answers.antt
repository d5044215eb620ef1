use Rattle.ghost_model.proofs.ChannelLemmas.Rows.{spelled_rows_are_read, read_rows_are_spelled}
use Rattle.ghost_model.proofs.channel.rows_have_one_spelling.Goals as goal

pub returns : goal.returns
returns c = record { spelled_are_read = spelled_rows_are_read; read_are_spelled = read_rows_are_spelled }
