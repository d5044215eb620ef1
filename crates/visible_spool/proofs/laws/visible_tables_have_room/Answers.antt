use Rattle.visible_spool.proofs.VisibleWidths.{visible_tables_have_room}
use Rattle.visible_spool.proofs.laws.visible_tables_have_room.Goals as goal

pub returns : goal.returns
returns c = record { room = visible_tables_have_room }
