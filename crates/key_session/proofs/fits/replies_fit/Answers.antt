use Rattle.key_session.proofs.Fitting.{replies_fit}
use Rattle.key_session.proofs.fits.replies_fit.Goals as goal

pub returns : goal.returns
returns c = replies_fit c.files_lie_in_order.ensures c.visible_tables_have_room.ensures.room
