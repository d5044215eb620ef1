use Rattle.key_session.proofs.Ordering.{texts_come_in_order}
use Rattle.key_session.proofs.texts.texts_come_in_order.Goals as goal

pub returns : goal.returns
returns c = texts_come_in_order
