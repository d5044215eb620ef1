use Rattle.ghost_model.specs.core.NextMove.{standing_after}
use Rattle.key_session.proofs.session.Session.tally.Goals as goal

pub returns-clause-status : goal.returns-clause-status
returns-clause-status c = λ catalog asks journal after is. c.status.ensures.status (standing_after catalog asks journal) (c.cause.ensures.ends catalog asks journal after) is
