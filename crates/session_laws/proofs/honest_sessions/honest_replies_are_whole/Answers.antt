use Rattle.session_laws.proofs.Replied.{asks_whole, texts_whole}
use Rattle.session_laws.proofs.honest_sessions.honest_replies_are_whole.Goals as goal

pub returns-clause-asks : goal.returns-clause-asks
returns-clause-asks c = asks_whole

pub returns-clause-texts : goal.returns-clause-texts
returns-clause-texts c = texts_whole
