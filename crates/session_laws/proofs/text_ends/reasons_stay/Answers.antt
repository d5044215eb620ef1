use Rattle.session_laws.proofs.Settled.{lines_for}
use Rattle.session_laws.proofs.text_ends.reasons_stay.Goals as goal

pub returns : goal.returns
returns c = λ catalog kept texts journal more place written lines reason settled here are. lines_for catalog kept texts journal more place settled written lines reason here are
