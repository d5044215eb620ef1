use Rattle.key_exec.proofs.laws.whole_replies_are_of_asked.Goals as goal

pub returns : goal.returns
returns c = record { asked = c.whole_replies_are_of_asked.ensures.asked; all = c.whole_replies_are_all.ensures.all }
