use Rattle.key_words.proofs.app.reading_inputs.Goals as goal

pub returns : goal.returns
returns c = record { made = c.with_needed.ensures.made _ (c.with_needed-command.ensures.made _ (c.new.ensures.app, c.new.ensures.local)) }
