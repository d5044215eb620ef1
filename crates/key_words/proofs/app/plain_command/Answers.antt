use Rattle.key_words.proofs.app.plain_command.Goals as goal

pub returns : goal.returns
returns c = record { made = c.with_needed.ensures.made _ c.reading_inputs-command.ensures.made }
