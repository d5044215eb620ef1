use Rattle.key_words.proofs.app.load_command.Goals as goal

pub returns : goal.returns
returns c =
    let flash = c.with_needed-command.ensures.made _ c.reading_inputs-command.ensures.made in
    let visible = c.with_needed-command-2.ensures.made _ flash in
    record { made = c.with_optional.ensures.made _ visible }
