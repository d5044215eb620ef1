use Rattle.key_words.proofs.app.local_command.Goals as goal

pub returns : goal.returns
returns c =
    let flash = c.with_needed-command.ensures.made _ c.reading_inputs-command.ensures.made in
    let script = c.with_needed-command-2.ensures.made _ flash in
    let journal = c.with_optional-command.ensures.made _ script in
    let plan = c.with_optional-command-2.ensures.made _ journal in
    let pace = c.with_optional-command-3.ensures.made _ plan in
    record { made = c.with_optional.ensures.made _ pace }
