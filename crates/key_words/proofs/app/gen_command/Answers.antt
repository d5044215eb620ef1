use Rattle.key_words.proofs.app.gen_command.Goals as goal

pub returns : goal.returns
returns c =
    let seed = c.with_needed-command.ensures.made _ (c.new.ensures.app, c.new.ensures.local) in
    let rows = c.with_needed-command-2.ensures.made _ seed in
    let flash = c.with_needed-command-3.ensures.made _ rows in
    let texts = c.with_optional-command.ensures.made _ flash in
    let plan = c.with_optional-command-2.ensures.made _ texts in
    let pace = c.with_optional-command-3.ensures.made _ plan in
    record { made = c.with_optional.ensures.made _ pace }
