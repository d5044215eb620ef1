use Rattle.key_words.proofs.app.query_command.Goals as goal

pub returns : goal.returns
returns c =
    let flash = c.with_needed-command.ensures.made _ (c.new.ensures.app, c.new.ensures.local) in
    let to = c.with_needed-command-2.ensures.made _ flash in
    let script = c.with_needed-command-3.ensures.made _ to in
    let plan = c.with_optional-command.ensures.made _ script in
    let pace = c.with_optional-command-2.ensures.made _ plan in
    record { made = c.with_optional.ensures.made _ pace }
