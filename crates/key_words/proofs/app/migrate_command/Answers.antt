use Rattle.key_words.proofs.app.migrate_command.Goals as goal

pub returns : goal.returns
returns c =
    let flash = c.with_needed-command.ensures.made _ (c.new.ensures.app, c.new.ensures.local) in
    let visible = c.with_needed-command-2.ensures.made _ flash in
    let to_flash = c.with_needed-command-3.ensures.made _ visible in
    let to_visible = c.with_needed-command-4.ensures.made _ to_flash in
    let null = c.with_optional-command.ensures.made _ to_visible in
    record { made = c.with_optional.ensures.made _ null }
