use Rattle.key_words.proofs.app.audit_command.Goals as goal

pub returns : goal.returns
returns c =
    let visible = c.with_needed-command.ensures.made _ (c.new.ensures.app, c.new.ensures.local) in
    let script = c.with_needed-command-2.ensures.made _ visible in
    record { made = c.with_needed.ensures.made _ script }
