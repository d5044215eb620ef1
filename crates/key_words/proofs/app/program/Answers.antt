use Rattle.std.proofs.Common.{◌≡◌, false, Result, Ok, Err, IfOk}
use Rattle.clap.specs.Words.{App, app_of}
use Rattle.clap.specs.declared.builder.command.Command.{Command}
use Rattle.clap.specs.declared.builder.command.Command.TheViews.{out-Command}
use Rattle.key_words.specs.KeyApp as app
use Rattle.key_words.proofs.app.program.Goals as goal

its_app : {E : Type 0} (of : App) (made : Result Command E) → app.IsMade of made → IfOk made (λ command. app_of command ≡ of)
its_app of (Ok command) is = is.0
its_app of (Err error) is = tt

no_globals : {E : Type 0} (of : App) (made : Result Command E) → app.IsMade of made
    → IfOk made (λ command. (out-Command command).has_globals ≡ false)
no_globals of (Ok command) is = is.1
no_globals of (Err error) is = tt

pub returns-clause-app : goal.returns-clause-app
returns-clause-app c =
    let local = c.with_command-program.ensures.made _ _ (c.bare_program.ensures.app, c.bare_program.ensures.global) c.local_command.ensures.made in
    let plain = c.with_command-program-2.ensures.made _ _ local c.plain_command.ensures.made in
    let load = c.with_command-program-3.ensures.made _ _ plain c.load_command.ensures.made in
    let query = c.with_command-program-4.ensures.made _ _ load c.query_command.ensures.made in
    let audit = c.with_command-program-5.ensures.made _ _ query c.audit_command.ensures.made in
    let gen = c.with_command-program-6.ensures.made _ _ audit c.gen_command.ensures.made in
    its_app _ _ (c.with_command.ensures.made _ _ gen c.migrate_command.ensures.made)

pub returns-clause-global : goal.returns-clause-global
returns-clause-global c =
    let local = c.with_command-program.ensures.made _ _ (c.bare_program.ensures.app, c.bare_program.ensures.global) c.local_command.ensures.made in
    let plain = c.with_command-program-2.ensures.made _ _ local c.plain_command.ensures.made in
    let load = c.with_command-program-3.ensures.made _ _ plain c.load_command.ensures.made in
    let query = c.with_command-program-4.ensures.made _ _ load c.query_command.ensures.made in
    let audit = c.with_command-program-5.ensures.made _ _ query c.audit_command.ensures.made in
    let gen = c.with_command-program-6.ensures.made _ _ audit c.gen_command.ensures.made in
    no_globals app.key_app _ (c.with_command.ensures.made _ _ gen c.migrate_command.ensures.made)
