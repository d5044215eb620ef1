use Rattle.std.proofs.Common.{◌≡◌, ap, Err, Result, rules}
use Rattle.key_inputs.specs.Scripts.{script_opening}
use Rattle.key_commands.specs.query.Results.{told_by_opening}
use Rattle.key_commands.specs.declared.query.failures.QueryFailure.{QueryFailure}
use Rattle.key_commands.specs.declared.query.opening.Opened.{Opened}
use Rattle.key_commands.proofs.query_lemmas.Endings.{faultless, faultless_unread}
use Rattle.key_commands.proofs.query.opening.open.Goals as goal

pub returns-in_err-cat-clause-complete : goal.returns-in_err-cat-clause-complete
returns-in_err-cat-clause-complete g c = λ files script cat told held no_depot no_flash spelled has.
    let same : c.from_residual.result ≡ Err c.in_err-cat.field-0.0 = search rules in
    rw same
    (faultless {T = Opened} (Err c.in_err-cat.field-0.0) g.F.Flash.told c.args.words.now.flash.now (g.F.Flash.state c.open_flash.new.flash) cat told has c.in_err-cat.ensures.kinds c.in_err-cat.ensures.device
    (λ e. no_flash (c.in_err-cat.ensures.flash.rose (ap (λ (r : Result Opened QueryFailure). (told_by_opening r).flash) e))))

pub returns-in-Err-clause-complete : goal.returns-in-Err-clause-complete
returns-in-Err-clause-complete g c = λ files script cat told held no_depot no_flash spelled has.
    rw c.failure_of.ensures
    (faultless_unread Opened c.in-Err.fault (script_opening files c.args.words.now.script.now) script (c.in-Err.ensures.told files held) spelled
    (λ is. no_depot (c.in-Err.ensures.failed (ap Err is))))
