use Rattle.std.proofs.Common.{sym, ◌∙◌}
use Rattle.channel_audit.proofs.Moving.{closed_at, open_at}
use Rattle.channel_audit.proofs.audit.Audit.closed.Goals as goal

pub returns-in-Closed : goal.returns-in-Closed
returns-in-Closed c = record { closed = λ catalog asks journal live. sym (live.after.closed ∙ closed_at c.args.self.now.pump c.args.self.now.pump.stage (sym c.want.ensures.want ∙ c.in-Closed.is)) }

pub returns-in_default : goal.returns-in_default
returns-in_default c = record { closed = λ catalog asks journal live. sym (live.after.closed ∙ open_at c.args.self.now.pump c.args.self.now.pump.stage (λ e. c.in_default.not-Closed (c.want.ensures.want ∙ e))) }
