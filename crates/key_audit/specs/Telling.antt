-- The line of an audit's result.
use Rattle.std.specs.Prelude.{ℕ, Bool, true, false, List, [], Result, Ok, Err}
use Rattle.key_audit.specs.Verdicts.{proper_line, wrong_line}
use Rattle.key_audit.specs.declared.failures.Audited.{Audited}
use Rattle.key_audit.specs.declared.failures.AuditFailure.{AuditFailure}
use Rattle.key_audit.specs.declared.failures.AuditFailure.TheVariants as failure

-- whether a result has a line
abbrev pub has_line : Result Audited AuditFailure → Bool
has_line (Ok _) = true
has_line (Err (failure.Wrong at told due)) = true
has_line _ = false

abbrev pub line_of : Result Audited AuditFailure → List ℕ
line_of (Ok audited) = proper_line audited.moves audited.closed
line_of (Err (failure.Wrong at told due)) = wrong_line at
line_of _ = []
