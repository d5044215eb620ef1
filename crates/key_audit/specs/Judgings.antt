-- What an audit says of the files, before a line is printed.
use Rattle.std.specs.Prelude.{⊤, Option, Result, Ok, Err}
use Rattle.ghost_model.specs.core.Recorded.{Proper, NoLine}
use Rattle.edge_traits.specs.Files.{Files}
use Rattle.key_words.specs.Words.{Audit}
use Rattle.key_inputs.specs.Views.{rule_of}
use Rattle.channel_audit.specs.Audited.{IsWrongMove}
use Rattle.key_audit.specs.Verdicts.{NoCatalog, BrokenScript, Found, HasVerdict, HoldsJournal}
use Rattle.key_audit.specs.declared.failures.Audited.{Audited}
use Rattle.key_audit.specs.declared.failures.AuditFailure.{AuditFailure}
use Rattle.key_audit.specs.declared.failures.AuditFailure.TheVariants as failure

-- each result that tells something of the files tells what they hold
abbrev pub Judges : Option Files → Audit → Result Audited AuditFailure → Type 0
Judges contents words (Ok audited) = HasVerdict contents words (Found (Proper audited.moves audited.closed))
Judges contents words (Err (failure.Wrong at told due)) =
    HoldsJournal contents words (λ catalog asks file. IsWrongMove catalog asks file at told due)
Judges contents words (Err (failure.BadJournal line)) = HasVerdict contents words (Found (NoLine line))
Judges contents words (Err failure.NotTheFile) = HasVerdict contents words NoCatalog
Judges contents words (Err (failure.Input broken)) = HasVerdict contents words (BrokenScript (rule_of broken))
Judges contents words (Err failure.NoMemory) = ⊤
Judges contents words (Err failure.Depot) = ⊤
Judges contents words (Err failure.Sink) = ⊥
