-- What is found in the file of a journal.
use Rattle.std.specs.Prelude.{◌≡◌, ℕ, ◌+◌, ◌*◌, ◌≤◌, ⊤, List, [], ◌∷◌, ◌++◌, length, Option, None, Some, Result, Ok, Err}
use Rattle.ghost_model.specs.core.Asks.{NumberedAsk}
use Rattle.ghost_model.specs.core.Channel.{Catalog}
use Rattle.ghost_model.specs.core.Recorded.{IsProperFile, IsNoLineAt, most_journal}
use Rattle.edge_traits.specs.Files.{Files}
use Rattle.channel_audit.specs.Audited.{IsWrongMove, StandsIn}
use Rattle.channel_audit.specs.declared.audit.Audit.{Audit}
use Rattle.key_audit.specs.Verdicts.{HoldsFile}
use Rattle.key_audit.specs.declared.failures.Audited.{Audited}
use Rattle.key_audit.specs.declared.failures.AuditFailure.{AuditFailure}
use Rattle.key_audit.specs.declared.failures.AuditFailure.TheVariants as failure

-- an audit stands behind these bytes of any file that begins with them, after so many proper moves
pub record HasPassed (catalog : Catalog) (asks : List NumberedAsk) (passed : List ℕ) (audit : Audit) (moves : ℕ) : Type 0 where
  pub stands : (file rest : List ℕ) → file ≡ passed ++ rest → StandsIn catalog asks file rest audit (length passed) moves
  pub within : length passed ≤ most_journal
  pub few : 2 * moves ≤ length passed

-- an audit ended in a file with this failure
abbrev pub Fails : Catalog → List NumberedAsk → (file : List ℕ) → AuditFailure → Type 0
Fails catalog asks file (failure.Wrong at told due) = IsWrongMove catalog asks file at told due
Fails catalog asks file (failure.BadJournal line) = IsNoLineAt catalog asks file line
Fails catalog asks file _ = ⊥

-- a line behind these bytes was judged: it is passed, or the audit ends there
abbrev pub JudgesLine : Catalog → List NumberedAsk → (passed line : List ℕ) → (moves : ℕ) → Option AuditFailure → (after : Audit) → Type 0
JudgesLine catalog asks passed line moves None after = HasPassed catalog asks (passed ++ (line ++ 10 ∷ [])) after (moves + 1)
JudgesLine catalog asks passed line moves (Some ends) after = (rest : List ℕ) → Fails catalog asks (passed ++ (line ++ 10 ∷ rest)) ends

-- how the audit of a journal ended: by what its file holds, or by a fault of the depot
abbrev pub EndsJournal : Option Files → (name : List ℕ) → Catalog → List NumberedAsk → Result Audited AuditFailure → Type 0
EndsJournal contents name catalog asks (Ok audited) =
    HoldsFile contents name (λ file. IsProperFile catalog asks file audited.moves audited.closed)
EndsJournal contents name catalog asks (Err failure.Depot) = ⊤
EndsJournal contents name catalog asks (Err (failure.Wrong at told due)) =
    HoldsFile contents name (λ file. IsWrongMove catalog asks file at told due)
EndsJournal contents name catalog asks (Err (failure.BadJournal line)) = HoldsFile contents name (λ file. IsNoLineAt catalog asks file line)
EndsJournal contents name catalog asks (Err _) = ⊥
