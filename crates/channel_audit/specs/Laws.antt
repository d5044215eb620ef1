-- What holds of any file that is audited.
use Rattle.std.specs.Prelude.{◌≡◌, ℕ, ◌+◌, ◌*◌, ◌≤◌, ◌<◌, Bool, true, List, [], ◌∷◌, ◌++◌, length, take}
use Rattle.ghost_model.specs.core.Channel.{Catalog, Entry}
use Rattle.ghost_model.specs.core.Asks.{NumberedAsk}
use Rattle.ghost_model.specs.core.NextMove.{standing_after}
use Rattle.ghost_model.specs.core.Recorded.{Finding, AuditFinds, Tells, lacks, most_journal, IsProperFile, IsNoLineAt}
use Rattle.channel_audit.specs.Audited.{IsAudited, StandsIn, GoesOn, GoesWrong, IsWrongMove}
use Rattle.channel_audit.specs.declared.audit.Audit.{Audit}
use Rattle.channel_audit.specs.declared.audit.Due.{Due}

-- something is found in a file
pub record HasFinding (catalog : Catalog) (asks : List NumberedAsk) (file : List ℕ) : Type 0 where
  pub finding : Finding
  pub finds : AuditFinds catalog asks file finding

-- whatever a file holds, something is found in it
abbrev pub EachFileHasAFinding : Type 0
EachFileHasAFinding = (catalog : Catalog) (asks : List NumberedAsk) (file : List ℕ) → HasFinding catalog asks file

-- what each kind of line does to an audit that stands in a file
pub record LinesArePassed : Type 0 where
  -- it stands before the first line
  pub begins : (catalog : Catalog) (asks : List NumberedAsk) (file : List ℕ) (audit : Audit) → IsAudited catalog asks [] audit
      → StandsIn catalog asks file file audit 0 0
  -- each line has a byte and its LF
  pub few : (catalog : Catalog) (asks : List NumberedAsk) (file rest : List ℕ) (audit : Audit) (passed moves : ℕ)
      → StandsIn catalog asks file rest audit passed moves → 2 * moves ≤ passed
  pub fine : (catalog : Catalog) (asks : List NumberedAsk) (file text rest : List ℕ) (audit after : Audit) (passed moves : ℕ)
      → (stands : StandsIn catalog asks file (text ++ 10 ∷ rest) audit passed moves) → GoesOn catalog asks stands.journal text after
      → passed + (length text + 1) ≤ most_journal → StandsIn catalog asks file rest after (passed + (length text + 1)) (moves + 1)
  pub wrong : (catalog : Catalog) (asks : List NumberedAsk) (file text rest : List ℕ) (audit : Audit) (passed moves : ℕ) (told due : Due)
      → (stands : StandsIn catalog asks file (text ++ 10 ∷ rest) audit passed moves) → GoesWrong catalog asks stands.journal text told due
      → passed + (length text + 1) ≤ most_journal → IsWrongMove catalog asks file (moves + 1) told due
  pub untold : (catalog : Catalog) (asks : List NumberedAsk) (file text rest : List ℕ) (audit : Audit) (passed moves : ℕ)
      → StandsIn catalog asks file (text ++ 10 ∷ rest) audit passed moves → lacks 10 text ≡ true
      → ((made : Entry) → Tells text made → ⊥) → IsNoLineAt catalog asks file (moves + 1)
  -- a line that reaches past the limit of a file
  pub beyond : (catalog : Catalog) (asks : List NumberedAsk) (file text rest : List ℕ) (audit : Audit) (passed moves : ℕ)
      → StandsIn catalog asks file (text ++ 10 ∷ rest) audit passed moves → lacks 10 text ≡ true
      → most_journal ≤ passed + length text → IsNoLineAt catalog asks file (moves + 1)
  -- no LF stands where that of a line would
  pub endless : (catalog : Catalog) (asks : List NumberedAsk) (file rest : List ℕ) (audit : Audit) (passed moves : ℕ)
      → StandsIn catalog asks file rest audit passed moves → 0 < length rest → lacks 10 (take 4201 rest) ≡ true
      → IsNoLineAt catalog asks file (moves + 1)
  pub ends : (catalog : Catalog) (asks : List NumberedAsk) (file : List ℕ) (audit : Audit) (passed moves : ℕ) (closed : Bool)
      → (stands : StandsIn catalog asks file [] audit passed moves) → closed ≡ (standing_after catalog asks stands.journal).closed
      → IsProperFile catalog asks file moves closed
