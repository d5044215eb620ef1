-- The value of a column in a row, and whether a row meets a test, by its identifier.
use Rattle.std.specs.Prelude.{ℕ, ◌≤◌, ⊤, Bool, true, List, Some}
use Rattle.ghost_model.specs.core.Schema.{Schema}
use Rattle.ghost_model.specs.core.Query.{Condition, OneOf, Join}
use Rattle.ghost_model.specs.core.Groups.{some_of}
use Rattle.ghost_model.specs.core.Meaning.{meets_test}
use Rattle.ghost_model.specs.core.Split.{Hidden}
use Rattle.ghost_model.specs.core.Replies.{Reply, known_value, reply_about, stands_in}
use Rattle.edge_traits.specs.Devices.{Device}
use Rattle.hidden_columns.specs.Files.{IsReadable}
use Rattle.candidate_rows.specs.declared.next.Slot.{Slot}
use Rattle.candidate_rows.specs.declared.plan.Test.{Test}
use Rattle.candidate_rows.specs.Plans.{test_meets}
use Rattle.std.specs.Prelude.{Option, None}

-- a slot that is needed may be read
pub record CanReadSlot (device : Device) (slot : Slot) : Type 0 where
  pub readable : IsReadable device slot.file
  pub some : 1 ≤ slot.identifier
  pub within : slot.identifier ≤ slot.file.run.count

abbrev pub CanReadNeeded : Device → Option Slot → Type 0
CanReadNeeded device None = ⊤
CanReadNeeded device (Some slot) = CanReadSlot device slot

-- whether a group holds of the row of its columns' table that has an identifier
abbrev pub holds_at : Schema → Hidden → List Reply → (identifier : ℕ) → Condition → Bool
holds_at schema hidden given identifier (OneOf first others) =
    some_of (λ one. meets_test one.test (known_value schema hidden given one.field.table identifier one.field.column)) first others
holds_at schema hidden given identifier (Join one other) = true

abbrev pub met_at : Schema → Hidden → List Reply → (identifier : ℕ) → Test → Bool
met_at schema hidden given identifier test =
    test_meets (λ table. stands_in identifier (reply_about table given)) (holds_at schema hidden given identifier) test
