-- Want of memory as an answer. A call that takes no memory never gives it: each error of such a call tells of a broken
-- rule.
use Rattle.std.specs.Prelude.{◌≡◌, ◌<◌, ◌+◌, ◌++◌, ℕ, true, List, length, drop, Result, IfErr, is_some}
use Rattle.ghost_model.specs.core.Schema.{Column}
use Rattle.ghost_model.specs.refusals.LoadFaults.{field_faults, rows_faults}
use Rattle.csv_split.specs.Faults.{told}
use Rattle.csv_split.specs.Reading.{with_identifier}
use Rattle.csv_split.specs.declared.faults.LoadFault.{LoadFault}

abbrev pub NeverWants : {T : Type 0} → Result T LoadFault → Type 0
NeverWants result = IfErr result (λ fault. is_some (told fault) ≡ true)

-- memory was wanting for the value of one of the columns after the identifier: its field and those before it break no rule,
-- and all faults of the record's fields are those of later ones
pub record WantsForField (table rec : ℕ) (columns : List Column) (fields : List (List ℕ)) : Type 0 where
  pub column : ℕ
  pub within : column < length columns
  pub judged : field_faults table rec 1 columns (drop 1 fields)
      ≡ field_faults table rec (column + 1 + 1) (drop (column + 1) columns) (drop (column + 1 + 1) fields)

-- memory was wanting for a value of a row, behind whose record these are left: the rows before it break no rule, and of its
-- own rules only those of later fields may be broken
pub record WantsForRow (table : ℕ) (columns : List Column) (before left : List (List (List ℕ))) : Type 0 where
  pub row : ℕ
  pub fields : List (List ℕ)
  pub wants : WantsForField table (row + 1) columns fields
  pub judged : rows_faults table 1 (with_identifier columns) before
      ≡ field_faults table (row + 1) 1 columns (drop 1 fields) ++ rows_faults table (row + 1) (with_identifier columns) left
