-- A reader of CSV, seen as the list of the records that it has left. One that failed gives no more records.
use Rattle.std.specs.Prelude.{◌≡◌, ◌⊎◌, ℕ, ◌+◌, Bool, true, false, List, [], ◌∷◌, length, Option, Some, None}
use Rattle.csv.specs.Reading.{Ready, default_config, has_failed, is_flexible, records_from, source_of}
use Rattle.csv.specs.declared.parser.State.{State}
use Rattle.csv.specs.declared.reader.Reader.{Reader}
use Rattle.csv.specs.declared.reader.Trim.TheVariants as trim

-- the records that the bytes left spell, from a state of the reader; none where no bytes are told
abbrev pub records_left : Option (List ℕ) → State → List (List (List ℕ))
records_left None state = []
records_left (Some bytes) state = records_from default_config (length bytes + 1) state bytes

abbrev pub left_of : {R : Type 0} → (R → Option (List ℕ)) → Reader R → List (List (List ℕ))
left_of told reader = records_left (source_of told reader) reader.state

-- a reader that reads each record as it stands, the first of them too, however many fields it has
pub record IsSetUp {R : Type 0} (reader : Reader R) : Type 0 where
  pub going : has_failed reader ≡ false
  pub plain : reader.trim ≡ trim.None
  pub standard : reader.config ≡ default_config
  pub flexible : is_flexible reader ≡ true
  pub ready : Ready reader

abbrev pub IsReading : {R : Type 0} → Reader R → Type 0
IsReading reader = (has_failed reader ≡ true) ⊎ IsSetUp reader

-- a read took the first of the records left, or there was none
abbrev pub Reads : (found : Bool) (before : List (List (List ℕ))) (fields : List (List ℕ)) (after : List (List (List ℕ))) → Type 0
Reads true before fields after = before ≡ fields ∷ after
Reads false before fields after = before ≡ []
