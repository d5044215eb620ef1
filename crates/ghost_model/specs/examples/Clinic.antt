-- The worked databases that the examples share: the clinic, of doctors, patients and visits, and the notes, one table.
use Rattle.std.specs.Prelude.{ℕ, pos, true, false, List, [], ◌∷◌, codes, Some, None}
use Rattle.ghost_model.specs.core.Schema.{Schema, Table, Column, Integer, Chars}
use Rattle.ghost_model.specs.core.Values.{Value, Number, Text, Row, Database}
use Rattle.ghost_model.specs.core.Channel.{Catalog}

abbrev pub id_column : Column
id_column = record { name = codes "id"; kind = Integer; hidden = false; child = None }

abbrev pub number_column : List ℕ → Column
number_column name = record { name = name; kind = Integer; hidden = false; child = None }

abbrev pub text_column : List ℕ → ℕ → Column
text_column name most = record { name = name; kind = Chars most; hidden = false; child = None }

abbrev pub hidden_text_column : List ℕ → ℕ → Column
hidden_text_column name most = record { name = name; kind = Chars most; hidden = true; child = None }

abbrev pub key_column : List ℕ → ℕ → Column
key_column name child = record { name = name; kind = Integer; hidden = true; child = Some child }

abbrev pub doctor_table : Table
doctor_table = record {
  name = codes "doctor";
  columns = id_column ∷ text_column (codes "specialty") 8 ∷ hidden_text_column (codes "country") 2 ∷ [];
}

abbrev pub patient_table : Table
patient_table = record {
  name = codes "patient";
  columns = id_column ∷ number_column (codes "age") ∷ hidden_text_column (codes "name") 8 ∷ [];
}

abbrev pub visit_table : Table
visit_table = record {
  name = codes "visit";
  columns =
      id_column ∷ number_column (codes "day") ∷ hidden_text_column (codes "purpose") 8 ∷ key_column (codes "doc") 0
      ∷ key_column (codes "pat") 1 ∷ [];
}

abbrev pub clinic_schema : Schema
clinic_schema = doctor_table ∷ patient_table ∷ visit_table ∷ []

abbrev pub number : ℕ → Value
number n = Number (pos n)

abbrev pub doctor_row : ℕ → List ℕ → List ℕ → Row
doctor_row id specialty country = number id ∷ Text specialty ∷ Text country ∷ []

abbrev pub patient_row : ℕ → ℕ → List ℕ → Row
patient_row id age name = number id ∷ number age ∷ Text name ∷ []

abbrev pub visit_row : ℕ → ℕ → List ℕ → ℕ → ℕ → Row
visit_row id day purpose doc pat = number id ∷ number day ∷ Text purpose ∷ number doc ∷ number pat ∷ []

abbrev pub clinic : Database
clinic =
    (doctor_row 1 (codes "cardio") (codes "FR") ∷ doctor_row 2 (codes "neuro") (codes "ES")
    ∷ doctor_row 3 (codes "cardio") (codes "ES") ∷ [])
    ∷ (patient_row 1 30 (codes "Ann") ∷ patient_row 2 41 (codes "Bob") ∷ [])
    ∷ (visit_row 1 5 (codes "flu") 1 1 ∷ visit_row 2 5 (codes "check") 3 2 ∷ visit_row 3 9 (codes "flu") 3 1
    ∷ visit_row 4 2 (codes "flu") 2 2 ∷ [])
    ∷ []

abbrev pub clinic_catalog : Catalog
clinic_catalog = record { schema = clinic_schema; counts = 3 ∷ 2 ∷ 4 ∷ []; generation = 1; version = 2 }

-- the same at version 1
abbrev pub clinic_catalog_one : Catalog
clinic_catalog_one = record { schema = clinic_schema; counts = 3 ∷ 2 ∷ 4 ∷ []; generation = 1; version = 1 }

abbrev pub note_table : Table
note_table = record {
  name = codes "note";
  columns = id_column ∷ text_column (codes "topic") 4 ∷ hidden_text_column (codes "body") 8 ∷ [];
}

abbrev pub note_schema : Schema
note_schema = note_table ∷ []

abbrev pub note_row : ℕ → List ℕ → List ℕ → Row
note_row id topic body = number id ∷ Text topic ∷ Text body ∷ []

abbrev pub notes : Database
notes =
    (note_row 1 (codes "a") (codes "x") ∷ note_row 2 (codes "b") (codes "y") ∷ note_row 3 (codes "a") (codes "z") ∷ [])
    ∷ []

abbrev pub note_catalog : Catalog
note_catalog = record { schema = note_schema; counts = 3 ∷ []; generation = 1; version = 2 }

abbrev pub note_catalog_one : Catalog
note_catalog_one = record { schema = note_schema; counts = 3 ∷ []; generation = 1; version = 1 }
