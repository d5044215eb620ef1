-- The clinic's files and the database that they spell, and files that break the rules of loading: each rule alone, and
-- two rules at once, of which the earlier one is told. The parts of rows, and what is no image.
use Rattle.std.specs.Prelude.{◌≡◌, ℕ, pos, negsuc, Bool, true, false, List, [], ◌∷◌, ◌++◌, map, flat_map, take, replicate, codes, Option, Some, None}
use Rattle.std.specs.declared.cmp.Ordering.TheVariants as order
use Rattle.ghost_model.specs.core.Schema.{Schema, Column, Kind, Integer, Chars, IntegerOrNull, CharsOrNull}
use Rattle.ghost_model.specs.core.Query.{Operator}
use Rattle.ghost_model.specs.core.Query as query
use Rattle.ghost_model.specs.core.Values.{Value, Null, Number, Text, Row}
use Rattle.ghost_model.specs.core.Printed.{field_text}
use Rattle.ghost_model.specs.core.Split.{Public, is_open, is_closed, part_of, column_places, asked_value, rejoined_row, public_of, image, SpellsImage}
use Rattle.ghost_model.specs.core.Database.{database_of, integer_of, value_of_field, is_of_kind, order_of, holds, leads, records_of}
use Rattle.ghost_model.specs.refusals.LoadFaults.{LoadFault, Header, RowLimit, FieldCount, BadId, BadInt, BadChars, BadReference, place, load_fault, load_faults, value_faults, row_faults}
use Rattle.ghost_model.specs.examples.Groups.{nullable_notes_schema, nullable_notes}
use Rattle.ghost_model.specs.examples.Clinic.{id_column, number_column, text_column, hidden_text_column, key_column, patient_table, clinic_schema, clinic_catalog, clinic, number}

-- lines that each end with a line feed
abbrev pub lines : List (List ℕ) → List ℕ
lines each = flat_map (λ line. line ++ 10 ∷ []) each

-- the files that have these rows after their header
abbrev pub doctors : List (List ℕ) → List ℕ
doctors rows = lines (codes "id,specialty,country" ∷ rows)

abbrev pub patients : List (List ℕ) → List ℕ
patients rows = lines (codes "id,age,name" ∷ rows)

abbrev pub visits : List (List ℕ) → List ℕ
visits rows = lines (codes "id,day,purpose,doc,pat" ∷ rows)

abbrev pub doctor_file : List ℕ
doctor_file = doctors (codes "1,cardio,FR" ∷ codes "2,neuro,ES" ∷ codes "3,cardio,ES" ∷ [])

abbrev pub patient_file : List ℕ
patient_file = patients (codes "1,30,Ann" ∷ codes "2,41,Bob" ∷ [])

abbrev pub visit_file : List ℕ
visit_file = visits (codes "1,5,flu,1,1" ∷ codes "2,5,check,3,2" ∷ codes "3,9,flu,3,1" ∷ codes "4,2,flu,2,2" ∷ [])

abbrev pub clinic_files : List (List ℕ)
clinic_files = doctor_file ∷ patient_file ∷ visit_file ∷ []

-- the clinic's files spell its database and keep every rule; a visit leads to its doctor and its patient
pub record ClinicIsSpelled : Type 0 where
  pub spelled : database_of clinic_schema clinic_files ≡ clinic
  pub no_fault : load_faults clinic_schema clinic_files ≡ []
  pub to_doctor : leads clinic_schema clinic 2 2 0 ≡ Some 3
  pub to_patient : leads clinic_schema clinic 2 2 1 ≡ Some 2
  pub to_itself : leads clinic_schema clinic 2 4 2 ≡ Some 4
  pub not_upwards : leads clinic_schema clinic 0 1 2 ≡ None

-- the file of the notes whose topic and body may be NULL, with these rows
abbrev pub notes : List (List ℕ) → List (List ℕ)
notes rows = lines (codes "id,topic,body" ∷ rows) ∷ []

abbrev pub note_rows : List (List ℕ)
note_rows = codes "1,a,x" ∷ codes "2,,y" ∷ codes "3,a," ∷ codes "4,b,z" ∷ []

-- an empty field of a column that may be NULL is NULL, also in quotes
pub record NullIsSpelled : Type 0 where
  pub spelled : database_of nullable_notes_schema (notes note_rows) ≡ nullable_notes
  pub no_fault : load_faults nullable_notes_schema (notes note_rows) ≡ []
  pub in_quotes : database_of nullable_notes_schema (notes ((codes "1,a," ++ 34 ∷ 34 ∷ []) ∷ []))
      ≡ ((number 1 ∷ Text (codes "a") ∷ Null ∷ []) ∷ []) ∷ []
  pub no_identifier : load_fault nullable_notes_schema (notes (codes ",a,x" ∷ [])) ≡ Some (BadId (place 0 2 0))

-- what an INTEGER field spells
pub record IntegersOfFields : Type 0 where
  pub plain : integer_of (codes "41") ≡ Some (pos 41)
  pub sign_and_zeros : integer_of (codes "+0007") ≡ Some (pos 7)
  pub minus_zero : integer_of (codes "-0") ≡ Some (pos 0)
  pub many_digits : integer_of (codes "-00000000000000000000000000000001") ≡ Some (negsuc 0)
  pub least : integer_of (codes "-9223372036854775808") ≡ Some (negsuc 9223372036854775807)
  pub below_the_least : integer_of (codes "-9223372036854775809") ≡ None
  pub greatest : integer_of (codes "9223372036854775807") ≡ Some (pos 9223372036854775807)
  pub above_the_greatest : integer_of (codes "9223372036854775808") ≡ None
  pub empty : integer_of [] ≡ None
  pub a_plus_alone : integer_of (codes "+") ≡ None
  pub a_minus_alone : integer_of (codes "-") ≡ None
  pub two_signs : integer_of (codes "+-1") ≡ None
  pub a_blank : integer_of (codes " 1") ≡ None
  pub a_point : integer_of (codes "1.0") ≡ None

abbrev pub kinds : List Kind
kinds = Integer ∷ Chars 3 ∷ IntegerOrNull ∷ CharsOrNull 3 ∷ []

-- what a field spells in a column of each kind, and which faults it has
pub record ValuesOfFields : Type 0 where
  pub empty : map (λ kind. value_of_field kind []) kinds ≡ number 0 ∷ Text [] ∷ Null ∷ Null ∷ []
  pub digits : map (λ kind. value_of_field kind (codes "041")) kinds ≡ number 41 ∷ Text (codes "041") ∷ number 41 ∷ Text (codes "041") ∷ []
  pub the_word_null : map (λ kind. value_of_field kind (codes "NULL")) kinds
      ≡ number 0 ∷ Text (codes "NULL") ∷ number 0 ∷ Text (codes "NULL") ∷ []
  pub a_blank_is_not_empty : value_of_field (CharsOrNull 3) (codes " ") ≡ Text (codes " ")
  pub faults_of_an_empty_field : map (λ kind. value_faults (place 0 2 1) kind []) kinds
      ≡ (BadInt (place 0 2 1) ∷ []) ∷ [] ∷ [] ∷ [] ∷ []
  pub faults_of_the_word_null : map (λ kind. value_faults (place 0 2 1) kind (codes "NULL")) kinds
      ≡ (BadInt (place 0 2 1) ∷ []) ∷ (BadChars (place 0 2 1) ∷ []) ∷ (BadInt (place 0 2 1) ∷ []) ∷ (BadChars (place 0 2 1) ∷ []) ∷ []
  pub null_is_of : map (λ kind. is_of_kind kind Null) kinds ≡ false ∷ false ∷ true ∷ true ∷ []
  pub number_is_of : map (λ kind. is_of_kind kind (number 5)) kinds ≡ true ∷ false ∷ true ∷ false ∷ []
  pub text_is_of : map (λ kind. is_of_kind kind (Text (codes "abc"))) kinds ≡ false ∷ true ∷ false ∷ true ∷ []
  pub long_text_is_of : map (λ kind. is_of_kind kind (Text (codes "abcd"))) kinds ≡ replicate 4 false
  pub null_is_printed_as_nothing : field_text Null ≡ []

abbrev pub operators : List Operator
operators =
    query.Equal ∷ query.Unequal ∷ query.Less ∷ query.AtMost ∷ query.More ∷ query.AtLeast ∷ []

-- the operators by which two values compare
abbrev pub held : Value → Value → List Bool
held one other = map (λ operator. holds operator one other) operators

-- NULL is before all other values, and no comparison with it is true
pub record ComparisonsWithNull : Type 0 where
  pub before_the_least : order_of Null (Number (negsuc 9223372036854775807)) ≡ order.Less
  pub before_the_empty_text : order_of Null (Text []) ≡ order.Less
  pub behind_null : order_of (number 0) Null ≡ order.Greater
  pub beside_itself : order_of Null Null ≡ order.Equal
  pub first : held Null (number 5) ≡ replicate 6 false
  pub second : held (number 5) Null ≡ replicate 6 false
  pub both : held Null Null ≡ replicate 6 false
  pub first_beside_any : (operator : Operator) (value : Value) → holds operator Null value ≡ false
  pub second_beside_any : (operator : Operator) (value : Value) → holds operator value Null ≡ false
  pub first_beside_a_text : held Null (Text (codes "a")) ≡ replicate 6 false
  pub second_beside_a_text : held (Text (codes "a")) Null ≡ replicate 6 false
  pub less : held (number 2) (number 5) ≡ false ∷ true ∷ true ∷ true ∷ false ∷ false ∷ []
  pub equal : held (Text (codes "a")) (Text (codes "a")) ≡ true ∷ false ∷ false ∷ true ∷ false ∷ true ∷ []

-- what the records of a file are
pub record RecordsOfFiles : Type 0 where
  pub nothing : records_of [] ≡ []
  pub no_line_end_at_the_end : records_of (codes "a,b") ≡ (codes "a" ∷ codes "b" ∷ []) ∷ []
  pub three_line_ends : records_of (97 ∷ 13 ∷ 98 ∷ 10 ∷ 99 ∷ 13 ∷ 10 ∷ 100 ∷ [])
      ≡ (codes "a" ∷ []) ∷ (codes "b" ∷ []) ∷ (codes "c" ∷ []) ∷ (codes "d" ∷ []) ∷ []
  pub blank_lines : records_of (97 ∷ 10 ∷ 10 ∷ 10 ∷ 98 ∷ 10 ∷ []) ≡ (codes "a" ∷ []) ∷ (codes "b" ∷ []) ∷ []
  pub a_byte_order_mark : records_of (0xEF ∷ 0xBB ∷ 0xBF ∷ codes "id") ≡ (codes "id" ∷ []) ∷ []
  pub a_quote_inside : records_of (97 ∷ 34 ∷ 98 ∷ 10 ∷ []) ≡ ((97 ∷ 34 ∷ 98 ∷ []) ∷ []) ∷ []
  pub bytes_after_a_quoted_field : records_of (34 ∷ 97 ∷ 34 ∷ 98 ∷ 10 ∷ []) ≡ (codes "ab" ∷ []) ∷ []
  pub a_quoted_line_end : records_of (34 ∷ 97 ∷ 10 ∷ 98 ∷ 34 ∷ 10 ∷ []) ≡ ((97 ∷ 10 ∷ 98 ∷ []) ∷ []) ∷ []
  pub no_closing_quote : records_of (34 ∷ 97 ∷ 44 ∷ 98 ∷ []) ≡ (codes "a,b" ∷ []) ∷ []
  pub a_quoted_empty_field : records_of (34 ∷ 34 ∷ 10 ∷ []) ≡ ([] ∷ []) ∷ []

-- the first fault of the clinic with other rows
abbrev pub first_fault : (doctor_rows patient_rows visit_rows : List (List ℕ)) → Option LoadFault
first_fault doctor_rows patient_rows visit_rows =
    load_fault clinic_schema (doctors doctor_rows ∷ patients patient_rows ∷ visits visit_rows ∷ [])

-- the first fault of the clinic with another file of doctors
abbrev pub first_fault_of : (doctor_bytes : List ℕ) → Option LoadFault
first_fault_of doctor_bytes = load_fault clinic_schema (doctor_bytes ∷ patient_file ∷ visit_file ∷ [])

abbrev pub cardio : List ℕ
cardio = codes "1,cardio,FR"

abbrev pub ann : List ℕ
ann = codes "1,30,Ann"

-- the first record names the columns
pub record HeadersOfFiles : Type 0 where
  pub upper_case :
      first_fault_of (lines (codes "ID,Specialty,COUNTRY" ∷ cardio ∷ codes "2,neuro,ES" ∷ codes "3,cardio,ES" ∷ []))
      ≡ None
  pub no_record : first_fault_of [] ≡ Some (Header (place 0 1 0))
  pub blank_lines_alone : first_fault_of (10 ∷ 13 ∷ 10 ∷ []) ≡ Some (Header (place 0 1 0))
  pub another_name : first_fault_of (lines (codes "id,speciality,country" ∷ [])) ≡ Some (Header (place 0 1 0))
  pub another_first_name : first_fault_of (lines (codes "key,specialty,country" ∷ [])) ≡ Some (Header (place 0 1 0))
  pub another_order : first_fault_of (lines (codes "id,country,specialty" ∷ [])) ≡ Some (Header (place 0 1 0))
  pub too_few_names : first_fault_of (lines (codes "id,specialty" ∷ [])) ≡ Some (Header (place 0 1 0))
  pub too_many_names : first_fault_of (lines (codes "id,specialty,country," ∷ [])) ≡ Some (Header (place 0 1 0))
  pub no_row : first_fault [] [] [] ≡ None

-- each further rule broken alone
pub record OneRuleBroken : Type 0 where
  pub too_few_fields : first_fault (codes "1,cardio" ∷ []) [] [] ≡ Some (FieldCount (place 0 2 0))
  pub too_many_fields : first_fault (codes "1,cardio,FR," ∷ []) [] [] ≡ Some (FieldCount (place 0 2 0))
  pub another_number : first_fault (codes "2,cardio,FR" ∷ []) [] [] ≡ Some (BadId (place 0 2 0))
  pub the_number_in_other_digits : first_fault (codes "+1,cardio,FR" ∷ codes "002,neuro,ES" ∷ []) [] [] ≡ None
  pub no_number : first_fault (codes "one,cardio,FR" ∷ []) [] [] ≡ Some (BadId (place 0 2 0))
  pub above_the_greatest : first_fault [] (codes "1,9223372036854775808,Ann" ∷ []) [] ≡ Some (BadInt (place 1 2 1))
  pub an_empty_integer : first_fault [] (codes "1,,Ann" ∷ []) [] ≡ Some (BadInt (place 1 2 1))
  pub an_empty_text : first_fault [] (codes "1,30," ∷ []) [] ≡ None
  pub too_long : first_fault (cardio ∷ codes "2,cardiolog,ES" ∷ codes "3,cardio,ES" ∷ []) [] []
      ≡ Some (BadChars (place 0 3 1))
  pub no_character : first_fault ((codes "1,card" ++ 0xC3 ∷ 0xA9 ∷ codes ",FR") ∷ []) [] []
      ≡ Some (BadChars (place 0 2 1))
  pub a_line_end_within : first_fault ((codes "1," ++ 34 ∷ 97 ∷ 10 ∷ 34 ∷ codes ",FR") ∷ []) [] []
      ≡ Some (BadChars (place 0 2 1))
  pub blank_lines_are_not_counted : first_fault ([] ∷ cardio ∷ [] ∷ codes "2,cardiolog,ES" ∷ []) [] []
      ≡ Some (BadChars (place 0 3 1))
  pub no_such_doctor : load_fault clinic_schema (doctor_file ∷ patient_file ∷ visits (codes "1,5,flu,4,1" ∷ []) ∷ [])
      ≡ Some (BadReference (place 2 2 3))
  pub no_doctor_zero : first_fault (cardio ∷ []) (ann ∷ []) (codes "1,5,flu,0,1" ∷ [])
      ≡ Some (BadReference (place 2 2 3))
  pub no_doctor_below_zero : first_fault (cardio ∷ []) (ann ∷ []) (codes "1,5,flu,-1,1" ∷ [])
      ≡ Some (BadReference (place 2 2 3))
  pub no_patient : first_fault (cardio ∷ []) [] (codes "1,5,flu,1,1" ∷ []) ≡ Some (BadReference (place 2 2 4))
  pub the_last_row : row_faults 0 1000000 patient_table.columns (codes "1000000" ∷ codes "30" ∷ codes "Ann" ∷ []) ≡ []
  pub one_row_more : row_faults 0 1000001 patient_table.columns (codes "1000001" ∷ codes "30" ∷ codes "Ann" ∷ [])
      ≡ RowLimit (place 0 1000002 0) ∷ []

-- a schema whose first table holds the foreign key
abbrev pub holder_first : Schema
holder_first =
    record { name = codes "holder"; columns = id_column ∷ key_column (codes "held") 1 ∷ [] }
    ∷ record {
      name = codes "held";
      columns = id_column ∷ text_column (codes "word") 4 ∷ number_column (codes "count") ∷ [];
    }
    ∷ []

abbrev pub holder_fault : (holder_rows held_rows : List (List ℕ)) → Option LoadFault
holder_fault holder_rows held_rows =
    load_fault holder_first (lines (codes "id,held" ∷ holder_rows) ∷ lines (codes "id,word,count" ∷ held_rows) ∷ [])

-- two rules broken at once
pub record TwoRulesBroken : Type 0 where
  pub header_then_fields : first_fault_of (lines (codes "id,specialty" ∷ codes "7,cardio" ∷ []))
      ≡ Some (Header (place 0 1 0))
  pub row_limit_then_field_count : row_faults 0 1000001 patient_table.columns (codes "7" ∷ [])
      ≡ RowLimit (place 0 1000002 0) ∷ FieldCount (place 0 1000002 0) ∷ BadId (place 0 1000002 0) ∷ []
  pub field_count_then_number : first_fault (codes "7,cardio" ∷ []) [] [] ≡ Some (FieldCount (place 0 2 0))
  pub number_then_integer : first_fault [] (codes "7,old,Ann" ∷ []) [] ≡ Some (BadId (place 1 2 0))
  pub number_then_text : first_fault (codes ",cardiolog,FR" ∷ []) [] [] ≡ Some (BadId (place 0 2 0))
  pub integer_then_text : first_fault [] [] (codes "1,,checking up,1,1" ∷ []) ≡ Some (BadInt (place 2 2 1))
  pub text_then_integer : first_fault [] [] (codes "1,5,checking up,,1" ∷ []) ≡ Some (BadChars (place 2 2 2))
  pub text_then_next_record : first_fault (codes "1,cardiolog,FR" ∷ codes "2" ∷ []) [] []
      ≡ Some (BadChars (place 0 2 1))
  pub text_then_next_file : load_fault clinic_schema (doctors (codes "1,cardio,FRA" ∷ []) ∷ [] ∷ visit_file ∷ [])
      ≡ Some (BadChars (place 0 2 2))
  pub reference_after_all_files : holder_fault (codes "1,2" ∷ []) (codes "1,word,many" ∷ [])
      ≡ Some (BadInt (place 1 2 2))
  pub reference_alone : holder_fault (codes "1,1" ∷ codes "2,2" ∷ []) (codes "1,word,5" ∷ [])
      ≡ Some (BadReference (place 0 3 1))
  pub references_by_record : first_fault (cardio ∷ []) (ann ∷ []) (codes "1,5,flu,1,2" ∷ codes "2,5,flu,2,1" ∷ [])
      ≡ Some (BadReference (place 2 2 4))
  pub references_by_column : first_fault (cardio ∷ []) (ann ∷ []) (codes "1,5,flu,2,2" ∷ [])
      ≡ Some (BadReference (place 2 2 3))

-- columns of which every second one is hidden, and a row
abbrev pub mixed_columns : List Column
mixed_columns =
    id_column ∷ number_column (codes "count") ∷ hidden_text_column (codes "name") 4 ∷ text_column (codes "word") 4
    ∷ key_column (codes "held") 1 ∷ []

abbrev pub mixed_row : Row
mixed_row = number 1 ∷ number 5 ∷ Text (codes "Ann") ∷ Text (codes "ward") ∷ number 9 ∷ []

abbrev pub mixed_visible : Row
mixed_visible = number 5 ∷ Text (codes "ward") ∷ []

abbrev pub mixed_hidden : Row
mixed_hidden = Text (codes "Ann") ∷ number 9 ∷ []

-- the two parts of a row, and the row again
pub record PartsOfRows : Type 0 where
  pub visible : part_of is_open mixed_columns mixed_row ≡ mixed_visible
  pub hidden : part_of is_closed mixed_columns mixed_row ≡ mixed_hidden
  pub again : rejoined_row mixed_columns 1 mixed_visible mixed_hidden ≡ mixed_row
  pub a_value_is_missing : part_of is_open mixed_columns (number 1 ∷ number 5 ∷ []) ≡ number 5 ∷ []
  pub a_column_is_missing : part_of is_open (id_column ∷ number_column (codes "count") ∷ []) mixed_row ≡ number 5 ∷ []
  pub a_short_part : rejoined_row mixed_columns 1 (number 5 ∷ []) mixed_hidden
      ≡ number 1 ∷ number 5 ∷ Text (codes "Ann") ∷ []
  pub asked : asked_value (column_places is_open mixed_columns) mixed_visible 3 ≡ Text (codes "ward")

-- the clinic's image has 437 bytes. No public part makes its first 436
pub record NoShorterImage : Type 0 where
  pub last_byte :
      (public : Public) → SpellsImage clinic_catalog public (take 436 (image clinic_catalog (public_of clinic_schema clinic))) → ⊥
