-- Schemas of texts, and the faults of texts that mean none: the offset of the token at which a text leaves the grammar,
-- the place of each rule that is broken, and which of two broken rules is named.
use Rattle.std.specs.Prelude.{◌≡◌, ℕ, nat_le, true, false, length, List, [], ◌∷◌, ◌++◌, flat_map, replicate, codes, None, Ok, Err}
use Rattle.ghost_model.specs.readings.SchemaReading.{schema_reading}
use Rattle.ghost_model.specs.refusals.SchemaFaults.{most_schema_bytes, BadSyntax, OverLimit, DuplicateName, NoId, UnknownChild, TwoParents, Cycle, NotOneRoot, MeansSchema, IsSchemaFault}
use Rattle.ghost_model.specs.refusals.Grammar.{IsSyntaxFault}
use Rattle.ghost_model.specs.refusals.SchemaGrammar.{schema_spelling}
use Rattle.ghost_model.specs.examples.Tokens.{spaces}
use Rattle.ghost_model.specs.examples.Clinic.{clinic_schema, id_column, text_column, key_column}
use Rattle.ghost_model.specs.examples.Groups.{nullable_notes_schema}
use Rattle.ghost_model.specs.forms.Catalog.{canonical_text}
use Rattle.ghost_model.specs.core.Schema.{IntegerOrNull}

abbrev pub clinic_text : List ℕ
clinic_text =
    codes "CREATE TABLE doctor (id INTEGER PRIMARY KEY, specialty CHAR(8), country CHAR(2) HIDDEN);\n"
    ++ (codes "CREATE TABLE patient (id INTEGER PRIMARY KEY, age INTEGER, name CHAR(8) HIDDEN);\n"
    ++ (codes "CREATE TABLE visit (id INTEGER PRIMARY KEY, day INTEGER, purpose CHAR(8) HIDDEN, "
    ++ codes "doc INTEGER REFERENCES doctor(id) HIDDEN, pat INTEGER REFERENCES patient(id) HIDDEN);\n"))

-- a table of this name with its identifier and what follows it
abbrev pub with_id : List ℕ → List ℕ → List ℕ
with_id name more = codes "CREATE TABLE " ++ (name ++ (codes " (id INTEGER PRIMARY KEY" ++ (more ++ codes ");")))

abbrev pub two_tables : List ℕ → List ℕ → List ℕ
two_tables first second = with_id (codes "a") first ++ with_id (codes "b") second

-- the same bytes so many times
abbrev pub times : ℕ → List ℕ → List ℕ
times count bytes = flat_map (λ same. same) (replicate count bytes)

abbrev pub long_name : ℕ → List ℕ
long_name count = replicate count 97

pub record SchemasOfTexts : Type 0 where
  pub clinic : schema_reading clinic_text ≡ Ok clinic_schema
  pub small_letters_and_int :
      schema_reading (codes "create table ID(Id int primary key)\t;")
      ≡ Ok (record { name = codes "id"; columns = id_column ∷ [] } ∷ [])
  pub a_key_is_hidden_unasked :
      schema_reading (two_tables (codes ", a INT REFERENCES B") (codes ", c CHAR ( 0064 )"))
      ≡ Ok
      (record { name = codes "a"; columns = id_column ∷ key_column (codes "a") 1 ∷ [] }
      ∷ record { name = codes "b"; columns = id_column ∷ text_column (codes "c") 64 ∷ [] } ∷ [])
  pub columns_with_null :
      schema_reading (codes "CREATE TABLE note (id INTEGER PRIMARY KEY, topic CHAR(4) NULL, body CHAR(8) NULL HIDDEN);")
      ≡ Ok nullable_notes_schema
  pub numbers_with_null :
      schema_reading (with_id (codes "t") (codes ", c INT NULL, d INTEGER null HIDDEN"))
      ≡ Ok
      (record {
        name = codes "t";
        columns =
            id_column ∷ record { name = codes "c"; kind = IntegerOrNull; hidden = false; child = None }
            ∷ record { name = codes "d"; kind = IntegerOrNull; hidden = true; child = None } ∷ [];
      } ∷ [])
  pub null_in_its_own_text :
      canonical_text nullable_notes_schema
      ≡ codes "CREATE TABLE note (id INTEGER PRIMARY KEY, topic CHAR(4) NULL, body CHAR(8) NULL HIDDEN);\n"
  pub longest_name :
      schema_reading (with_id (long_name 32) [])
      ≡ Ok (record { name = long_name 32; columns = id_column ∷ [] } ∷ [])

-- the relations themselves, on a text of each kind
pub record RelationsOfSchemas : Type 0 where
  pub meant : MeansSchema clinic_text clinic_schema
  pub no_fault : IsSchemaFault clinic_text (NotOneRoot 1) → ⊥
  pub the_first_fault : IsSchemaFault (codes "CREATE TABLE t (a INT, a INT);") (DuplicateName 0 1)
  pub no_later_fault : IsSchemaFault (codes "CREATE TABLE t (a INT, a INT);") (NoId 0) → ⊥
  pub a_syntax_fault : IsSyntaxFault schema_spelling (codes "CREATE TABLE t ();") 16
  pub at_no_other_token : IsSyntaxFault schema_spelling (codes "CREATE TABLE t ();") 15 → ⊥
  pub bytes_within : nat_le (length (spaces 65536)) most_schema_bytes ≡ true
  pub one_byte_over : nat_le (length (spaces 65537)) most_schema_bytes ≡ false

pub record SyntaxFaultsOfSchemas : Type 0 where
  pub no_column : schema_reading (codes "CREATE TABLE t ();") ≡ Err (BadSyntax 16)
  pub the_end : schema_reading (codes "CREATE TABLE t (id INTEGER) ") ≡ Err (BadSyntax 28)
  pub white_space_before : schema_reading (codes " \n TABLE t") ≡ Err (BadSyntax 3)
  pub a_reserved_word : schema_reading (codes "CREATE TABLE group (id INTEGER);") ≡ Err (BadSyntax 13)
  pub a_word_of_queries : schema_reading (codes "CREATE TABLE in (id INTEGER);") ≡ Err (BadSyntax 13)
  pub a_column_of_such_a_word : schema_reading (codes "CREATE TABLE t (id INTEGER, Or INTEGER);") ≡ Err (BadSyntax 28)
  pub digits_before_a_name : schema_reading (codes "CREATE TABLE 1st (id INTEGER);") ≡ Err (BadSyntax 13)
  pub a_sign : schema_reading (codes "CREATE TABLE t (c CHAR(-1));") ≡ Err (BadSyntax 23)
  pub half_a_key : schema_reading (codes "CREATE TABLE t (id INT PRIMARY, x INT);") ≡ Err (BadSyntax 30)
  pub null : schema_reading (with_id (codes "t") (codes " NULL")) ≡ Err (BadSyntax 39)
  pub null_before_a_reference : schema_reading (with_id (codes "t") (codes ", c INT NULL REFERENCES u")) ≡ Err (BadSyntax 51)
  pub null_after_a_reference : schema_reading (with_id (codes "t") (codes ", c INT REFERENCES u NULL")) ≡ Err (BadSyntax 59)
  pub null_after_hidden : schema_reading (with_id (codes "t") (codes ", c INT HIDDEN NULL")) ≡ Err (BadSyntax 53)
  pub null_twice : schema_reading (with_id (codes "t") (codes ", c CHAR(2) NULL NULL")) ≡ Err (BadSyntax 55)
  pub not_null : schema_reading (with_id (codes "t") (codes ", c INT NOT NULL")) ≡ Err (BadSyntax 46)
  pub a_key_of_text : schema_reading (codes "CREATE TABLE t (c CHAR(2) PRIMARY KEY);") ≡ Err (BadSyntax 26)
  pub a_text_that_refers : schema_reading (codes "CREATE TABLE t (c CHAR(2) REFERENCES u);") ≡ Err (BadSyntax 26)
  pub hidden_stands_last : schema_reading (codes "CREATE TABLE t (c INT HIDDEN REFERENCES u);") ≡ Err (BadSyntax 29)
  pub references_stands_after : schema_reading (codes "CREATE TABLE t (c INT REFERENCES u PRIMARY KEY);") ≡ Err (BadSyntax 35)
  pub not_the_identifier : schema_reading (codes "CREATE TABLE t (c INT REFERENCES u(no));") ≡ Err (BadSyntax 35)
  pub a_comma_too_many : schema_reading (codes "CREATE TABLE t (id INT,);") ≡ Err (BadSyntax 23)
  pub no_semicolon : schema_reading (codes "CREATE TABLE t (id INT) CREATE") ≡ Err (BadSyntax 24)
  pub a_comment : schema_reading (codes "-- t\nCREATE TABLE t (id INT);") ≡ Err (BadSyntax 0)
  pub an_open_literal : schema_reading (codes "CREATE TABLE t (id INT 'x);") ≡ Err (BadSyntax 23)
  pub before_a_limit : schema_reading (codes "CREATE TABLE t (c CHAR(0)) t") ≡ Err (BadSyntax 27)

pub record LimitsOfSchemas : Type 0 where
  pub thirteen_tables : schema_reading (times 13 (with_id (codes "t") [])) ≡ Err OverLimit
  pub twelve_tables : schema_reading (times 12 (with_id (codes "t") [])) ≡ Err (DuplicateName 1 0)
  pub twenty_five_columns : schema_reading (with_id (codes "t") (times 24 (codes ",c INT"))) ≡ Err OverLimit
  pub twenty_four_columns : schema_reading (with_id (codes "t") (times 23 (codes ",c INT"))) ≡ Err (DuplicateName 0 2)
  pub name_of_a_table : schema_reading (with_id (long_name 33) []) ≡ Err OverLimit
  pub name_of_a_column : schema_reading (with_id (codes "t") (codes ", " ++ (long_name 33 ++ codes " INT"))) ≡ Err OverLimit
  pub name_of_a_text_column : schema_reading (with_id (codes "t") (codes ", " ++ (long_name 33 ++ codes " CHAR(1)"))) ≡ Err OverLimit
  pub name_that_is_referred_to : schema_reading (with_id (codes "t") (codes ", c INT REFERENCES " ++ long_name 33)) ≡ Err OverLimit
  pub no_character : schema_reading (with_id (codes "t") (codes ", c CHAR(0)")) ≡ Err OverLimit
  pub sixty_five_characters : schema_reading (with_id (codes "t") (codes ", c CHAR(65)")) ≡ Err OverLimit
  pub very_many_characters : schema_reading (with_id (codes "t") (codes ", c CHAR(18446744073709551617)")) ≡ Err OverLimit
  pub before_a_repeated_name : schema_reading (two_tables (codes ", c INT, c INT") (codes ", c CHAR(00)")) ≡ Err OverLimit

pub record NamesOfSchemas : Type 0 where
  pub a_table_twice : schema_reading (times 2 (with_id (codes "t") (codes ", c INT, c INT"))) ≡ Err (DuplicateName 0 2)
  pub a_table_before_its_columns :
      schema_reading (with_id (codes "t") [] ++ with_id (codes "T") (codes ", c INT, c INT")) ≡ Err (DuplicateName 1 0)
  pub a_column_twice : schema_reading (two_tables [] (codes ", c INT, d INT, C CHAR(1)")) ≡ Err (DuplicateName 1 3)
  pub before_an_identifier : schema_reading (codes "CREATE TABLE t (a INT, a INT);") ≡ Err (DuplicateName 0 1)
  pub a_second_identifier : schema_reading (with_id (codes "t") (codes ", id INT PRIMARY KEY")) ≡ Err (DuplicateName 0 1)
  pub another_name : schema_reading (codes "CREATE TABLE t (key1 INT PRIMARY KEY);") ≡ Err (NoId 0)
  pub no_key : schema_reading (codes "CREATE TABLE t (id INT);") ≡ Err (NoId 0)
  pub a_text : schema_reading (codes "CREATE TABLE t (id CHAR(3));") ≡ Err (NoId 0)
  pub an_identifier_with_null : schema_reading (codes "CREATE TABLE t (id INTEGER NULL);") ≡ Err (NoId 0)
  pub a_hidden_identifier : schema_reading (with_id (codes "t") (codes " HIDDEN")) ≡ Err (NoId 0)
  pub an_identifier_that_refers : schema_reading (with_id (codes "t") (codes " REFERENCES nowhere")) ≡ Err (NoId 0)
  pub a_later_key : schema_reading (two_tables [] (codes ", c INT PRIMARY KEY")) ≡ Err (NoId 1)
  pub before_an_unknown_table :
      schema_reading (two_tables (codes ", c INT REFERENCES nowhere") (codes ", d INT PRIMARY KEY")) ≡ Err (NoId 1)
  pub an_unknown_table : schema_reading (with_id (codes "t") (codes ", c INT REFERENCES nowhere(id)")) ≡ Err (UnknownChild 0 1)
  pub the_first_unknown_table :
      schema_reading (two_tables [] (codes ", a INT REFERENCES a, c INT REFERENCES d, e INT REFERENCES f"))
      ≡ Err (UnknownChild 1 2)
  pub a_column_is_no_table : schema_reading (with_id (codes "t") (codes ", c INT REFERENCES id")) ≡ Err (UnknownChild 0 1)

pub record TreesOfSchemas : Type 0 where
  pub before_two_parents :
      schema_reading (two_tables (codes ", c INT REFERENCES b, d INT REFERENCES b") (codes ", c INT REFERENCES d"))
      ≡ Err (UnknownChild 1 1)
  pub two_parents :
      schema_reading (two_tables (codes ", c INT REFERENCES c") (codes ", c INT REFERENCES c") ++ with_id (codes "c") [])
      ≡ Err (TwoParents 2)
  pub one_table_twice : schema_reading (two_tables (codes ", c INT REFERENCES b, d INT REFERENCES b") []) ≡ Err (TwoParents 1)
  pub the_child_that_is_declared_first :
      schema_reading
      (with_id (codes "r") (codes ", x INT REFERENCES c, y INT REFERENCES b, z INT REFERENCES c, w INT REFERENCES b")
      ++ (with_id (codes "b") [] ++ with_id (codes "c") []))
      ≡ Err (TwoParents 1)
  pub before_a_cycle : schema_reading (with_id (codes "t") (codes ", c INT REFERENCES t, d INT REFERENCES t")) ≡ Err (TwoParents 0)
  pub each_other : schema_reading (two_tables (codes ", c INT REFERENCES b") (codes ", c INT REFERENCES a")) ≡ Err (Cycle 0)
  pub itself : schema_reading (with_id (codes "t") (codes ", c INT REFERENCES t")) ≡ Err (Cycle 0)
  pub the_lowest_on_the_cycle :
      schema_reading (two_tables [] (codes ", a INT REFERENCES a, b INT REFERENCES b")) ≡ Err (Cycle 1)
  pub before_the_roots :
      schema_reading
      (two_tables [] []
      ++ (with_id (codes "c") (codes ", x INT REFERENCES d")
      ++ (with_id (codes "d") (codes ", x INT REFERENCES e") ++ with_id (codes "e") (codes ", x INT REFERENCES c"))))
      ≡ Err (Cycle 2)
  pub two_roots : schema_reading (two_tables [] []) ≡ Err (NotOneRoot 2)
  pub no_table : schema_reading [] ≡ Err (NotOneRoot 0)
  pub white_space : schema_reading (codes " \t\n\r ") ≡ Err (NotOneRoot 0)
