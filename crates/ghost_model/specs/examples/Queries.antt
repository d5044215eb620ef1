-- What telling query texts mean over the clinic's schema and over notes, and why others are refused.
use Rattle.std.specs.Prelude.{◌≡◌, ℕ, negsuc, List, [], ◌∷◌, ◌++◌, map, replicate, codes, Some, None, Result, Ok, Err}
use Rattle.std.specs.List.{range_with_len}
use Rattle.ghost_model.specs.core.Values.{Number, Text}
use Rattle.ghost_model.specs.core.Query.{Field, Compared, IsNull, IsNotNull, Member, Condition, OneOf, Query, Equal, Unequal, Less, AtMost, More, AtLeast, tested, compared, Join, top_of}
use Rattle.ghost_model.specs.refusals.Grammar.{IsSyntaxFault}
use Rattle.ghost_model.specs.refusals.QueryGrammar.{spelling}
use Rattle.ghost_model.specs.refusals.QueryMeaning.{Refusal, Syntax, Limit, UnknownTable, UnknownColumn, Ambiguous, KindMismatch, BadLiteral, NotLinked, MixedTables, field, Means, IsRefused}
use Rattle.ghost_model.specs.readings.QueryReading.{reading}
use Rattle.ghost_model.specs.examples.Clinic.{clinic_schema, note_schema, number}
use Rattle.ghost_model.specs.examples.Groups.{alone, either, is_number, nullable_notes_schema, notes_where, topic_or_body, any_topic, mixed_query, days_query, two_groups_query, doctors_query, two_countries, number_or_country}

abbrev pub reads : List ℕ → Result Query Refusal
reads text = reading clinic_schema text

abbrev pub query : List ℕ → List Field → List Condition → Query
query from select conditions = record { from = from; select = select; conditions = conditions }

-- one refused text for the grammar and for each rule but the limits
pub record OneRefusalEach : Type 0 where
  pub syntax : reads (codes "SELECT age patient") ≡ Err (Syntax 11)
  pub table : reads (codes "SELECT x FROM nowhere") ≡ Err UnknownTable
  pub column : reads (codes "SELECT x FROM visit") ≡ Err UnknownColumn
  pub ambiguous : reads (codes "SELECT id FROM visit, doctor") ≡ Err Ambiguous
  pub kind : reads (codes "SELECT age FROM patient WHERE age = 'x'") ≡ Err KindMismatch
  pub literal : reads (codes "SELECT age FROM patient WHERE age = 9223372036854775808") ≡ Err BadLiteral
  pub unlinked : reads (codes "SELECT age FROM patient, doctor") ≡ Err NotLinked
  pub mixed : reads (codes "SELECT visit.id FROM visit, doctor WHERE doc = doctor.id AND (day = 9 OR country = 'FR')") ≡ Err MixedTables

-- what the texts mean that the clinic is asked most
pub record ClinicQueries : Type 0 where
  pub visible_and_hidden_over_a_join : reads (codes "SELECT visit.id, specialty FROM visit, doctor WHERE doc = doctor.id AND specialty = 'cardio' AND purpose = 'flu'")
      ≡ Ok (query (2 ∷ 0 ∷ []) (field 2 0 ∷ field 0 1 ∷ [])
      (Join (field 2 3) (field 0 0) ∷ compared (field 0 1) Equal (Text (codes "cardio")) ∷ compared (field 2 2) Equal (Text (codes "flu")) ∷ []))
  pub hidden_alone : reads (codes "SELECT name FROM patient WHERE name = 'Ann'")
      ≡ Ok (query (1 ∷ []) (field 1 2 ∷ []) (compared (field 1 2) Equal (Text (codes "Ann")) ∷ []))
  pub visible_alone : reads (codes "SELECT visit.id, day FROM visit WHERE day >= 2")
      ≡ Ok (query (2 ∷ []) (field 2 0 ∷ field 2 1 ∷ []) (compared (field 2 1) AtLeast (number 2) ∷ []))
  pub below_the_root : reads (codes "SELECT doctor.id FROM doctor WHERE country = 'ES'")
      ≡ Ok (query (0 ∷ []) (field 0 0 ∷ []) (compared (field 0 2) Equal (Text (codes "ES")) ∷ []))
  pub identifiers_alone : reads (codes " SELECT patient.id FROM patient") ≡ Ok (query (1 ∷ []) (field 1 0 ∷ []) [])
  pub lowest_integer : reads (codes "SELECT patient.id FROM patient WHERE age >= -9223372036854775808")
      ≡ Ok (query (1 ∷ []) (field 1 0 ∷ [])
      (compared (field 1 1) AtLeast (Number (negsuc 9223372036854775807)) ∷ []))
  pub hidden_over_a_join : reads (codes "SELECT visit.id FROM visit, doctor WHERE doc = doctor.id AND country = 'ES'")
      ≡ Ok (query (2 ∷ 0 ∷ []) (field 2 0 ∷ [])
      (Join (field 2 3) (field 0 0) ∷ compared (field 0 2) Equal (Text (codes "ES")) ∷ []))
  pub of_the_notes : reading note_schema (codes "SELECT body FROM note WHERE topic = 'a'")
      ≡ Ok (query (0 ∷ []) (field 0 2 ∷ []) (compared (field 0 1) Equal (Text (codes "a")) ∷ []))
  pub identifiers_of_the_notes : reading note_schema (codes "SELECT id FROM note") ≡ Ok (query (0 ∷ []) (field 0 0 ∷ []) [])
  pub top_is_the_root : top_of clinic_schema (query (0 ∷ 2 ∷ 1 ∷ []) [] []) ≡ Some 2
  pub top_is_below_the_root : top_of clinic_schema (query (1 ∷ []) [] []) ≡ Some 1
  pub no_top_of_two : top_of clinic_schema (query (0 ∷ 1 ∷ []) [] []) ≡ None

-- the relations themselves, on a text of each kind: its one meaning or its one refusal, and where its syntax fault stands
pub record RelationsOfQueries : Type 0 where
  pub meant : Means clinic_schema (codes "SELECT age FROM patient") (query (1 ∷ []) (field 1 1 ∷ []) [])
  pub not_meant_otherwise : Means clinic_schema (codes "SELECT age FROM patient") (query (1 ∷ []) (field 1 0 ∷ []) []) → ⊥
  pub not_refused : IsRefused clinic_schema (codes "SELECT age FROM patient") Limit → ⊥
  pub refused_by_the_first_rule : IsRefused clinic_schema (codes "SELECT x, nowhere.id FROM visit") UnknownTable
  pub not_by_a_later_rule : IsRefused clinic_schema (codes "SELECT x, nowhere.id FROM visit") UnknownColumn → ⊥
  pub refused_by_the_last_rule : IsRefused clinic_schema (codes "SELECT visit.id FROM visit, doctor WHERE doc = doctor.id AND (day = 9 OR specialty = 'x')") MixedTables
  pub not_by_the_last_rule : IsRefused clinic_schema (codes "SELECT visit.id FROM visit, doctor WHERE (day = 9 OR specialty = 'x')") MixedTables → ⊥
  pub a_syntax_fault : IsSyntaxFault spelling (codes "SELECT age patient") 11
  pub at_no_other_token : IsSyntaxFault spelling (codes "SELECT age patient") 7 → ⊥
  pub at_no_other_byte : IsSyntaxFault spelling (codes "SELECT age patient") 12 → ⊥
  pub at_the_end : IsSyntaxFault spelling (codes "SELECT age FROM  ") 17
  pub inside_a_group : IsSyntaxFault spelling (codes "SELECT age FROM patient WHERE (age = 1 AND id = 2)") 39
  pub no_syntax_fault : IsSyntaxFault spelling (codes "SELECT age FROM patient") 23 → ⊥

-- one meaning may be spelled in several ways
pub record QuerySpellings : Type 0 where
  pub star_takes_the_tables_as_they_stand : reads (codes "SELECT * FROM patient, visit WHERE patient.id = pat")
      ≡ Ok (query (1 ∷ 2 ∷ []) (field 1 0 ∷ field 1 1 ∷ field 1 2 ∷ field 2 0 ∷ field 2 1 ∷ field 2 2 ∷ field 2 3 ∷ field 2 4 ∷ [])
      (Join (field 1 0) (field 2 4) ∷ []))
  pub words_without_case : reads (codes "select Patient.AGE from PATIENT wHere Name <> 'Ann'")
      ≡ Ok (query (1 ∷ []) (field 1 1 ∷ []) (compared (field 1 2) Unequal (Text (codes "Ann")) ∷ []))
  pub between_is_two_conditions : reads (codes "SELECT id FROM visit WHERE day BETWEEN -3 AND +4 AND day < 5")
      ≡ Ok (query (2 ∷ []) (field 2 0 ∷ [])
      (compared (field 2 1) AtLeast (Number (negsuc 2)) ∷ compared (field 2 1) AtMost (number 4) ∷ compared (field 2 1) Less (number 5) ∷ []))
  pub between_texts : reads (codes "SELECT id FROM patient WHERE name BETWEEN 'A' AND 'C'")
      ≡ Ok (query (1 ∷ []) (field 1 0 ∷ [])
      (compared (field 1 2) AtLeast (Text (codes "A")) ∷ compared (field 1 2) AtMost (Text (codes "C")) ∷ []))
  pub no_space_where_none_is_needed : reads (codes "SELECT age,id FROM patient WHERE age<=1AND age>0002")
      ≡ Ok (query (1 ∷ []) (field 1 1 ∷ field 1 0 ∷ [])
      (compared (field 1 1) AtMost (number 1) ∷ compared (field 1 1) More (number 2) ∷ []))
  pub a_sign_is_a_token : reads (codes "SELECT age FROM patient WHERE age = - 5 AND age = -0")
      ≡ Ok (query (1 ∷ []) (field 1 1 ∷ [])
      (compared (field 1 1) Equal (Number (negsuc 4)) ∷ compared (field 1 1) Equal (number 0) ∷ []))
  pub points_are_tokens : reads (codes "SELECT visit . id FROM visit") ≡ Ok (query (2 ∷ []) (field 2 0 ∷ []) [])
  pub a_quote_stands_twice : reads (codes "SELECT age FROM patient WHERE name = 'it''s'")
      ≡ Ok (query (1 ∷ []) (field 1 1 ∷ []) (compared (field 1 2) Equal (Text (codes "it's")) ∷ []))
  pub a_quote_counts_once : reads (codes "SELECT age FROM patient WHERE name = ''''''''''''''''''")
      ≡ Ok (query (1 ∷ []) (field 1 1 ∷ []) (compared (field 1 2) Equal (Text (codes "''''''''")) ∷ []))
  pub a_join_may_be_repeated : reads (codes "SELECT day FROM visit, doctor WHERE doctor.id = doc AND visit.doc = doctor.id")
      ≡ Ok (query (2 ∷ 0 ∷ []) (field 2 1 ∷ [])
      (Join (field 0 0) (field 2 3) ∷ Join (field 2 3) (field 0 0) ∷ []))
  pub columns_may_be_repeated : reads (codes "SELECT age, patient.age FROM patient")
      ≡ Ok (query (1 ∷ []) (field 1 1 ∷ field 1 1 ∷ []) [])
  pub three_tables : reads (codes "SELECT country, name FROM doctor, visit, patient WHERE pat = patient.id AND doc = doctor.id")
      ≡ Ok (query (0 ∷ 2 ∷ 1 ∷ []) (field 0 2 ∷ field 1 2 ∷ [])
      (Join (field 2 4) (field 1 0) ∷ Join (field 2 3) (field 0 0) ∷ []))
  pub keys_take_integers : reads (codes "SELECT doc FROM visit WHERE pat = 2 AND id > 1")
      ≡ Ok (query (2 ∷ []) (field 2 3 ∷ [])
      (compared (field 2 4) Equal (number 2) ∷ compared (field 2 0) More (number 1) ∷ []))

abbrev pub reads_notes : List ℕ → Result Query Refusal
reads_notes text = reading nullable_notes_schema text

-- the identifiers of the notes under conditions
abbrev pub notes_under : List Condition → Query
notes_under conditions = query (0 ∷ []) (field 0 0 ∷ []) conditions

-- what IS NULL and IS NOT NULL mean, and where the words may not stand
pub record TestsOfNull : Type 0 where
  pub null_and_not_null : reads_notes (codes "SELECT id, topic FROM note WHERE body IS NOT NULL AND topic IS NULL")
      ≡ Ok (query (0 ∷ []) (field 0 0 ∷ field 0 1 ∷ []) (alone (field 0 2) IsNotNull ∷ alone (field 0 1) IsNull ∷ []))
  pub words_without_case : reads_notes (codes "SELECT id FROM note WHERE note.body is Not null")
      ≡ Ok (notes_under (alone (field 0 2) IsNotNull ∷ []))
  pub beside_a_comparison : reads_notes (codes "SELECT id FROM note WHERE topic BETWEEN 'a' AND 'b' AND body IS NULL")
      ≡ Ok (notes_under
      (compared (field 0 1) AtLeast (Text (codes "a")) ∷ compared (field 0 1) AtMost (Text (codes "b")) ∷ alone (field 0 2) IsNull ∷ []))
  pub of_a_column_without_null : reads (codes "SELECT id FROM patient WHERE id IS NULL")
      ≡ Ok (query (1 ∷ []) (field 1 0 ∷ []) (alone (field 1 0) IsNull ∷ []))
  pub null_is_no_literal : reads_notes (codes "SELECT id FROM note WHERE topic = NULL") ≡ Err (Syntax 34)
  pub a_text_after_is : reads_notes (codes "SELECT id FROM note WHERE topic IS 'x'") ≡ Err (Syntax 35)
  pub a_text_after_not : reads_notes (codes "SELECT id FROM note WHERE topic IS NOT 'x'") ≡ Err (Syntax 39)
  pub not_without_is : reads_notes (codes "SELECT id FROM note WHERE topic NOT NULL") ≡ Err (Syntax 32)
  pub not_twice : reads_notes (codes "SELECT id FROM note WHERE topic IS NOT NOT NULL") ≡ Err (Syntax 39)
  pub null_is_no_name : reads_notes (codes "SELECT null FROM note") ≡ Err (Syntax 7)
  pub unknown_column : reads_notes (codes "SELECT id FROM note WHERE x IS NULL") ≡ Err UnknownColumn
  pub each_counts : reads_notes (codes "SELECT id FROM note WHERE id IS NULL AND id IS NULL AND id IS NULL AND id IS NULL AND id IS NULL AND id IS NULL AND id IS NULL AND id IS NULL AND id IS NULL AND id IS NULL AND id IS NULL AND id IS NULL AND id IS NULL AND id IS NULL AND id IS NULL AND id IS NULL AND id IS NULL")
      ≡ Err Limit
  pub sixteen : reads_notes (codes "SELECT id FROM note WHERE id IS NULL AND id IS NULL AND id IS NULL AND id IS NULL AND id IS NULL AND id IS NULL AND id IS NULL AND id IS NULL AND id IS NULL AND id IS NULL AND id IS NULL AND id IS NULL AND id IS NULL AND id IS NULL AND id IS NULL AND id IS NULL")
      ≡ Ok (notes_under (replicate 16 (alone (field 0 0) IsNull)))

-- a text over the notes that selects the identifiers under what stands behind WHERE
abbrev pub reads_notes_where : List ℕ → Result Query Refusal
reads_notes_where conditions = reads_notes (codes "SELECT id FROM note WHERE " ++ conditions)

abbrev pub number_is : (column wanted : ℕ) → Member
number_is column wanted = tested (field 0 column) (Compared Equal (number wanted))

-- what IN and OR mean, and what their limits count
pub record GroupsOfTexts : Type 0 where
  pub a_value_or_null : reads_notes_where (codes "(topic = 'a' OR body IS NULL)") ≡ Ok (notes_where topic_or_body)
  pub a_list_of_one : reads_notes_where (codes "topic IN ('a')") ≡ Ok (notes_under (compared (field 0 1) Equal (Text (codes "a")) ∷ []))
  pub a_list : reads_notes_where (codes "id IN (7, -8, +7)")
      ≡ Ok (notes_under (OneOf (number_is 0 7) (tested (field 0 0) (Compared Equal (Number (negsuc 7))) ∷ number_is 0 7 ∷ []) ∷ []))
  pub a_list_in_a_group : reads_notes_where (codes "(topic IS NULL OR topic IN ('a','b') OR topic IS NOT NULL)") ≡ Ok (notes_where any_topic)
  pub lists_alone_in_a_group : reads_notes_where (codes "(id IN (1, 2) OR note.id IN (3))")
      ≡ Ok (notes_under (OneOf (number_is 0 1) (number_is 0 2 ∷ number_is 0 3 ∷ []) ∷ []))
  pub words_without_case : reads_notes_where (codes "(Id iN (1) oR ID Is nOt Null)")
      ≡ Ok (notes_under (OneOf (number_is 0 1) (tested (field 0 0) IsNotNull ∷ []) ∷ []))
  pub no_space_where_none_is_needed : reads_notes_where (codes "id IN(1)AND(id>2OR id<1)AND id=4")
      ≡ Ok (notes_under
      (compared (field 0 0) Equal (number 1) ∷ either (field 0 0) (Compared More (number 2)) (field 0 0) (Compared Less (number 1))
      ∷ compared (field 0 0) Equal (number 4) ∷ []))
  pub a_mixed_group : reads (codes "SELECT visit.id FROM visit WHERE (day = 9 OR purpose = 'check')") ≡ Ok mixed_query
  pub days : reads (codes "SELECT visit.id FROM visit WHERE day IN (2, 9)") ≡ Ok days_query
  pub two_groups : reads (codes "SELECT visit.id FROM visit WHERE day IN (9, 2) AND day >= 2") ≡ Ok two_groups_query
  pub countries : reads (codes "SELECT visit.id FROM visit, doctor WHERE doc = doctor.id AND country IN ('FR', 'DE')")
      ≡ Ok (doctors_query two_countries)
  pub below_the_top_table : reads (codes "SELECT visit.id FROM visit, doctor WHERE doc = doctor.id AND (doctor.id = 1 OR country = 'ES')")
      ≡ Ok (doctors_query number_or_country)
  pub two_keys : reads (codes "SELECT visit.id FROM visit, doctor WHERE doc = doctor.id AND (doc = 1 OR pat = 2)")
      ≡ Ok (doctors_query (either (field 2 3) (is_number 1) (field 2 4) (is_number 2)))
  pub each_literal_has_its_kind : reads_notes_where (codes "topic IN ('abcde', 1)") ≡ Err KindMismatch
  pub each_literal_is_short : reads_notes_where (codes "topic IN ('a', 'abcde')") ≡ Err BadLiteral
  pub each_member_has_its_column : reads_notes_where (codes "(id = 1 OR x IN (1))") ≡ Err UnknownColumn
  pub sixteen_in_a_list : reads_notes_where (codes "id IN (1, 2, 3, 4, 5, 6, 7, 8, 9, 10, 11, 12, 13, 14, 15, 16)")
      ≡ Ok (notes_under (OneOf (number_is 0 1) (map (number_is 0) (range_with_len 2 15)) ∷ []))
  pub seventeen_in_a_list : reads_notes_where (codes "id IN (1, 2, 3, 4, 5, 6, 7, 8, 9, 10, 11, 12, 13, 14, 15, 16, 17)") ≡ Err Limit
  pub fourteen_beside_between : reads_notes_where (codes "id IN (1, 2, 3, 4, 5, 6, 7, 8, 9, 10, 11, 12, 13, 14) AND id BETWEEN 1 AND 2")
      ≡ Ok (notes_under (OneOf (number_is 0 1) (map (number_is 0) (range_with_len 2 13)) ∷ compared (field 0 0) AtLeast (number 1) ∷ compared (field 0 0) AtMost (number 2) ∷ []))
  pub fifteen_beside_between : reads_notes_where (codes "id IN (1, 2, 3, 4, 5, 6, 7, 8, 9, 10, 11, 12, 13, 14, 15) AND id BETWEEN 1 AND 2") ≡ Err Limit
  pub seventeen_in_a_group : reads_notes_where (codes "(id IN (1, 2, 3, 4, 5, 6, 7, 8, 9, 10, 11, 12, 13, 14, 15) OR topic = 'a' OR body IS NULL)") ≡ Err Limit
  pub syntax_before_limit : reads_notes_where (codes "id IN (1, 2, 3, 4, 5, 6, 7, 8, 9, 10, 11, 12, 13, 14, 15, 16, 17") ≡ Err (Syntax 90)

-- where the faults of IN and OR stand
pub record FaultsOfGroups : Type 0 where
  pub one_member_in_parentheses : reads_notes_where (codes "(topic = 'a')") ≡ Err (Syntax 38)
  pub one_list_in_parentheses : reads_notes_where (codes "(id IN (1, 2))") ≡ Err (Syntax 39)
  pub an_empty_list : reads_notes_where (codes "topic IN ()") ≡ Err (Syntax 36)
  pub no_list : reads_notes_where (codes "topic IN 'a'") ≡ Err (Syntax 35)
  pub not_in : reads_notes_where (codes "topic NOT IN ('a')") ≡ Err (Syntax 32)
  pub or_without_parentheses : reads_notes_where (codes "topic = 'a' OR topic = 'b'") ≡ Err (Syntax 38)
  pub null_in_a_list : reads_notes_where (codes "topic IN (NULL)") ≡ Err (Syntax 36)
  pub nothing_after_a_comma : reads_notes_where (codes "topic IN ('a',)") ≡ Err (Syntax 40)
  pub no_comma_in_a_list : reads_notes_where (codes "id IN (1 2)") ≡ Err (Syntax 35)
  pub a_column_in_a_list : reads_notes_where (codes "id IN (topic)") ≡ Err (Syntax 33)
  pub a_sign_before_a_text : reads_notes_where (codes "id IN (1, -'x')") ≡ Err (Syntax 37)
  pub a_list_without_end : reads_notes_where (codes "id IN (1, 2") ≡ Err (Syntax 37)
  pub between_in_a_group : reads_notes_where (codes "(id BETWEEN 1 AND 2 OR id = 3)") ≡ Err (Syntax 30)
  pub a_join_in_a_group : reads_notes_where (codes "(id = 1 OR id = topic)") ≡ Err (Syntax 42)
  pub a_group_in_a_group : reads_notes_where (codes "(id = 1 OR (id = 2 OR id = 3))") ≡ Err (Syntax 37)
  pub parentheses_twice : reads_notes_where (codes "((id = 1 OR id = 2))") ≡ Err (Syntax 27)
  pub and_in_a_group : reads_notes_where (codes "(id = 1 AND id = 2)") ≡ Err (Syntax 34)
  pub an_empty_group : reads_notes_where (codes "()") ≡ Err (Syntax 27)
  pub nothing_after_or : reads_notes_where (codes "(id = 1 OR )") ≡ Err (Syntax 37)
  pub a_group_without_end : reads_notes_where (codes "(id = 1 OR id = 2") ≡ Err (Syntax 43)
  pub or_after_a_group : reads_notes_where (codes "(id = 1 OR id = 2) OR id = 3") ≡ Err (Syntax 45)
  pub a_group_compared : reads_notes_where (codes "(id = 1 OR id = 2) = 1") ≡ Err (Syntax 45)
  pub in_is_no_name : reads_notes (codes "SELECT in FROM note") ≡ Err (Syntax 7)
  pub or_is_no_name : reads_notes (codes "SELECT id FROM or") ≡ Err (Syntax 15)

-- the first token that no text has
pub record QuerySyntaxFaults : Type 0 where
  pub nothing : reads (codes "") ≡ Err (Syntax 0)
  pub no_column : reads (codes "SELECT") ≡ Err (Syntax 6)
  pub no_select : reads (codes "FROM patient") ≡ Err (Syntax 0)
  pub no_comma : reads (codes "SELECT a b") ≡ Err (Syntax 9)
  pub white_space_counts : reads (codes " SELECT a b") ≡ Err (Syntax 10)
  pub white_space_at_the_end_counts : reads (codes "SELECT age FROM  ") ≡ Err (Syntax 17)
  pub distinct_is_a_name : reads (codes "SELECT DISTINCT age FROM patient") ≡ Err (Syntax 16)
  pub order_is_a_name : reads (codes "SELECT age FROM patient ORDER BY age") ≡ Err (Syntax 24)
  pub count_is_reserved : reads (codes "SELECT count FROM patient") ≡ Err (Syntax 7)
  pub star_stands_alone : reads (codes "SELECT *, age FROM patient") ≡ Err (Syntax 8)
  pub star_after_a_column : reads (codes "SELECT age, * FROM patient") ≡ Err (Syntax 12)
  pub a_second_point : reads (codes "SELECT a.b.c FROM t") ≡ Err (Syntax 10)
  pub a_fraction : reads (codes "SELECT age FROM patient WHERE age = 1.5") ≡ Err (Syntax 37)
  pub a_literal_first : reads (codes "SELECT age FROM patient WHERE 5 = age") ≡ Err (Syntax 30)
  pub two_columns_not_equal : reads (codes "SELECT age FROM patient WHERE age < day") ≡ Err (Syntax 36)
  pub two_signs : reads (codes "SELECT age FROM patient WHERE age = --5") ≡ Err (Syntax 37)
  pub a_sign_before_a_text : reads (codes "SELECT age FROM patient WHERE age = -'x'") ≡ Err (Syntax 37)
  pub a_name_after_a_number : reads (codes "SELECT age FROM patient WHERE age = 12abc") ≡ Err (Syntax 38)
  pub a_name_in_between : reads (codes "SELECT age FROM patient WHERE age BETWEEN 1 AND day") ≡ Err (Syntax 48)
  pub between_without_and : reads (codes "SELECT age FROM patient WHERE age BETWEEN 1") ≡ Err (Syntax 43)
  pub no_condition : reads (codes "SELECT age FROM patient WHERE") ≡ Err (Syntax 29)
  pub no_operator : reads (codes "SELECT age FROM patient WHERE age") ≡ Err (Syntax 33)
  pub an_or : reads (codes "SELECT age FROM patient WHERE age = 1 OR age = 2") ≡ Err (Syntax 38)
  pub a_third_column : reads (codes "SELECT age FROM patient WHERE age = age.id.x") ≡ Err (Syntax 42)
  pub a_literal_without_end : reads (codes "SELECT age FROM patient WHERE name = 'abc") ≡ Err (Syntax 37)
  pub a_doubled_quote_is_no_end : reads (codes "SELECT age FROM patient WHERE name = 'abc''") ≡ Err (Syntax 37)
  pub a_quote_in_a_word : reads (codes "SELECT don't; SELECT id FROM doctor") ≡ Err (Syntax 10)
  pub a_byte_beyond_the_characters : reads (codes "SELECT age FROM patient WHERE name = 'x" ++ 200 ∷ codes "'") ≡ Err (Syntax 37)
  pub another_spelling_of_unequal : reads (codes "SELECT age FROM patient WHERE age != 1") ≡ Err (Syntax 34)
  pub a_semicolon : reads (codes "SELECT age FROM patient;") ≡ Err (Syntax 23)
  pub a_byte_that_begins_no_token : reads (11 ∷ []) ≡ Err (Syntax 0)

-- what the limits count, and that they stand after the grammar and before the names
pub record LimitsOfQueries : Type 0 where
  pub after_syntax : reads (codes "SELECT x FROM t,t,t,t,t,t,t,t,t,t,t,t,t WHERE") ≡ Err (Syntax 45)
  pub tables : reads (codes "SELECT x FROM t,t,t,t,t,t,t,t,t,t,t,t,t") ≡ Err Limit
  pub before_table : reads (codes "SELECT x FROM t,t,t,t,t,t,t,t,t,t,t,t") ≡ Err UnknownTable
  pub long_table : reads (codes "SELECT x FROM aaaaaaaaaaaaaaaaaaaaaaaaaaaaaaaaa") ≡ Err Limit
  pub no_long_table : reads (codes "SELECT x FROM aaaaaaaaaaaaaaaaaaaaaaaaaaaaaaaa") ≡ Err UnknownTable
  pub long_column : reads (codes "SELECT aaaaaaaaaaaaaaaaaaaaaaaaaaaaaaaaa FROM patient") ≡ Err Limit
  pub no_long_column : reads (codes "SELECT aaaaaaaaaaaaaaaaaaaaaaaaaaaaaaaa FROM patient") ≡ Err UnknownColumn
  pub long_qualifier : reads (codes "SELECT age FROM patient WHERE aaaaaaaaaaaaaaaaaaaaaaaaaaaaaaaaa.age = 1")
      ≡ Err Limit
  pub long_other_side : reads (codes "SELECT age FROM patient WHERE age = patient.aaaaaaaaaaaaaaaaaaaaaaaaaaaaaaaaa")
      ≡ Err Limit
  pub literals : reads (codes "SELECT age FROM patient WHERE age=1 AND age=1 AND age=1 AND age=1 AND age=1 AND age=1 AND age=1 AND age=1 AND age=1 AND age=1 AND age=1 AND age=1 AND age=1 AND age=1 AND age=1 AND age=1 AND age=1")
      ≡ Err Limit
  pub between_counts_twice : reads (codes "SELECT age FROM patient WHERE age BETWEEN 1 AND 2 AND age BETWEEN 1 AND 2 AND age BETWEEN 1 AND 2 AND age BETWEEN 1 AND 2 AND age BETWEEN 1 AND 2 AND age BETWEEN 1 AND 2 AND age BETWEEN 1 AND 2 AND age BETWEEN 1 AND 2 AND age=1")
      ≡ Err Limit
  pub joins_do_not_count : reads (codes "SELECT age FROM patient WHERE age=1 AND age=1 AND age=1 AND age=1 AND age=1 AND age=1 AND age=1 AND age=1 AND age=1 AND age=1 AND age=1 AND age=1 AND age=1 AND age=1 AND age=1 AND age=1 AND age=id")
      ≡ Err NotLinked
  pub columns : reads (codes "SELECT x,x,x,x,x,x,x,x,x,x,x,x,x,x,x,x,x,x,x,x,x,x,x,x,x,x,x,x,x,x,x,x,x FROM patient")
      ≡ Err Limit
  pub no_column_too_many : reads (codes "SELECT x,x,x,x,x,x,x,x,x,x,x,x,x,x,x,x,x,x,x,x,x,x,x,x,x,x,x,x,x,x,x,x FROM patient")
      ≡ Err UnknownColumn
  pub star_counts_each_entry : reads (codes "SELECT * FROM visit,visit,visit,visit,visit,visit,visit") ≡ Err Limit
  pub star_below_the_limit : reads (codes "SELECT * FROM visit,visit,visit,visit,visit,visit") ≡ Err Ambiguous
  pub star_counts_no_missing_table : reads (codes "SELECT * FROM visit,visit,visit,visit,visit,visit,nowhere")
      ≡ Err UnknownTable
  pub long_text : reads (codes "SELECT age FROM patient" ++ replicate 4074 32) ≡ Err Limit
  pub no_long_text : reads (codes "SELECT age FROM patient" ++ replicate 4073 32) ≡ Ok (query (1 ∷ []) (field 1 1 ∷ []) [])

-- each rule is tested over the whole text before the next
pub record QueryRulesInOrder : Type 0 where
  pub table_before_column : reads (codes "SELECT x, nowhere.id FROM visit") ≡ Err UnknownTable
  pub qualifier_not_in_from : reads (codes "SELECT doctor.id FROM visit") ≡ Err UnknownColumn
  pub qualified_column_missing : reads (codes "SELECT visit.age FROM visit") ≡ Err UnknownColumn
  pub column_before_ambiguous : reads (codes "SELECT id, x FROM visit, doctor") ≡ Err UnknownColumn
  pub column_before_a_repeated_table : reads (codes "SELECT x FROM visit, visit") ≡ Err UnknownColumn
  pub repeated_table : reads (codes "SELECT * FROM patient, patient") ≡ Err Ambiguous
  pub ambiguous_in_a_condition : reads (codes "SELECT day FROM visit, doctor WHERE doc = id") ≡ Err Ambiguous
  pub ambiguous_before_kind : reads (codes "SELECT id FROM visit, doctor WHERE day = 'x'") ≡ Err Ambiguous
  pub repeated_table_before_kind : reads (codes "SELECT day FROM visit, visit WHERE day = 'x'") ≡ Err Ambiguous
  pub number_for_a_text : reads (codes "SELECT age FROM patient WHERE name = 1") ≡ Err KindMismatch
  pub text_for_an_identifier : reads (codes "SELECT age FROM patient WHERE id = 'x'") ≡ Err KindMismatch
  pub text_for_a_key : reads (codes "SELECT day FROM visit WHERE doc = 'x'") ≡ Err KindMismatch
  pub kind_of_the_higher_bound : reads (codes "SELECT day FROM visit WHERE day BETWEEN 1 AND 'x'") ≡ Err KindMismatch
  pub kind_before_literal : reads (codes "SELECT age FROM patient WHERE age = 9223372036854775808 AND name = 1")
      ≡ Err KindMismatch
  pub below_the_lowest_integer : reads (codes "SELECT age FROM patient WHERE age = -9223372036854775809") ≡ Err BadLiteral
  pub text_too_long : reads (codes "SELECT age FROM patient WHERE name = 'nine_char'") ≡ Err BadLiteral
  pub higher_bound_too_large : reads (codes "SELECT age FROM patient WHERE age BETWEEN 1 AND 9223372036854775808")
      ≡ Err BadLiteral
  pub literal_before_unlinked : reads (codes "SELECT age FROM patient, doctor WHERE age = 9223372036854775808")
      ≡ Err BadLiteral
  pub leading_zeros : reads (codes "SELECT age FROM patient WHERE age = 00000000009223372036854775807")
      ≡ Ok (query (1 ∷ []) (field 1 1 ∷ []) (compared (field 1 1) Equal (number 9223372036854775807) ∷ []))
  pub two_tops : reads (codes "SELECT age FROM patient, doctor") ≡ Err NotLinked
  pub no_join : reads (codes "SELECT visit.id FROM visit, doctor") ≡ Err NotLinked
  pub one_join_of_two : reads (codes "SELECT day FROM visit, doctor, patient WHERE doc = doctor.id")
      ≡ Err NotLinked
  pub wrong_identifier : reads (codes "SELECT day FROM visit, doctor, patient WHERE doc = patient.id AND pat = patient.id AND doc = doctor.id")
      ≡ Err NotLinked
  pub no_identifier : reads (codes "SELECT day FROM visit, patient WHERE pat = patient.id AND pat = age")
      ≡ Err NotLinked
  pub a_column_with_itself : reads (codes "SELECT age FROM patient WHERE id = id") ≡ Err NotLinked
  pub plain_columns : reads (codes "SELECT age FROM patient WHERE age = id") ≡ Err NotLinked
  pub keys_of_one_table : reads (codes "SELECT day FROM visit WHERE doc = pat") ≡ Err NotLinked
  pub unlinked_before_two_tables_in_a_group : reads (codes "SELECT visit.id FROM visit, doctor WHERE (specialty = 'x' OR day = 1)")
      ≡ Err NotLinked
  pub column_before_two_tables_in_a_group : reads (codes "SELECT visit.id FROM visit, doctor WHERE doc = doctor.id AND (day = 1 OR nowhere = 1 OR country = 'FR')")
      ≡ Err UnknownColumn
  pub ambiguous_before_two_tables_in_a_group : reads (codes "SELECT visit.id FROM visit, doctor WHERE doc = doctor.id AND (day = 1 OR id = 1 OR country = 'FR')")
      ≡ Err Ambiguous
  pub kind_before_two_tables_in_a_group : reads (codes "SELECT visit.id FROM visit, doctor WHERE doc = doctor.id AND (day = 'x' OR country = 'FR')")
      ≡ Err KindMismatch
  pub literal_before_two_tables_in_a_group : reads (codes "SELECT visit.id FROM visit, doctor WHERE doc = doctor.id AND (day = 1 OR country = 'FRA')")
      ≡ Err BadLiteral
  pub two_tables_in_the_last_member : reads (codes "SELECT visit.id FROM visit, doctor WHERE doc = doctor.id AND (doctor.id = 1 OR country = 'ES' OR doc = 1)")
      ≡ Err MixedTables
  pub two_tables_in_the_second_group : reads (codes "SELECT visit.id FROM visit, doctor WHERE doc = doctor.id AND (doc = 1 OR pat = 2) AND (day IN (1, 2) OR doctor.id = 1)")
      ≡ Err MixedTables
