-- The canonical text of a schema that a text means is read as the tree of that text with each part written out, which
-- means the same schema and breaks no rule that the first tree does not break.
use Rattle.std.proofs.Common.{◌≡◌, ℕ, suc, ◌+◌, ◌-◌, ◌*◌, ◌<◌, ◌≤◌, ◌^◌, nat_lt, Bool, true, false, not, ◌&&◌, ◌||◌, ◌==◌, cond, if◌then◌else◌, List, [], ◌∷◌, ◌++◌, length, map, flat_map, find, position, Option, Some, None, is_none, option_map, Ok, slice_get, bytes_eq, codes, refl, sym, ap, ◌∙◌, subst, append_assoc, arith, rules}
use Rattle.std.specs.Prelude.{fold, decimal}
use Rattle.std.specs.List.{list_any, list_all, position_from}
use Rattle.std.specs.Option.{option_or, option_map_or}
use Rattle.std.proofs.lemmas.Bool.{and_parts, or_from, not-true}
use Rattle.std.proofs.lemmas.Bool.Decides.{nat_tests}
use Rattle.std.proofs.lemmas.Iterator.Adapters.{position_from-zero}
use Rattle.std.proofs.lemmas.Str.Parse.{IsNumeralModel, numerals_by_fold}
use Rattle.std.proofs.lemmas.Fmt.{digits_decimal, digits_value-decimal}
use Rattle.std.proofs.lemmas.List.{length-map}
use Rattle.std.proofs.lemmas.Option.{slice_get-map}
use Rattle.std.proofs.lemmas.Slice.Eq.{bytes_eq-Decides}
use Rattle.ghost_model.specs.core.Schema as schema
use Rattle.ghost_model.specs.core.Schema.{Schema, Column, Chars, places_from, places_of}
use Rattle.ghost_model.specs.core.Query.{Field}
use Rattle.ghost_model.specs.refusals.Tokens.{number_of, is_between, Keyword, Symbol, Word, Reserved, Name, Digits, Open, Closing, Comma, Semicolon, EndOfText, CharWord, CreateWord, HiddenWord, IntegerWord, NullWord, PrimaryKeyWord, PrimaryWord, ReferencesWord, TableWord, Read, read, symbol_of, symbols, tokens_from, token_at, word_at, digits_at, symbol_of_word, keyword_of, other_reserved, in_lower_case, begins_name, is_space, is_digit, is_name_byte}
use Rattle.ghost_model.specs.laws.Spelled.{is_spelled, is_reserved, is_name}
use Rattle.ghost_model.specs.refusals.SchemaGrammar.{To, ColumnDeclaration, CharColumn, IntegerColumn, NullableColumn, TableText, SchemaText, spell_if, spell_declaration, spell_heading, spell_declared_table}
use Rattle.ghost_model.specs.readings.SchemaPlaces.{schema_syntax_of}
use Rattle.ghost_model.specs.refusals.SchemaMeaning.{text_kind, declared_table, columns_written, column_of, table_of, schema_of}
use Rattle.ghost_model.specs.refusals.SchemaFaults.{OverLimit, NoId, TwoParents, Cycle, is_long, is_over, is_table_over, is_column_over, declared_name, columns_at, repeats, is_duplicate, fields_from, fields, is_identifier, is_primary, table_lacks_id, refers_nowhere, references_naming, returns, roots_of, rules_of_schemas as schema_rules, MeansSchema}
use Rattle.ghost_model.specs.laws.ShortWords.{is_unknown, table_repeats, column_repeats, lacks_id, is_shared, duplicate_at, unknown_at, wrong_roots}
use Rattle.ghost_model.specs.readings.SchemaReading.{schema_or, schema_judged, schema_reading}
use Rattle.ghost_model.specs.refusals.Rules.{broken_if, first_broken, MeetsAll}
use Rattle.ghost_model.specs.forms.Catalog.{name_or_none, reference_text, hidden_text, column_text, table_text, canonical_text}
use Rattle.ghost_model.specs.laws.CatalogLaws.{CanonicalTextMeansItsSchema, ACatalogOfEachText}
use Rattle.ghost_model.proofs.TokenLemmas.{kinds_anywhere, kinds_after, take_while_all, one_token}
use Rattle.ghost_model.proofs.SchemaLemmas.{schema_places}
use Rattle.ghost_model.proofs.SchemaRuleLemmas.{kept_rules, one_schema}
use Rattle.ghost_model.proofs.SchemaTreeLemmas.{neither, none_at, column_spelled, column_named, length_within, column_kept, table_spelled, table_named_well, identified, known, tables_spelled}

-- the decimal digits of a length

numerals : IsNumeralModel (λ ds. list_all is_digit ds ≡ true) number_of
numerals = numerals_by_fold _ (search rules) (λ n digits. fold (λ value digit. value * 10 + (digit - 48)) n digits) (search rules)

few : (n : ℕ) → n ≤ 64 → n < 2 ^ 64
few n h = omega arith

all_digits : (n : ℕ) → n ≤ 64 → list_all is_digit (decimal n) ≡ true
all_digits n h = digits_decimal numerals n (few n h)

same_number : (n : ℕ) → n ≤ 64 → number_of (decimal n) ≡ n
same_number n h = digits_value-decimal numerals n (few n h)

-- a token at the front of a text

first_token : (b : ℕ) (w rest : List ℕ) (symbol : Symbol) → is_space b ≡ false → token_at b (w ++ rest) ≡ read symbol (suc (length w))
    → symbols (b ∷ (w ++ rest)) ≡ symbol ∷ symbols rest
first_token b w rest symbol no_space token =
    let less : suc (length w) - 1 ≡ length w = omega arith in
    let bytes : (token_at b (w ++ rest)).bytes - 1 ≡ length w = ap (λ (r : Read). r.bytes - 1) token ∙ less in
    one_token 0 b (w ++ rest) no_space
    ∙ (ap (λ (r : Read). r.symbol ∷ map symbol_of (tokens_from ((token_at b (w ++ rest)).bytes - 1) (0 + 1) (w ++ rest))) token
    ∙ (ap (λ left. symbol ∷ map symbol_of (tokens_from left (0 + 1) (w ++ rest))) bytes
    ∙ ap (λ (xs : List Symbol). symbol ∷ xs) (kinds_after w (0 + 1) 0 rest)))

then_by : {A : Type 0} (test : Bool) (x y z : A) → test ≡ true → x ≡ z → (if test then x else y) ≡ z
then_by test x y z e same = ap (λ v. if v then x else y) e ∙ same

else_by : {A : Type 0} (test : Bool) (x y z : A) → test ≡ false → y ≡ z → (if test then x else y) ≡ z
else_by test x y z e same = ap (λ v. if v then x else y) e ∙ same

name_is_no_space : (b : ℕ) → begins_name b ≡ true → is_space b ≡ false
name_is_no_space b h = grind (arith, nat_tests)

digit_is_no_space : (b : ℕ) → is_digit b ≡ true → is_space b ≡ false
digit_is_no_space b h = grind (arith, nat_tests)

digit_begins_no_name : (b : ℕ) → is_digit b ≡ true → begins_name b ≡ false
digit_begins_no_name b h = grind (arith, nat_tests)

free_word : (word : List ℕ) (keyword : Option Keyword) (among : Bool) → (not (is_none keyword) || among) ≡ false
    → option_map_or Word keyword (if among then Reserved else Name word) ≡ Name word
free_word word None false e = refl
free_word word None true e = cc
free_word word (Some keyword) among e = cc

first_name : (name : List ℕ) (next : ℕ) (rest : List ℕ) → is_name name ≡ true → is_name_byte next ≡ false
    → symbols (name ++ next ∷ rest) ≡ Name name ∷ symbols (next ∷ rest)
unfolding is_name
first_name [] next rest e other = cc
first_name (b ∷ w) next rest e other =
    let free = and_parts _ (not (is_reserved (b ∷ w))) e in
    let lower = and_parts _ (bytes_eq (in_lower_case (b ∷ w)) (b ∷ w)) free.0 in
    let begins = and_parts (begins_name b) (list_all is_name_byte (b ∷ w)) lower.0 in
    let same : in_lower_case (b ∷ w) ≡ b ∷ w = (bytes_eq-Decides (in_lower_case (b ∷ w)) (b ∷ w)).0 lower.1 in
    let named : symbol_of_word (in_lower_case (b ∷ w)) ≡ Name (b ∷ w) =
    ap symbol_of_word same ∙ free_word (b ∷ w) (keyword_of (b ∷ w)) (list_any (bytes_eq (b ∷ w)) other_reserved) (not-true _ free.1) in
    first_token b w (next ∷ rest) (Name (b ∷ w)) (name_is_no_space b begins.0)
    (then_by _ _ _ _ begins.0 (ap word_at (take_while_all is_name_byte (b ∷ w) next rest begins.1 other)) ∙ ap (λ (s : Symbol). read s (suc (length w))) named)

first_digits : (digits : List ℕ) (next : ℕ) (rest : List ℕ) → list_all is_digit digits ≡ true → 1 ≤ number_of digits → is_digit next ≡ false
    → symbols (digits ++ next ∷ rest) ≡ Digits digits ∷ symbols (next ∷ rest)
first_digits [] next rest e some other = absurd (omega arith)
first_digits (b ∷ w) next rest e some other =
    let both = and_parts (is_digit b) (list_all is_digit w) e in
    first_token b w (next ∷ rest) (Digits (b ∷ w)) (digit_is_no_space b both.0)
    (else_by _ _ _ _ (digit_begins_no_name b both.0) (then_by _ _ _ _ both.0 (ap digits_at (take_while_all is_digit (b ∷ w) next rest e other))))

-- the fixed words of a canonical text

-- what stands after a column: a comma, or the parenthesis that closes the columns
data AfterColumn : List ℕ → Type 0 where
  comma : (later : List ℕ) → AfterColumn (44 ∷ later)
  closing : (later : List ℕ) → AfterColumn (41 ∷ later)

create_first : (rest : List ℕ) → symbols (codes "CREATE TABLE " ++ rest) ≡ Word CreateWord ∷ Word TableWord ∷ symbols rest
unfolding tokens_from
create_first rest = ap (λ (xs : List Symbol). Word CreateWord ∷ Word TableWord ∷ xs) (kinds_anywhere 0 13 0 rest)

id_first : (rest : List ℕ) → AfterColumn rest
    → symbols (codes " (id INTEGER PRIMARY KEY" ++ rest) ≡ Open ∷ Name (codes "id") ∷ Word IntegerWord ∷ Word PrimaryWord ∷ Word PrimaryKeyWord ∷ symbols rest
unfolding tokens_from
id_first rest (comma later) =
    ap (λ (xs : List Symbol). Open ∷ Name (codes "id") ∷ Word IntegerWord ∷ Word PrimaryWord ∷ Word PrimaryKeyWord ∷ Comma ∷ xs) (kinds_anywhere 0 25 1 later)
id_first rest (closing later) =
    ap (λ (xs : List Symbol). Open ∷ Name (codes "id") ∷ Word IntegerWord ∷ Word PrimaryWord ∷ Word PrimaryKeyWord ∷ Closing ∷ xs) (kinds_anywhere 0 25 1 later)

end_first : (rest : List ℕ) → symbols (codes ");" ++ 10 ∷ rest) ≡ Closing ∷ Semicolon ∷ symbols rest
unfolding tokens_from
end_first rest = ap (λ (xs : List Symbol). Closing ∷ Semicolon ∷ xs) (kinds_anywhere 0 3 0 rest)

comma_first : (rest : List ℕ) → symbols (codes ", " ++ rest) ≡ Comma ∷ symbols rest
unfolding tokens_from
comma_first rest = ap (λ (xs : List Symbol). Comma ∷ xs) (kinds_anywhere 0 2 0 rest)

char_first : (rest : List ℕ) → symbols (codes " CHAR(" ++ rest) ≡ Word CharWord ∷ Open ∷ symbols rest
unfolding tokens_from
char_first rest = ap (λ (xs : List Symbol). Word CharWord ∷ Open ∷ xs) (kinds_anywhere 0 6 0 rest)

char_last : (hidden : Bool) (rest : List ℕ) → AfterColumn rest
    → symbols (41 ∷ (hidden_text hidden ++ rest)) ≡ Closing ∷ (spell_if hidden (Word HiddenWord ∷ []) ++ symbols rest)
unfolding tokens_from
char_last true rest (comma later) = ap (λ (xs : List Symbol). Closing ∷ Word HiddenWord ∷ Comma ∷ xs) (kinds_anywhere 0 9 1 later)
char_last true rest (closing later) = ap (λ (xs : List Symbol). Closing ∷ Word HiddenWord ∷ Closing ∷ xs) (kinds_anywhere 0 9 1 later)
char_last false rest (comma later) = ap (λ (xs : List Symbol). Closing ∷ Comma ∷ xs) (kinds_anywhere 0 2 1 later)
char_last false rest (closing later) = ap (λ (xs : List Symbol). Closing ∷ Closing ∷ xs) (kinds_anywhere 0 2 1 later)

integer_last : (hidden : Bool) (rest : List ℕ) → AfterColumn rest
    → symbols (codes " INTEGER" ++ (hidden_text hidden ++ rest)) ≡ Word IntegerWord ∷ (spell_if hidden (Word HiddenWord ∷ []) ++ symbols rest)
unfolding tokens_from
integer_last true rest (comma later) = ap (λ (xs : List Symbol). Word IntegerWord ∷ Word HiddenWord ∷ Comma ∷ xs) (kinds_anywhere 0 16 1 later)
integer_last true rest (closing later) = ap (λ (xs : List Symbol). Word IntegerWord ∷ Word HiddenWord ∷ Closing ∷ xs) (kinds_anywhere 0 16 1 later)
integer_last false rest (comma later) = ap (λ (xs : List Symbol). Word IntegerWord ∷ Comma ∷ xs) (kinds_anywhere 0 9 1 later)
integer_last false rest (closing later) = ap (λ (xs : List Symbol). Word IntegerWord ∷ Closing ∷ xs) (kinds_anywhere 0 9 1 later)

nullable_char_last : (hidden : Bool) (rest : List ℕ) → AfterColumn rest
    → symbols (41 ∷ (codes " NULL" ++ (hidden_text hidden ++ rest))) ≡ Closing ∷ Word NullWord ∷ (spell_if hidden (Word HiddenWord ∷ []) ++ symbols rest)
unfolding tokens_from
nullable_char_last true rest (comma later) = ap (λ (xs : List Symbol). Closing ∷ Word NullWord ∷ Word HiddenWord ∷ Comma ∷ xs) (kinds_anywhere 0 14 1 later)
nullable_char_last true rest (closing later) = ap (λ (xs : List Symbol). Closing ∷ Word NullWord ∷ Word HiddenWord ∷ Closing ∷ xs) (kinds_anywhere 0 14 1 later)
nullable_char_last false rest (comma later) = ap (λ (xs : List Symbol). Closing ∷ Word NullWord ∷ Comma ∷ xs) (kinds_anywhere 0 7 1 later)
nullable_char_last false rest (closing later) = ap (λ (xs : List Symbol). Closing ∷ Word NullWord ∷ Closing ∷ xs) (kinds_anywhere 0 7 1 later)

nullable_last : (hidden : Bool) (rest : List ℕ) → AfterColumn rest
    → symbols (codes " INTEGER NULL" ++ (hidden_text hidden ++ rest)) ≡ Word IntegerWord ∷ Word NullWord ∷ (spell_if hidden (Word HiddenWord ∷ []) ++ symbols rest)
unfolding tokens_from
nullable_last true rest (comma later) = ap (λ (xs : List Symbol). Word IntegerWord ∷ Word NullWord ∷ Word HiddenWord ∷ Comma ∷ xs) (kinds_anywhere 0 21 1 later)
nullable_last true rest (closing later) = ap (λ (xs : List Symbol). Word IntegerWord ∷ Word NullWord ∷ Word HiddenWord ∷ Closing ∷ xs) (kinds_anywhere 0 21 1 later)
nullable_last false rest (comma later) = ap (λ (xs : List Symbol). Word IntegerWord ∷ Word NullWord ∷ Comma ∷ xs) (kinds_anywhere 0 14 1 later)
nullable_last false rest (closing later) = ap (λ (xs : List Symbol). Word IntegerWord ∷ Word NullWord ∷ Closing ∷ xs) (kinds_anywhere 0 14 1 later)

reference_first : (rest : List ℕ) → symbols (codes " INTEGER REFERENCES " ++ rest) ≡ Word IntegerWord ∷ Word ReferencesWord ∷ symbols rest
unfolding tokens_from
reference_first rest = ap (λ (xs : List Symbol). Word IntegerWord ∷ Word ReferencesWord ∷ xs) (kinds_anywhere 0 20 0 rest)

reference_last : (rest : List ℕ) → AfterColumn rest
    → symbols (codes "(id) HIDDEN" ++ rest) ≡ Open ∷ Name (codes "id") ∷ Closing ∷ Word HiddenWord ∷ symbols rest
unfolding tokens_from
reference_last rest (comma later) = ap (λ (xs : List Symbol). Open ∷ Name (codes "id") ∷ Closing ∷ Word HiddenWord ∷ Comma ∷ xs) (kinds_anywhere 0 12 1 later)
reference_last rest (closing later) = ap (λ (xs : List Symbol). Open ∷ Name (codes "id") ∷ Closing ∷ Word HiddenWord ∷ Closing ∷ xs) (kinds_anywhere 0 12 1 later)

-- the tree with each part written out

abbrev canonical_column : ColumnDeclaration → ColumnDeclaration
canonical_column (CharColumn name digits nullable hidden) = CharColumn name (decimal (number_of digits)) nullable hidden
canonical_column (IntegerColumn name primary None hidden) = IntegerColumn name primary None hidden
canonical_column (IntegerColumn name primary (Some (To table says_id)) hidden) = IntegerColumn name primary (Some (To table true)) true
canonical_column (NullableColumn name hidden) = NullableColumn name hidden

abbrev canonical_table : TableText → TableText
canonical_table table = record { name = table.name; first = canonical_column table.first; others = map canonical_column table.others }

-- how the parts of a column's text stand one after another

char_shape : (name number hidden rest : List ℕ)
    → (codes ", " ++ (name ++ (codes " " ++ ((codes "CHAR(" ++ (number ++ codes ")")) ++ ([] ++ hidden))))) ++ rest
    ≡ codes ", " ++ (name ++ (codes " CHAR(" ++ (number ++ 41 ∷ (hidden ++ rest))))
char_shape name number hidden rest = simp append_assoc

nullable_char_shape : (name number hidden rest : List ℕ)
    → (codes ", " ++ (name ++ (codes " " ++ ((codes "CHAR(" ++ (number ++ codes ") NULL")) ++ ([] ++ hidden))))) ++ rest
    ≡ codes ", " ++ (name ++ (codes " CHAR(" ++ (number ++ 41 ∷ (codes " NULL" ++ (hidden ++ rest)))))
nullable_char_shape name number hidden rest = simp append_assoc

nullable_shape : (name hidden rest : List ℕ)
    → (codes ", " ++ (name ++ (codes " " ++ (codes "INTEGER NULL" ++ ([] ++ hidden))))) ++ rest
    ≡ codes ", " ++ (name ++ (codes " INTEGER NULL" ++ (hidden ++ rest)))
nullable_shape name hidden rest = simp append_assoc

integer_shape : (name hidden rest : List ℕ)
    → (codes ", " ++ (name ++ (codes " " ++ (codes "INTEGER" ++ ([] ++ hidden))))) ++ rest
    ≡ codes ", " ++ (name ++ (codes " INTEGER" ++ (hidden ++ rest)))
integer_shape name hidden rest = simp append_assoc

reference_shape : (name table rest : List ℕ)
    → (codes ", " ++ (name ++ (codes " " ++ (codes "INTEGER" ++ ((codes " REFERENCES " ++ (table ++ codes "(id)")) ++ codes " HIDDEN"))))) ++ rest
    ≡ codes ", " ++ (name ++ (codes " INTEGER REFERENCES " ++ (table ++ (codes "(id) HIDDEN" ++ rest))))
reference_shape name table rest = simp append_assoc

table_shape : (heading columns others tail more : List Symbol) → (heading ++ ((columns ++ others) ++ tail)) ++ more ≡ heading ++ (columns ++ (others ++ (tail ++ more)))
table_shape heading columns others tail more = simp append_assoc

-- a first column that is the identifier
the_identifier : (column : ColumnDeclaration) → is_identifier column ≡ true → column ≡ IntegerColumn (codes "id") true None false
the_identifier (IntegerColumn name true None false) e =
    ap (λ (given : List ℕ). IntegerColumn given true None false) ((bytes_eq-Decides name (codes "id")).0 e)
the_identifier _ e = absurd (cc)

module _ (tables : SchemaText) where
  -- what the rules leave of a column that is no identifier
  abbrev IsProper : ColumnDeclaration → Type 0
  IsProper (CharColumn name digits nullable hidden) = (is_name name ≡ true) × (1 ≤ number_of digits) × (number_of digits ≤ 64)
  IsProper (IntegerColumn name primary None hidden) = (is_name name ≡ true) × (primary ≡ false)
  IsProper (IntegerColumn name primary (Some (To table says_id)) hidden) =
      (is_name name ≡ true) × (primary ≡ false) × (is_name table ≡ true)
      × (reference_text (schema_of tables) (declared_table tables table) ≡ codes " REFERENCES " ++ (table ++ codes "(id)"))
  IsProper (NullableColumn name hidden) = is_name name ≡ true

  -- the text of a column is read as the column, whatever follows it

  column_reads : (column : ColumnDeclaration) (rest : List ℕ) → IsProper column → AfterColumn rest
      → symbols (column_text (schema_of tables) (column_of tables column) ++ rest) ≡ Comma ∷ (spell_declaration (canonical_column column) ++ symbols rest)
  column_reads (CharColumn name digits true hidden) rest p after =
      let number = decimal (number_of digits) in
      let tail = 41 ∷ (codes " NULL" ++ (hidden_text hidden ++ rest)) in
      let some : 1 ≤ number_of number = subst (λ n. 1 ≤ n) (sym (same_number (number_of digits) p.2)) p.1 in
      ap symbols (nullable_char_shape name number (hidden_text hidden) rest)
      ∙ (comma_first (name ++ (codes " CHAR(" ++ (number ++ tail)))
      ∙ ap (λ (xs : List Symbol). Comma ∷ xs)
      (first_name name 32 (codes "CHAR(" ++ (number ++ tail)) p.0 refl
      ∙ ap (λ (xs : List Symbol). Name name ∷ xs)
      (char_first (number ++ tail)
      ∙ ap (λ (xs : List Symbol). Word CharWord ∷ Open ∷ xs)
      (first_digits number 41 (codes " NULL" ++ (hidden_text hidden ++ rest)) (all_digits (number_of digits) p.2) some refl
      ∙ ap (λ (xs : List Symbol). Digits number ∷ xs) (nullable_char_last hidden rest after)))))
  column_reads (CharColumn name digits false hidden) rest p after =
      let number = decimal (number_of digits) in
      let tail = 41 ∷ (hidden_text hidden ++ rest) in
      let some : 1 ≤ number_of number = subst (λ n. 1 ≤ n) (sym (same_number (number_of digits) p.2)) p.1 in
      ap symbols (char_shape name number (hidden_text hidden) rest)
      ∙ (comma_first (name ++ (codes " CHAR(" ++ (number ++ tail)))
      ∙ ap (λ (xs : List Symbol). Comma ∷ xs)
      (first_name name 32 (codes "CHAR(" ++ (number ++ tail)) p.0 refl
      ∙ ap (λ (xs : List Symbol). Name name ∷ xs)
      (char_first (number ++ tail)
      ∙ ap (λ (xs : List Symbol). Word CharWord ∷ Open ∷ xs)
      (first_digits number 41 (hidden_text hidden ++ rest) (all_digits (number_of digits) p.2) some refl
      ∙ ap (λ (xs : List Symbol). Digits number ∷ xs) (char_last hidden rest after)))))
  column_reads (IntegerColumn name true None hidden) rest p after = let clash : true ≡ false = p.1 in absurd (cc)
  column_reads (IntegerColumn name false None hidden) rest p after =
      ap symbols (integer_shape name (hidden_text hidden) rest)
      ∙ (comma_first (name ++ (codes " INTEGER" ++ (hidden_text hidden ++ rest)))
      ∙ ap (λ (xs : List Symbol). Comma ∷ xs)
      (first_name name 32 (codes "INTEGER" ++ (hidden_text hidden ++ rest)) p.0 refl
      ∙ ap (λ (xs : List Symbol). Name name ∷ xs) (integer_last hidden rest after)))
  column_reads (IntegerColumn name true (Some (To table says_id)) hidden) rest p after = let clash : true ≡ false = p.1 in absurd (cc)
  column_reads (IntegerColumn name false (Some (To table says_id)) hidden) rest p after =
      let tail = codes "(id) HIDDEN" ++ rest in
      ap (λ (reference : List ℕ). symbols ((codes ", " ++ (name ++ (codes " " ++ (codes "INTEGER" ++ (reference ++ codes " HIDDEN"))))) ++ rest)) p.3
      ∙ (ap symbols (reference_shape name table rest)
      ∙ (comma_first (name ++ (codes " INTEGER REFERENCES " ++ (table ++ tail)))
      ∙ ap (λ (xs : List Symbol). Comma ∷ xs)
      (first_name name 32 (codes "INTEGER REFERENCES " ++ (table ++ tail)) p.0 refl
      ∙ ap (λ (xs : List Symbol). Name name ∷ xs)
      (reference_first (table ++ tail)
      ∙ ap (λ (xs : List Symbol). Word IntegerWord ∷ Word ReferencesWord ∷ xs)
      (first_name table 40 (codes "id) HIDDEN" ++ rest) p.2 refl
      ∙ ap (λ (xs : List Symbol). Name table ∷ xs) (reference_last rest after))))))
  column_reads (NullableColumn name hidden) rest p after =
      ap symbols (nullable_shape name (hidden_text hidden) rest)
      ∙ (comma_first (name ++ (codes " INTEGER NULL" ++ (hidden_text hidden ++ rest)))
      ∙ ap (λ (xs : List Symbol). Comma ∷ xs)
      (first_name name 32 (codes "INTEGER NULL" ++ (hidden_text hidden ++ rest)) p refl
      ∙ ap (λ (xs : List Symbol). Name name ∷ xs) (nullable_last hidden rest after)))

  columns_text : List ColumnDeclaration → List ℕ
  columns_text columns = flat_map (column_text (schema_of tables)) (map (column_of tables) columns)

  columns_after : (columns : List ColumnDeclaration) (rest : List ℕ) → AfterColumn rest → AfterColumn (columns_text columns ++ rest)
  unfolding columns_text
  columns_after [] rest after = after
  columns_after (column ∷ columns) rest after = comma _

  columns_read : (columns : List ColumnDeclaration) (rest : List ℕ) → ((j : ℕ) (column : ColumnDeclaration) → slice_get columns j ≡ Some column → IsProper column)
      → AfterColumn rest → symbols (columns_text columns ++ rest) ≡ flat_map (λ other. Comma ∷ spell_declaration other) (map canonical_column columns) ++ symbols rest
  unfolding columns_text
  columns_read [] rest proper after = refl
  columns_read (column ∷ columns) rest proper after =
      ap symbols (append_assoc (column_text (schema_of tables) (column_of tables column)) (columns_text columns) rest)
      ∙ (column_reads column (columns_text columns ++ rest) (proper 0 column refl) (columns_after columns rest after)
      ∙ (ap (λ (xs : List Symbol). Comma ∷ (spell_declaration (canonical_column column) ++ xs)) (columns_read columns rest (λ j other e. proper (suc j) other e) after)
      ∙ sym (append_assoc (Comma ∷ spell_declaration (canonical_column column)) (flat_map (λ other. Comma ∷ spell_declaration other) (map canonical_column columns)) (symbols rest))))

  record IsProperTable (table : TableText) : Type 0 where
    named : is_name table.name ≡ true
    begins : is_identifier table.first ≡ true
    proper : (j : ℕ) (column : ColumnDeclaration) → slice_get table.others j ≡ Some column → IsProper column

  line_shape : (name columns rest : List ℕ)
      → (codes "CREATE TABLE " ++ (name ++ (codes " (id INTEGER PRIMARY KEY" ++ (columns ++ (codes ");" ++ 10 ∷ []))))) ++ rest
      ≡ codes "CREATE TABLE " ++ (name ++ (codes " (id INTEGER PRIMARY KEY" ++ (columns ++ (codes ");" ++ 10 ∷ rest))))
  line_shape name columns rest = simp append_assoc

  table_reads : (table : TableText) (rest : List ℕ) → IsProperTable table
      → symbols (table_text (schema_of tables) (table_of tables table) ++ rest) ≡ spell_declared_table (canonical_table table) ++ symbols rest
  unfolding columns_text
  table_reads table rest p =
      let columns = columns_text table.others in
      let tail = codes ");" ++ 10 ∷ rest in
      let others = flat_map (λ other. Comma ∷ spell_declaration other) (map canonical_column table.others) in
      ap symbols (line_shape table.name columns rest)
      ∙ (create_first (table.name ++ (codes " (id INTEGER PRIMARY KEY" ++ (columns ++ tail)))
      ∙ (ap (λ (xs : List Symbol). Word CreateWord ∷ Word TableWord ∷ xs)
      (first_name table.name 32 (codes "(id INTEGER PRIMARY KEY" ++ (columns ++ tail)) p.named refl
      ∙ ap (λ (xs : List Symbol). Name table.name ∷ xs)
      (id_first (columns ++ tail) (columns_after table.others tail (closing _))
      ∙ ap (λ (xs : List Symbol). Open ∷ Name (codes "id") ∷ Word IntegerWord ∷ Word PrimaryWord ∷ Word PrimaryKeyWord ∷ xs)
      (columns_read table.others tail p.proper (closing _) ∙ ap (λ (xs : List Symbol). others ++ xs) (end_first rest))))
      ∙ (sym (table_shape (spell_heading table.name) (spell_declaration (IntegerColumn (codes "id") true None false)) others (Closing ∷ Semicolon ∷ []) (symbols rest))
      ∙ ap (λ column. (spell_heading table.name ++ ((spell_declaration (canonical_column column) ++ others) ++ Closing ∷ Semicolon ∷ [])) ++ symbols rest)
      (sym (the_identifier table.first p.begins)))))

  tables_read : (some : List TableText) → ((k : ℕ) (table : TableText) → slice_get some k ≡ Some table → IsProperTable table)
      → symbols (flat_map (table_text (schema_of tables)) (map (table_of tables) some)) ≡ flat_map spell_declared_table (map canonical_table some) ++ EndOfText ∷ []
  unfolding tokens_from
  tables_read [] proper = refl
  tables_read (table ∷ later) proper =
      table_reads table (flat_map (table_text (schema_of tables)) (map (table_of tables) later)) (proper 0 table refl)
      ∙ (ap (λ (xs : List Symbol). spell_declared_table (canonical_table table) ++ xs) (tables_read later (λ k other e. proper (suc k) other e))
      ∙ sym (append_assoc (spell_declared_table (canonical_table table)) (flat_map spell_declared_table (map canonical_table later)) (EndOfText ∷ [])))

-- a test of what a map makes is a test of what it is made of

find_same : {X : Type 0} (p q : X → Bool) → ((x : X) → p x ≡ q x) → (xs : List X) → find p xs ≡ find q xs
find_same p q same [] = refl
find_same p q same (x ∷ xs) = ap (λ b. cond b (Some x) (find p xs)) (same x) ∙ ap (λ o. cond (q x) (Some x) o) (find_same p q same xs)

place_of : {X : Type 0} (p : X → Bool) (xs : List X) → position p xs ≡ position_from p 0 xs
place_of p xs = position_from-zero p xs

place_mapped : {X Y : Type 0} (p : Y → Bool) (f : X → Y) (at : ℕ) (xs : List X) → position_from p at (map f xs) ≡ position_from (λ x. p (f x)) at xs
place_mapped p f at [] = refl
place_mapped p f at (x ∷ xs) = ap (λ o. cond (p (f x)) (Some at) o) (place_mapped p f (at + 1) xs)

-- the element at the first place that passes
record IsFound {X : Type 0} (p : X → Bool) (xs : List X) (at place : ℕ) : Type 0 where
  index : ℕ
  element : X
  there : slice_get xs index ≡ Some element
  passes : p element ≡ true
  counted : place ≡ at + index

found_by : {X : Type 0} (p : X → Bool) (x : X) (xs : List X) (at place : ℕ) (b : Bool) → p x ≡ b → cond b (Some at) (position_from p (at + 1) xs) ≡ Some place
    → (position_from p (at + 1) xs ≡ Some place → IsFound p xs (at + 1) place) → IsFound p (x ∷ xs) at place
found_by p x xs at place true e h later =
    let same : at ≡ place = cc in
    record { index = 0; element = x; there = refl; passes = e; counted = omega arith }
found_by p x xs at place false e h later =
    let f = later h in
    let c : place ≡ (at + 1) + f.index = f.counted in
    record { index = suc f.index; element = f.element; there = f.there; passes = f.passes; counted = omega arith }

found_in : {X : Type 0} (p : X → Bool) (at : ℕ) (xs : List X) (place : ℕ) → position_from p at xs ≡ Some place → IsFound p xs at place
found_in p at [] place e = absurd (cc)
found_in p at (x ∷ xs) place e = found_by p x xs at place (p x) refl e (found_in p (at + 1) xs place)

places_mapped : {X Y : Type 0} (f : X → Y) (at : ℕ) (xs : List X) → places_from (λ _. true) at (map f xs) ≡ places_from (λ _. true) at xs
unfolding places_from
places_mapped f at [] = refl
places_mapped f at (x ∷ xs) = ap (λ (places : List ℕ). at ∷ places) (places_mapped f (at + 1) xs)

-- what is written out has the names, the places and the tests of what it comes from

same_name : (column : ColumnDeclaration) → declared_name (canonical_column column) ≡ declared_name column
same_name (CharColumn name digits nullable hidden) = refl
same_name (IntegerColumn name primary None hidden) = refl
same_name (IntegerColumn name primary (Some (To table says_id)) hidden) = refl
same_name (NullableColumn name hidden) = refl

same_names : (columns : List ColumnDeclaration) → map declared_name (map canonical_column columns) ≡ map declared_name columns
same_names [] = refl
same_names (column ∷ columns) =
    ap (λ (name : List ℕ). name ∷ map declared_name (map canonical_column columns)) (same_name column)
    ∙ ap (λ (names : List (List ℕ)). declared_name column ∷ names) (same_names columns)

same_table_names : (tables : SchemaText) → map (λ (table : TableText). table.name) (map canonical_table tables) ≡ map (λ (table : TableText). table.name) tables
same_table_names [] = refl
same_table_names (table ∷ tables) = ap (λ (names : List (List ℕ)). table.name ∷ names) (same_table_names tables)

same_columns : (o : Option TableText) → columns_at (option_map canonical_table o) ≡ map canonical_column (columns_at o)
same_columns None = refl
same_columns (Some table) = refl

same_identifier : (column : ColumnDeclaration) → is_identifier (canonical_column column) ≡ is_identifier column
same_identifier (CharColumn name digits nullable hidden) = refl
same_identifier (IntegerColumn name primary None hidden) = refl
same_identifier (IntegerColumn name true (Some (To table says_id)) hidden) = refl
same_identifier (IntegerColumn name false (Some (To table says_id)) hidden) = refl
same_identifier (NullableColumn name hidden) = refl

same_primary : (column : ColumnDeclaration) → is_primary (canonical_column column) ≡ is_primary column
same_primary (CharColumn name digits nullable hidden) = refl
same_primary (IntegerColumn name primary None hidden) = refl
same_primary (IntegerColumn name primary (Some (To table says_id)) hidden) = refl
same_primary (NullableColumn name hidden) = refl

any_primary : (columns : List ColumnDeclaration) → list_any is_primary (map canonical_column columns) ≡ list_any is_primary columns
any_primary [] = refl
any_primary (column ∷ columns) =
    ap (λ b. b || list_any is_primary (map canonical_column columns)) (same_primary column) ∙ ap (λ b. is_primary column || b) (any_primary columns)

same_lack : (o : Option TableText) → table_lacks_id (option_map canonical_table o) ≡ table_lacks_id o
same_lack None = refl
same_lack (Some table) =
    ap (λ b. not b || list_any is_primary (map canonical_column table.others)) (same_identifier table.first)
    ∙ ap (λ b. not (is_identifier table.first) || b) (any_primary table.others)

column_within : (column : ColumnDeclaration) → is_column_over column ≡ false → is_column_over (canonical_column column) ≡ false
column_within (CharColumn name digits nullable hidden) e =
    ap (λ n. is_long name || not (is_between 1 64 n)) (same_number (number_of digits) (length_within name digits nullable hidden e).1) ∙ e
column_within (IntegerColumn name primary None hidden) e = e
column_within (NullableColumn name hidden) e = e
column_within (IntegerColumn name primary (Some (To table says_id)) hidden) e = e

columns_within : (columns : List ColumnDeclaration) → list_any is_column_over columns ≡ false → list_any is_column_over (map canonical_column columns) ≡ false
columns_within [] e = refl
columns_within (column ∷ columns) e =
    let both = neither (is_column_over column) (list_any is_column_over columns) e in
    or_from _ _ (column_within column both.0) (columns_within columns both.1)

table_within : (table : TableText) → is_table_over table ≡ false → is_table_over (canonical_table table) ≡ false
table_within table e =
    let both = neither (is_long table.name || nat_lt 24 (length (columns_written table))) (list_any is_column_over (columns_written table)) e in
    or_from _ _ (ap (λ n. is_long table.name || nat_lt 24 n) (length-map (columns_written table) canonical_column) ∙ both.0)
    (columns_within (columns_written table) both.1)

tables_within : (tables : SchemaText) → list_any is_table_over tables ≡ false → list_any is_table_over (map canonical_table tables) ≡ false
tables_within [] e = refl
tables_within (table ∷ tables) e =
    let both = neither (is_table_over table) (list_any is_table_over tables) e in
    or_from _ _ (table_within table both.0) (tables_within tables both.1)

same_fields : (at : ℕ) (tables : SchemaText) → fields_from at (map canonical_table tables) ≡ fields_from at tables
unfolding fields_from
same_fields at [] = refl
same_fields at (table ∷ later) =
    ap (λ (places : List ℕ). map (λ column. record { table = at; column = column }) places ++ fields_from (at + 1) (map canonical_table later))
    (places_mapped canonical_column 0 (columns_written table))
    ∙ ap (λ (rest : List Field). map (λ column. record { table = at; column = column }) (places_of (columns_written table)) ++ rest) (same_fields (at + 1) later)

both_same : {X : Type 0} (a b c d : Option X) → a ≡ b → c ≡ d → option_or a c ≡ option_or b d
both_same a b c d e f = ap (λ x. option_or x c) e ∙ ap (λ x. option_or b x) f

module _ (tables : SchemaText) where
  abbrev canonical : SchemaText
  canonical = map canonical_table tables

  same_place : (name : List ℕ) → declared_table canonical name ≡ declared_table tables name
  same_place name =
      place_of (λ (table : TableText). bytes_eq name table.name) canonical
      ∙ (place_mapped (λ (table : TableText). bytes_eq name table.name) canonical_table 0 tables
      ∙ sym (place_of (λ (table : TableText). bytes_eq name table.name) tables))

  -- the same schema

  same_column : (column : ColumnDeclaration) → is_column_over column ≡ false → column_of canonical (canonical_column column) ≡ column_of tables column
  same_column (CharColumn name digits nullable hidden) e =
      ap (λ n. record { name = name; kind = text_kind nullable n; hidden = hidden; child = None }) (same_number (number_of digits) (length_within name digits nullable hidden e).1)
  same_column (NullableColumn name hidden) e = refl
  same_column (IntegerColumn name primary None hidden) e = refl
  same_column (IntegerColumn name primary (Some (To table says_id)) hidden) e =
      ap (λ child. record { name = name; kind = schema.Integer; hidden = true; child = child }) (same_place table)

  same_meanings : (columns : List ColumnDeclaration) → list_any is_column_over columns ≡ false
      → map (column_of canonical) (map canonical_column columns) ≡ map (column_of tables) columns
  same_meanings [] e = refl
  same_meanings (column ∷ columns) e =
      let both = neither (is_column_over column) (list_any is_column_over columns) e in
      ap (λ (c : Column). c ∷ map (column_of canonical) (map canonical_column columns)) (same_column column both.0)
      ∙ ap (λ (cs : List Column). column_of tables column ∷ cs) (same_meanings columns both.1)

  same_table : (table : TableText) → is_table_over table ≡ false → table_of canonical (canonical_table table) ≡ table_of tables table
  same_table table e =
      ap (λ (columns : List Column). record { name = table.name; columns = columns })
      (same_meanings (columns_written table)
      (neither (is_long table.name || nat_lt 24 (length (columns_written table))) (list_any is_column_over (columns_written table)) e).1)

  same_tables : (some : SchemaText) → list_any is_table_over some ≡ false → map (table_of canonical) (map canonical_table some) ≡ map (table_of tables) some
  same_tables [] e = refl
  same_tables (table ∷ later) e =
      let both = neither (is_table_over table) (list_any is_table_over later) e in
      ap (λ (t : schema.Table). t ∷ map (table_of canonical) (map canonical_table later)) (same_table table both.0)
      ∙ ap (λ (ts : List schema.Table). table_of tables table ∷ ts) (same_tables later both.1)

  -- the same faults

  same_duplicate : (field : Field) → is_duplicate canonical field ≡ is_duplicate tables field
  same_duplicate field =
      ap (λ (names : List (List ℕ)). (field.column == 0 && repeats names field.table) || column_repeats canonical field) (same_table_names tables)
      ∙ ap (λ (names : List (List ℕ)). (field.column == 0 && table_repeats tables field.table) || repeats names field.column)
      (ap (map declared_name) (ap columns_at (slice_get-map canonical_table tables field.table) ∙ same_columns (slice_get tables field.table))
      ∙ same_names (columns_at (slice_get tables field.table)))

  same_refers : (o : Option ColumnDeclaration) → refers_nowhere canonical (option_map canonical_column o) ≡ refers_nowhere tables o
  same_refers None = refl
  same_refers (Some (CharColumn name digits nullable hidden)) = refl
  same_refers (Some (IntegerColumn name primary None hidden)) = refl
  same_refers (Some (NullableColumn name hidden)) = refl
  same_refers (Some (IntegerColumn name primary (Some (To table says_id)) hidden)) = ap is_none (same_place table)

  same_unknown : (field : Field) → is_unknown canonical field ≡ is_unknown tables field
  same_unknown field =
      ap (refers_nowhere canonical)
      (ap (λ columns. slice_get columns field.column) (ap columns_at (slice_get-map canonical_table tables field.table) ∙ same_columns (slice_get tables field.table))
      ∙ slice_get-map canonical_column (columns_at (slice_get tables field.table)) field.column)
      ∙ same_refers (slice_get (columns_at (slice_get tables field.table)) field.column)

  module _ (within : is_over tables ≡ false) where
    same_schema : schema_of canonical ≡ schema_of tables
    same_schema = same_tables tables (neither (nat_lt 12 (length tables)) (list_any is_table_over tables) within).1

    still_within : is_over canonical ≡ false
    still_within =
        let both = neither (nat_lt 12 (length tables)) (list_any is_table_over tables) within in
        or_from _ _ (ap (λ n. nat_lt 12 n) (length-map tables canonical_table) ∙ both.0) (tables_within tables both.1)

    same_places : places_of canonical ≡ places_of tables
    same_places = places_mapped canonical_table 0 tables

    same_limit : broken_if (is_over canonical) OverLimit ≡ broken_if (is_over tables) OverLimit
    same_limit = ap (λ b. broken_if b OverLimit) (still_within ∙ sym within)

    same_duplicates : option_map duplicate_at (find (is_duplicate canonical) (fields canonical)) ≡ option_map duplicate_at (find (is_duplicate tables) (fields tables))
    same_duplicates =
        ap (option_map duplicate_at)
        (ap (find (is_duplicate canonical)) (same_fields 0 tables) ∙ find_same (is_duplicate canonical) (is_duplicate tables) same_duplicate (fields tables))

    same_lacks : option_map NoId (find (lacks_id canonical) (places_of canonical)) ≡ option_map NoId (find (lacks_id tables) (places_of tables))
    same_lacks =
        ap (option_map NoId)
        (ap (find (lacks_id canonical)) same_places
        ∙ find_same (lacks_id canonical) (lacks_id tables) (λ place. ap table_lacks_id (slice_get-map canonical_table tables place) ∙ same_lack (slice_get tables place)) (places_of tables))

    same_unknowns : option_map unknown_at (find (is_unknown canonical) (fields canonical)) ≡ option_map unknown_at (find (is_unknown tables) (fields tables))
    same_unknowns =
        ap (option_map unknown_at)
        (ap (find (is_unknown canonical)) (same_fields 0 tables) ∙ find_same (is_unknown canonical) (is_unknown tables) same_unknown (fields tables))

    same_shared : option_map TwoParents (find (is_shared canonical) (places_of canonical)) ≡ option_map TwoParents (find (is_shared tables) (places_of tables))
    same_shared =
        ap (option_map TwoParents)
        (ap (find (is_shared canonical)) same_places
        ∙ find_same (is_shared canonical) (is_shared tables) (λ place. ap (λ (all : Schema). nat_lt 1 (references_naming all place)) same_schema) (places_of tables))

    same_cycles : option_map Cycle (find (returns (schema_of canonical)) (places_of canonical)) ≡ option_map Cycle (find (returns (schema_of tables)) (places_of tables))
    same_cycles =
        ap (option_map Cycle)
        (ap (find (returns (schema_of canonical))) same_places ∙ ap (λ (all : Schema). find (returns all) (places_of tables)) same_schema)

    same_roots : wrong_roots (roots_of (schema_of canonical)) ≡ wrong_roots (roots_of (schema_of tables))
    same_roots = ap (λ (all : Schema). wrong_roots (roots_of all)) same_schema

    same_fault : first_broken (schema_rules canonical) ≡ first_broken (schema_rules tables)
    same_fault =
        both_same _ _ _ _ same_limit
        (both_same _ _ _ _ same_duplicates
        (both_same _ _ _ _ same_lacks (both_same _ _ _ _ same_unknowns (both_same _ _ _ _ same_shared (both_same _ _ _ _ same_cycles (both_same _ _ _ _ same_roots refl))))))

-- what the rules leave of each column

reference_named : (tables : SchemaText) (table : List ℕ) (o : Option ℕ) → declared_table tables table ≡ o → is_none o ≡ false
    → reference_text (schema_of tables) o ≡ codes " REFERENCES " ++ (table ++ codes "(id)")
reference_named tables table None e h = absurd (cc)
reference_named tables table (Some child) e h =
    let f = found_in (λ (other : TableText). bytes_eq table other.name) 0 tables child (sym (place_of (λ (other : TableText). bytes_eq table other.name) tables) ∙ e) in
    let c : child ≡ 0 + f.index = f.counted in
    let at : f.index ≡ child = omega arith in
    let there : slice_get (schema_of tables) child ≡ Some (table_of tables f.element) =
    slice_get-map (table_of tables) tables child
    ∙ (ap (λ place. option_map (table_of tables) (slice_get tables place)) (sym at) ∙ ap (option_map (table_of tables)) f.there) in
    ap (λ (name : List ℕ). codes " REFERENCES " ++ (name ++ codes "(id)"))
    (ap name_or_none there ∙ sym ((bytes_eq-Decides table f.element.name).0 f.passes))

proper_column : (tables : SchemaText) (column : ColumnDeclaration) → is_column_over column ≡ false → list_all is_spelled (spell_declaration column) ≡ true
    → is_primary column ≡ false → refers_nowhere tables (Some column) ≡ false → IsProper tables column
proper_column tables (CharColumn name digits nullable hidden) within spelled plain known =
    let length = length_within name digits nullable hidden within in
    (column_named (CharColumn name digits nullable hidden) spelled, length.0, length.1)
proper_column tables (NullableColumn name hidden) within spelled plain known = column_named (NullableColumn name hidden) spelled
proper_column tables (IntegerColumn name primary None hidden) within spelled plain known =
    (column_named (IntegerColumn name primary None hidden) spelled, plain)
proper_column tables (IntegerColumn name true (Some (To table says_id)) hidden) within spelled plain known = absurd (cc)
proper_column tables (IntegerColumn name false (Some (To table says_id)) hidden) within spelled plain known =
    let names = and_parts (is_name name) (list_all is_spelled (Word ReferencesWord ∷ Name table ∷ (spell_if says_id (Open ∷ Name (codes "id") ∷ Closing ∷ []) ++ spell_if hidden (Word HiddenWord ∷ [])))) spelled in (
      names.0,
      plain,
      (and_parts (is_name table) (list_all is_spelled (spell_if says_id (Open ∷ Name (codes "id") ∷ Closing ∷ []) ++ spell_if hidden (Word HiddenWord ∷ []))) names.1).0,
      reference_named tables table (declared_table tables table) refl known,
    )

module _ (tables : SchemaText) (obeys : MeetsAll (schema_rules tables)) (spelled : list_all is_spelled (flat_map spell_declared_table tables) ≡ true) where
  proper_table : (k : ℕ) (table : TableText) → slice_get tables k ≡ Some table → IsProperTable tables table
  proper_table k table e = record {
    named = table_named_well tables obeys spelled k table e;
    begins = (identified tables obeys spelled k table e).0;
    proper = λ j column h.
        proper_column tables column (column_kept tables obeys spelled k (suc j) table column e h)
        (column_spelled table (suc j) column (table_spelled tables obeys spelled k table e) h)
        (none_at is_primary table.others j column (identified tables obeys spelled k table e).1 h)
        (known tables obeys spelled k (suc j) table column e h);
  }

  canonical_reads : schema_reading (canonical_text (schema_of tables)) ≡ Ok (schema_of tables)
  canonical_reads =
      let within : is_over tables ≡ false = (kept_rules tables obeys).limits in
      let tree : schema_syntax_of (canonical_text (schema_of tables)) ≡ Ok (map canonical_table tables) =
      (schema_places.tree (canonical_text (schema_of tables)) (map canonical_table tables)).1 (tables_read tables tables proper_table) in
      ap schema_judged tree
      ∙ (ap (schema_or (schema_of (map canonical_table tables))) (same_fault tables within ∙ obeys)
      ∙ ap (λ (all : Schema). Ok all) (same_schema tables within))

pub canonical_text_means : CanonicalTextMeansItsSchema
canonical_text_means text schema means =
    let reads = canonical_reads means.tables means.obeys (tables_spelled text schema means) in
    subst (λ (all : Schema). MeansSchema (canonical_text all) all) means.means
    ((one_schema.read (canonical_text (schema_of means.tables)) (schema_of means.tables)).0 reads)

pub catalog_of_text : ACatalogOfEachText
catalog_of_text text cat means counted few some fits version = record {
  meant = canonical_text_means text cat.schema means;
  counted = counted;
  few_rows = few;
  some_generation = some;
  generation_fits = fits;
  some_version = version;
}
