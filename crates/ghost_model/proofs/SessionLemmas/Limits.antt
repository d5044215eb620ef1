-- What the limits of an accepted schema leave: the asks that a key may send fit a frame, and so does a row of a reply.
use Rattle.std.proofs.Common.{◌≡◌, ℕ, zero, suc, ◌+◌, ◌-◌, ◌*◌, ◌/◌, ◌^◌, ◌<◌, ◌≤◌, Bool, true, false, ◌&&◌, ◌||◌, not, List, [], ◌∷◌, ◌++◌, length, replicate, slice_get, map, sym, ◌∙◌, ap, subst, refl, arith, lit<, length-append, Option, Some, None, option_map, mod-lt}
use Rattle.std.specs.Prelude.{◌==◌, nat_lt, nat_le, flat_map, sum, if◌then◌else◌}
use Rattle.std.specs.List.{list_all, list_any}
use Rattle.std.specs.Int.{bytes_high_first, byte_at, to_be_bytes, w64}
use Rattle.std.proofs.lemmas.Bool.{ltb-true, leb-true, le-leb}
use Rattle.std.proofs.lemmas.Bool.Decides.{nat_tests}
use Rattle.std.proofs.lemmas.Option.{slice_get-map}
use Rattle.std.proofs.lemmas.List.Sums.{sum_by-cons}
use Rattle.ghost_model.specs.core.Schema.{Schema, Kind, Integer, Chars, IntegerOrNull, CharsOrNull, plain_of, Column, columns_or_none, columns_of, column_at, is_shown, is_visible}
use Rattle.ghost_model.specs.refusals.SchemaGrammar.{To, ColumnDeclaration, CharColumn, IntegerColumn, NullableColumn, TableText, SchemaText}
use Rattle.ghost_model.specs.refusals.SchemaMeaning.{columns_written, column_of, table_of, schema_of}
use Rattle.ghost_model.specs.refusals.SchemaFaults.{is_over, is_table_over, is_column_over, MeansSchema}
use Rattle.ghost_model.specs.laws.SchemaTrees.{IsTree}
use Rattle.ghost_model.specs.refusals.Tokens.{is_printable, is_between, number_of}
use Rattle.ghost_model.specs.core.Values.{Value, Null, Number, Text}
use Rattle.ghost_model.specs.core.Query.{Equal, Unequal, Less, AtMost, More, AtLeast, Test, Compared, IsNull, IsNotNull}
use Rattle.ghost_model.specs.core.Groups.{ends}
use Rattle.ghost_model.specs.core.Database.{is_of_kind, is_text}
use Rattle.ghost_model.specs.forms.Cells.{cell_width, encode_cell, above_lowest, padded}
use Rattle.ghost_model.specs.core.Channel.{Ask, ColumnTest, AskFrame}
use Rattle.ghost_model.specs.forms.Frames.{AreBytes, IsFrame}
use Rattle.ghost_model.specs.core.Asks.{kind_or_none, kind_at, test_code, code_byte, literal_cell, fits_kind, test_bytes, ask_payload, ascend_from, is_proper_ask, row_width}
use Rattle.ghost_model.proofs.ChannelLemmas.Tests.{false_is_not, BothHold, both_hold, hold_both}
use Rattle.ghost_model.proofs.ChannelLemmas.Asks.{cell_length}
use Rattle.ghost_model.proofs.SchemaRuleLemmas.{kept_rules}
use Rattle.ghost_model.proofs.SchemaTreeLemmas.{schemas_are_trees}

-- the limits that count here
pub record IsSmall (schema : Schema) : Type 0 where
  pub few_tables : length schema ≤ 12
  pub few_columns : (table : ℕ) → length (columns_of schema table) ≤ 24
  pub narrow : (table column : ℕ) → cell_width (kind_at schema table column) ≤ 65

neither : (a b : Bool) → (a || b) ≡ false → (a ≡ false) × (b ≡ false)
neither false b e = (refl, e)
neither true b e = absurd (cc)

none_at : {X : Type 0} (test : X → Bool) (xs : List X) (k : ℕ) (x : X) → list_any test xs ≡ false → slice_get xs k ≡ Some x → test x ≡ false
none_at test [] k x e h = absurd (cc)
none_at test (y ∷ ys) zero x e h = let same : y ≡ x = cc in ap test (sym same) ∙ (neither (test y) (list_any test ys) e).0
none_at test (y ∷ ys) (suc k) x e h = none_at test ys k x (neither (test y) (list_any test ys) e).1 h

within : (most n : ℕ) → not (is_between 1 most n) ≡ false → n ≤ most
within most n e = grind (arith, nat_tests)

narrow_column : (tables : SchemaText) (column : ColumnDeclaration) → is_column_over column ≡ false → cell_width (column_of tables column).kind ≤ 65
narrow_column tables (CharColumn name digits false hidden) e = omega (arith, within 64 (number_of digits) (neither _ _ e).1)
narrow_column tables (CharColumn name digits true hidden) e = omega (arith, within 64 (number_of digits) (neither _ _ e).1)
narrow_column tables (NullableColumn name hidden) e = omega arith
narrow_column tables (IntegerColumn name primary None hidden) e = omega arith
narrow_column tables (IntegerColumn name primary (Some (To table says_id)) hidden) e = omega arith

narrow_in :
    (tables : SchemaText) (columns : List ColumnDeclaration) (column : ℕ) (found : Option ColumnDeclaration) → list_any is_column_over columns ≡ false
    → slice_get columns column ≡ found → cell_width (kind_or_none (option_map (column_of tables) found)) ≤ 65
narrow_in tables columns column None e h = omega arith
narrow_in tables columns column (Some text) e h = narrow_column tables text (none_at is_column_over columns column text e h)

narrow_at :
    (tables : SchemaText) (table column : ℕ) (found : Option TableText) → list_any is_table_over tables ≡ false → slice_get tables table ≡ found
    → cell_width (kind_or_none (slice_get (columns_or_none (option_map (table_of tables) found)) column)) ≤ 65
narrow_at tables table column None e h = omega arith
narrow_at tables table column (Some text) e h =
    let this : is_table_over text ≡ false = none_at is_table_over tables table text e h in
    subst (λ (c : Option Column). cell_width (kind_or_none c) ≤ 65) (sym (slice_get-map (column_of tables) (columns_written text) column))
    (narrow_in tables (columns_written text) column (slice_get (columns_written text) column) (neither _ _ this).1 refl)

never_true : (b : Bool) → (b ≡ true → ⊥) → b ≡ false
never_true true h = absurd (h refl)
never_true false h = refl

narrow_schema : (tables : SchemaText) → is_over tables ≡ false → (table column : ℕ) → cell_width (kind_at (schema_of tables) table column) ≤ 65
narrow_schema tables e table column =
    subst (λ (columns : List Column). cell_width (kind_or_none (slice_get columns column)) ≤ 65)
    (sym (ap columns_or_none (slice_get-map (table_of tables) tables table)))
    (narrow_at tables table column (slice_get tables table) (neither _ _ e).1 refl)

pub schema_is_small : (text : List ℕ) (schema : Schema) → MeansSchema text schema → IsSmall schema
schema_is_small text schema means =
    let tree : IsTree schema = schemas_are_trees text schema means in
    record {
      few_tables = tree.few_tables;
      few_columns = tree.few_columns;
      narrow = subst (λ (s : List _). (table column : ℕ) → cell_width (kind_at s table column) ≤ 65) means.means
          (narrow_schema means.tables (kept_rules means.tables means.obeys).limits);
    }

-- bytes
cons_bytes : (x : ℕ) (xs : List ℕ) → x < 256 → AreBytes xs → AreBytes (x ∷ xs)
cons_bytes x xs m h zero = m
cons_bytes x xs m h (suc i) = h i

pub append_bytes : (xs ys : List ℕ) → AreBytes xs → AreBytes ys → AreBytes (xs ++ ys)
append_bytes [] ys h k = k
append_bytes (x ∷ xs) ys h k = cons_bytes x (xs ++ ys) (h 0) (append_bytes xs ys (λ i. h (suc i)) k)

no_bytes : AreBytes []
no_bytes i = lit< tt

byte_below : (place n : ℕ) → byte_at place n < 256
byte_below zero n = mod-lt n (lit< tt)
byte_below (suc place) n = mod-lt (n / 256 ^ suc place) (lit< tt)

pub high_bytes : (count n : ℕ) → AreBytes (bytes_high_first count n)
high_bytes zero n = no_bytes
high_bytes (suc count) n = cons_bytes (byte_at count n) (bytes_high_first count n) (byte_below count n) (high_bytes count n)

zero_bytes : (count : ℕ) → AreBytes (replicate count 0)
zero_bytes zero = no_bytes
zero_bytes (suc count) = cons_bytes 0 (replicate count 0) (lit< tt) (zero_bytes count)

printable_byte : (byte : ℕ) → is_printable byte ≡ true → byte < 256
printable_byte byte e = grind (arith, nat_tests)

printable_bytes : (text : List ℕ) → list_all is_printable text ≡ true → AreBytes text
printable_bytes [] e = no_bytes
printable_bytes (byte ∷ text) e =
    let both : BothHold (is_printable byte) (list_all is_printable text) = both_hold _ _ e in
    cons_bytes byte text (printable_byte byte both.one) (printable_bytes text both.other)

text_cell_bytes : (most : ℕ) (text : List ℕ) → is_text most text ≡ true → AreBytes (padded most text)
text_cell_bytes most text e =
    let both : BothHold (nat_le (length text) most) (list_all is_printable text) = both_hold _ _ e in
    append_bytes text (replicate (most - length text) 0) (printable_bytes text both.other) (zero_bytes (most - length text))

pub cell_bytes : (kind : Kind) (value : Value) → is_of_kind kind value ≡ true → AreBytes (encode_cell kind value)
cell_bytes Integer (Number z) e = high_bytes 8 _
cell_bytes Integer (Text _) e = absurd (false_is_not e)
cell_bytes Integer Null e = absurd (false_is_not e)
cell_bytes (Chars most) (Number _) e = absurd (false_is_not e)
cell_bytes (Chars most) (Text text) e = text_cell_bytes most text e
cell_bytes (Chars most) Null e = absurd (false_is_not e)
cell_bytes IntegerOrNull (Number z) e = cons_bytes 1 (to_be_bytes w64 (above_lowest z)) (lit< tt) (high_bytes 8 (above_lowest z))
cell_bytes IntegerOrNull (Text _) e = absurd (false_is_not e)
cell_bytes IntegerOrNull Null e = zero_bytes 9
cell_bytes (CharsOrNull most) (Number _) e = absurd (false_is_not e)
cell_bytes (CharsOrNull most) (Text text) e = cons_bytes 1 (padded most text) (lit< tt) (text_cell_bytes most text e)
cell_bytes (CharsOrNull most) Null e = zero_bytes (suc most)

-- the code of a test and its literal's cell
code_below : (test : Test) → test_code test ≤ 8
code_below (Compared Equal literal) = lit< tt
code_below (Compared Unequal literal) = lit< tt
code_below (Compared Less literal) = lit< tt
code_below (Compared AtMost literal) = lit< tt
code_below (Compared More literal) = lit< tt
code_below (Compared AtLeast literal) = lit< tt
code_below IsNull = lit< tt
code_below IsNotNull = lit< tt

with_mark : (n : ℕ) (more : Bool) → n ≤ 8 → n + (if more then 128 else 0) < 256
with_mark n true h = omega (arith, h)
with_mark n false h = omega (arith, h)

code_is_byte : (test : ColumnTest) → code_byte test < 256
code_is_byte test = with_mark (test_code test.test) test.more (code_below test.test)

literal_bytes : (kind : Kind) (test : Test) → fits_kind kind test ≡ true → AreBytes (literal_cell kind test)
literal_bytes kind (Compared operator literal) e = cell_bytes (plain_of kind) literal e
literal_bytes kind IsNull e = no_bytes
literal_bytes kind IsNotNull e = no_bytes

plain_width : (kind : Kind) → cell_width (plain_of kind) ≤ cell_width kind
plain_width Integer = omega arith
plain_width (Chars most) = omega arith
plain_width IntegerOrNull = omega arith
plain_width (CharsOrNull most) = omega arith

literal_length : (kind : Kind) (test : Test) → fits_kind kind test ≡ true → length (literal_cell kind test) ≤ cell_width kind
literal_length kind (Compared operator literal) e = omega (arith, cell_length (plain_of kind) literal e, plain_width kind)
literal_length kind IsNull e = omega arith
literal_length kind IsNotNull e = omega arith

-- the tests of a proper ask
record AllSeven (a b c d e f g : Bool) : Type 0 where
  first : a ≡ true
  second : b ≡ true
  third : c ≡ true
  fourth : d ≡ true
  fifth : e ≡ true
  sixth : f ≡ true
  seventh : g ≡ true

all_seven : (a b c d e f g : Bool) → (a && b && c && d && e && f && g) ≡ true → AllSeven a b c d e f g
all_seven true true true true true true true h = record { first = refl; second = refl; third = refl; fourth = refl; fifth = refl; sixth = refl; seventh = refl }
all_seven true true true true true true false h = absurd (false_is_not h)
all_seven true true true true true false g h = absurd (false_is_not h)
all_seven true true true true false f g h = absurd (false_is_not h)
all_seven true true true false e f g h = absurd (false_is_not h)
all_seven true true false d e f g h = absurd (false_is_not h)
all_seven true false c d e f g h = absurd (false_is_not h)
all_seven false b c d e f g h = absurd (false_is_not h)

shown_within : (columns : List Column) (place : ℕ) → is_shown (slice_get columns place) ≡ true → place < length columns
shown_within [] place e = absurd (false_is_not e)
shown_within (column ∷ columns) zero e = omega arith
shown_within (column ∷ columns) (suc place) e = let later : place < length columns = shown_within columns place e in omega (arith, later)

module _ (schema : Schema) (small : IsSmall schema) where
  visible_within : (table column : ℕ) → is_visible schema table column ≡ true → column < length (columns_of schema table)
  visible_within table column e =
      let both : BothHold (nat_lt 0 column) (is_shown (column_at schema table column)) = both_hold _ _ e in
      shown_within (columns_of schema table) column both.other

  visible_byte : (table column : ℕ) → is_visible schema table column ≡ true → column < 256
  visible_byte table column e = omega (arith, visible_within table column e, small.few_columns table)

  ascend_within :
      (table before : ℕ) (columns : List ℕ) → before < length (columns_of schema table) → ascend_from before columns ≡ true
      → list_all (is_visible schema table) columns ≡ true → before + length columns < length (columns_of schema table)
  ascend_within table before [] m a v = omega (arith, m)
  ascend_within table before (column ∷ columns) m a v =
      let next : BothHold (nat_lt before column) (ascend_from column columns) = both_hold _ _ a in
      let seen : BothHold (is_visible schema table column) (list_all (is_visible schema table) columns) = both_hold _ _ v in
      let above : before < column = ltb-true before column next.one in
      let rest = ascend_within table column columns (visible_within table column seen.one) next.other seen.other in
      omega (arith, above, rest)

  few_columns : (table : ℕ) (columns : List ℕ) → ascend_from 0 columns ≡ true → list_all (is_visible schema table) columns ≡ true → length columns ≤ 24
  few_columns table [] a v = omega arith
  few_columns table (column ∷ columns) a v =
      let next : BothHold (nat_lt 0 column) (ascend_from column columns) = both_hold _ _ a in
      let seen : BothHold (is_visible schema table column) (list_all (is_visible schema table) columns) = both_hold _ _ v in
      let rest = ascend_within table column columns (visible_within table column seen.one) next.other seen.other in
      omega (arith, rest, small.few_columns table)

  columns_bytes : (table : ℕ) (columns : List ℕ) → list_all (is_visible schema table) columns ≡ true → AreBytes columns
  columns_bytes table [] v = no_bytes
  columns_bytes table (column ∷ columns) v =
      let seen : BothHold (is_visible schema table column) (list_all (is_visible schema table) columns) = both_hold _ _ v in
      cons_bytes column columns (visible_byte table column seen.one) (columns_bytes table columns seen.other)

  abbrev AreSeen : ℕ → List ColumnTest → Type 0
  AreSeen table tests = list_all (λ test. is_visible schema table test.column) tests ≡ true

  abbrev AreOfKind : ℕ → List ColumnTest → Type 0
  AreOfKind table tests = list_all (λ test. fits_kind (kind_at schema table test.column) test.test) tests ≡ true

  tests_bytes :
      (table : ℕ) (tests : List ColumnTest) → AreSeen table tests → AreOfKind table tests
      → AreBytes (flat_map (test_bytes schema table) tests)
  tests_bytes table [] v k = no_bytes
  tests_bytes table (test ∷ tests) v k =
      let seen : BothHold (is_visible schema table test.column) (list_all (λ test. is_visible schema table test.column) tests) = both_hold _ _ v in
      let kinds : BothHold (fits_kind (kind_at schema table test.column) test.test) (list_all (λ test. fits_kind (kind_at schema table test.column) test.test) tests) =
      both_hold _ _ k in
      let cell : List ℕ = literal_cell (kind_at schema table test.column) test.test in
      let more : List ℕ = flat_map (test_bytes schema table) tests in
      cons_bytes test.column (code_byte test ∷ (cell ++ more)) (visible_byte table test.column seen.one)
      (cons_bytes (code_byte test) (cell ++ more) (code_is_byte test)
      (append_bytes cell more (literal_bytes (kind_at schema table test.column) test.test kinds.one)
      (tests_bytes table tests seen.other kinds.other)))

  tests_length :
      (table : ℕ) (tests : List ColumnTest) → AreOfKind table tests
      → length (flat_map (test_bytes schema table) tests) ≤ 67 * length tests
  tests_length table [] k = omega arith
  tests_length table (test ∷ tests) k =
      let kinds : BothHold (fits_kind (kind_at schema table test.column) test.test) (list_all (λ test. fits_kind (kind_at schema table test.column) test.test) tests) =
      both_hold _ _ k in
      let size : length (literal_cell (kind_at schema table test.column) test.test) ≤ cell_width (kind_at schema table test.column) =
      literal_length (kind_at schema table test.column) test.test kinds.one in
      let rest : length (flat_map (test_bytes schema table) tests) ≤ 67 * length tests = tests_length table tests kinds.other in
      omega (arith, size, rest, small.narrow table test.column, length-append (literal_cell (kind_at schema table test.column) test.test) (flat_map (test_bytes schema table) tests))

  not_zero : (n : ℕ) → 0 < n → not (n == 0) ≡ true
  not_zero n h = grind (arith, nat_tests)

  abbrev Parts : Ask → Type 0
  Parts ask = AllSeven (nat_lt ask.table (length schema)) (list_all (is_visible schema ask.table) ask.columns) (ascend_from 0 ask.columns) (nat_le (length ask.tests) 16)
      (list_all (λ test. is_visible schema ask.table test.column) ask.tests) (list_all (λ test. fits_kind (kind_at schema ask.table test.column) test.test) ask.tests)
      (ends (λ one. one.more) ask.tests)

  parts_of : (ask : Ask) → is_proper_ask schema ask ≡ true → Parts ask
  parts_of ask e = all_seven _ _ _ _ _ _ _ e

  -- the frame of an ask that a key may send
  pub ask_is_frame : (ask : Ask) (serial : ℕ) → is_proper_ask schema ask ≡ true → 0 < serial → serial < 2 ^ 32 → IsFrame (AskFrame serial (ask_payload schema ask))
  ask_is_frame ask serial e some fits =
      let parts : Parts ask = parts_of ask e in
      let tests : List ℕ = flat_map (test_bytes schema ask.table) ask.tests in
      let table : ask.table < length schema = ltb-true ask.table (length schema) parts.first in
      let columns : length ask.columns ≤ 24 = few_columns ask.table ask.columns parts.third parts.second in
      let count : length ask.tests ≤ 16 = leb-true (length ask.tests) 16 parts.fourth in
      let long : length (flat_map (test_bytes schema ask.table) ask.tests) ≤ 67 * length ask.tests = tests_length ask.table ask.tests parts.sixth in
      let joined = length-append ask.columns (length ask.tests ∷ flat_map (test_bytes schema ask.table) ask.tests) in
      record {
        serial = not_zero serial some;
        size = hold_both _ _ (le-leb 3 (length (ask_payload schema ask)) (omega (arith, joined))) (le-leb (length (ask_payload schema ask)) 2040 (omega (arith, joined, columns, count, long)));
        payload = refl;
        bytes = cons_bytes ask.table (length ask.columns ∷ (ask.columns ++ length ask.tests ∷ tests)) (omega (arith, table, small.few_tables))
            (cons_bytes (length ask.columns) (ask.columns ++ length ask.tests ∷ tests) (omega (arith, columns))
            (append_bytes ask.columns (length ask.tests ∷ tests) (columns_bytes ask.table ask.columns parts.second)
            (cons_bytes (length ask.tests) tests (omega (arith, count)) (tests_bytes ask.table ask.tests parts.fifth parts.sixth))));
        serial_fits = fits;
        number_fits = lit< tt;
      }

  cells_fit : (table : ℕ) (columns : List ℕ) → sum (map cell_width (map (kind_at schema table) columns)) ≤ 65 * length columns
  cells_fit table [] = omega arith
  cells_fit table (column ∷ columns) =
      let rest = cells_fit table columns in
      let more : sum (map cell_width (map (kind_at schema table) (column ∷ columns))) ≡ cell_width (kind_at schema table column) + sum (map cell_width (map (kind_at schema table) columns)) =
      sum_by-cons (λ (n : ℕ). n) (cell_width (kind_at schema table column)) (map cell_width (map (kind_at schema table) columns)) in
      omega (arith, rest, more, small.narrow table column)

  -- a row of the reply to it fits a frame
  pub row_fits : (ask : Ask) → is_proper_ask schema ask ≡ true → row_width schema ask ≤ 2040
  row_fits ask e =
      let parts : Parts ask = parts_of ask e in
      let columns : length ask.columns ≤ 24 = few_columns ask.table ask.columns parts.third parts.second in
      omega (arith, columns, cells_fit ask.table ask.columns)

  -- its columns are visible
  pub proper_columns : (ask : Ask) → is_proper_ask schema ask ≡ true → list_all (is_visible schema ask.table) ask.columns ≡ true
  proper_columns ask e = let parts : Parts ask = parts_of ask e in parts.second
