-- The replies over the bytes of the visible image are those of its public part.
use Rattle.std.proofs.Common.{◌≡◌, ℕ, suc, ◌+◌, ◌-◌, ◌*◌, ◌<◌, Bool, true, false, ◌&&◌, nat_lt, List, [], ◌∷◌, ◌++◌, length, map, take, drop, flat_map, unwrap_or, Option, Some, None, ap, ap₂, sym, refl, ◌∙◌, arith, length-append, append_assoc, ltb-true}
use Rattle.std.specs.Prelude.{slice_get, if◌then◌else◌, not, ◌||◌}
use Rattle.std.specs.List.{list_all}
use Rattle.std.specs.Cmp.{first_so, second_so}
use Rattle.std.proofs.lemmas.List.{length-drop, drop-drop}
use Rattle.std.proofs.Math.Seq.{take-append_seam, drop-append_seam}
use Rattle.ghost_model.specs.core.Schema.{Schema, Column, Kind, Integer, Chars, IntegerOrNull, CharsOrNull, columns_of, column_at, is_nullable, plain_of, is_visible, is_shown}
use Rattle.ghost_model.specs.core.Values.{Value, Null, Number, Text, is_null, Row, Rows}
use Rattle.ghost_model.specs.core.Query.{Operator, Test, Compared, IsNull, IsNotNull}
use Rattle.ghost_model.specs.core.Groups.{each_group}
use Rattle.ghost_model.specs.core.Meaning.{meets_test}
use Rattle.ghost_model.specs.forms.Cells.{cell_width, encode_cell}
use Rattle.ghost_model.specs.core.Database.{is_of_kind, meets, holds, order_of}
use Rattle.ghost_model.specs.core.Channel.{Ask, ColumnTest}
use Rattle.ghost_model.specs.core.Asks.{RowCells, kind_at, kind_or_none, fits_kind, is_proper_ask}
use Rattle.ghost_model.specs.core.Split.{is_open, kind_of_column, value_at, asked_value, cells, are_of_kinds, meets_tests, visible_places, replies_from, replied}
use Rattle.ghost_model.specs.laws.ShortWords.{reply_row}
use Rattle.ghost_model.proofs.GroupLemmas.{each_group_mapped}
use Rattle.ghost_base.specs.CellLaws.{byte_order}
use Rattle.ghost_base.proofs.CellOrders.{cell_order}
use Rattle.host_exec.specs.RowBytes.{Form, Span, ByteTest, flag_width, is_null_cell, meets_cell, cell_test, cut, passes, is_met, width_before, data_columns, row_width, span_of, test_of, form_of, window, row_at, replies_at}
use Rattle.host_exec.specs.RowBytes as rows
use Rattle.host_exec.proofs.Widths.{behind_first}
use Rattle.host_exec.proofs.Windows.{window_within}
use Rattle.host_exec.proofs.ImageRows.{kinds_in, cell_at, row_length}

-- a visible column of a table, and its kind
record Shown (schema : Schema) (table column : ℕ) : Type 0 where
  some : 0 < column
  declared : Column
  there : column_at schema table column ≡ Some declared
  shown : is_open declared ≡ true

shown_by : (schema : Schema) (table column : ℕ) (o : Option Column) → column_at schema table column ≡ o → 0 < column → is_shown o ≡ true → Shown schema table column
shown_by schema table column None e h s = cc
shown_by schema table column (Some declared) e h s = record { some = h; declared = declared; there = e; shown = s }

shown_of : (schema : Schema) (table column : ℕ) → is_visible schema table column ≡ true → Shown schema table column
shown_of schema table column v =
    shown_by schema table column (column_at schema table column) refl (ltb-true 0 column (first_so (nat_lt 0 column) _ v)) (second_so (nat_lt 0 column) _ v)

-- the cell of a value of a kind says whether the value is NULL, and else has its plain cell
null_cell : (kind : Kind) (value : Value) → is_of_kind kind value ≡ true → is_null_cell (is_nullable kind) (encode_cell kind value) ≡ is_null value
null_cell Integer Null fits = cc
null_cell Integer (Number number) fits = refl
null_cell Integer (Text text) fits = cc
null_cell (Chars most) Null fits = cc
null_cell (Chars most) (Number number) fits = cc
null_cell (Chars most) (Text text) fits = refl
null_cell IntegerOrNull Null fits = refl
null_cell IntegerOrNull (Number number) fits = refl
null_cell IntegerOrNull (Text text) fits = cc
null_cell (CharsOrNull most) Null fits = refl
null_cell (CharsOrNull most) (Number number) fits = cc
null_cell (CharsOrNull most) (Text text) fits = refl

-- a value that is not NULL, whose plain cell this is
record HasPlain (kind : Kind) (value : Value) (cell : List ℕ) : Type 0 where
  fits : is_of_kind (plain_of kind) value ≡ true
  cell_is : cell ≡ encode_cell (plain_of kind) value

has_plain : (kind : Kind) (value : Value) → is_of_kind kind value ≡ true → is_null value ≡ false → HasPlain kind value (drop (flag_width (is_nullable kind)) (encode_cell kind value))
has_plain Integer value fits some = record { fits = fits; cell_is = refl }
has_plain (Chars most) value fits some = record { fits = fits; cell_is = refl }
has_plain IntegerOrNull Null fits some = cc
has_plain IntegerOrNull (Number number) fits some = record { fits = fits; cell_is = refl }
has_plain IntegerOrNull (Text text) fits some = cc
has_plain (CharsOrNull most) Null fits some = cc
has_plain (CharsOrNull most) (Number number) fits some = cc
has_plain (CharsOrNull most) (Text text) fits some = record { fits = fits; cell_is = refl }

not_null : (kind : Kind) (value : Value) → is_of_kind (plain_of kind) value ≡ true → is_null value ≡ false
not_null kind (Number number) fits = refl
not_null kind (Text text) fits = refl
not_null Integer Null fits = cc
not_null (Chars most) Null fits = cc
not_null IntegerOrNull Null fits = cc
not_null (CharsOrNull most) Null fits = cc

-- a comparison with a literal, which is not NULL
holds_by : (kind : Kind) (operator : Operator) (value literal : Value) (null : Bool) → is_null value ≡ null → is_of_kind kind value ≡ true → is_of_kind (plain_of kind) literal ≡ true
    → (not null && meets operator (byte_order (drop (flag_width (is_nullable kind)) (encode_cell kind value)) (encode_cell (plain_of kind) literal))) ≡ holds operator value literal
holds_by kind operator value literal true none fits of_kind = sym (ap (λ (b : Bool). not (b || is_null literal) && meets operator (order_of value literal)) none)
holds_by kind operator value literal false some fits of_kind =
    let plain = has_plain kind value fits some in
    ap (λ (bs : List ℕ). meets operator (byte_order bs (encode_cell (plain_of kind) literal))) plain.cell_is
    ∙ (ap (meets operator) (cell_order (plain_of kind) value literal plain.fits of_kind)
    ∙ sym (ap₂ (λ (x y : Bool). not (x || y) && meets operator (order_of value literal)) some (not_null kind literal of_kind)))

-- a test holds of a cell exactly where it holds of the value
meets_by_cell : (kind : Kind) (value : Value) (test : Test) → is_of_kind kind value ≡ true → fits_kind kind test ≡ true
    → meets_cell (cell_test kind test) (is_nullable kind) (encode_cell kind value) ≡ meets_test test (Some value)
meets_by_cell kind value (Compared operator literal) fits of_kind =
    ap (λ (b : Bool). not b && meets operator (byte_order (drop (flag_width (is_nullable kind)) (encode_cell kind value)) (encode_cell (plain_of kind) literal))) (null_cell kind value fits)
    ∙ holds_by kind operator value literal (is_null value) refl fits of_kind
meets_by_cell kind value IsNull fits of_kind = null_cell kind value fits
meets_by_cell kind value IsNotNull fits of_kind = ap not (null_cell kind value fits)

-- of each condition whether the next one is of its group, and whether it is met
record Told : Type 0 where
  more : Bool
  met : Bool

abbrev told_by : (ColumnTest → Bool) → ColumnTest → Told
told_by met one = record { more = one.more; met = met one }

each_of_told : (met : ColumnTest → Bool) (tests : List ColumnTest) → each_group (λ one. one.more) met tests ≡ each_group (λ (told : Told). told.more) (λ told. told.met) (map (told_by met) tests)
each_of_told met tests = sym (each_group_mapped (λ (told : Told). told.more) (λ told. told.met) (told_by met) tests)

module _ (schema : Schema) (table : ℕ) where
  -- the cell of a visible column in a row of the image
  record Cell (row : Row) (column : ℕ) : Type 0 where
    value : Value
    fits : is_of_kind (kind_at schema table column) value ≡ true
    has : value_at (visible_places schema table) row column ≡ Some value
    spelled : cut (cells (kinds_in (data_columns schema table)) row) (span_of schema table column) ≡ encode_cell (kind_at schema table column) value

  cell_of : (row : Row) (column : ℕ) → is_visible schema table column ≡ true → are_of_kinds (kinds_in (data_columns schema table)) row ≡ true → Cell row column
  cell_of row column v k =
      let s = shown_of schema table column v in
      let there : slice_get (data_columns schema table) (column - 1) ≡ Some s.declared = sym (behind_first (columns_of schema table) column s.some) ∙ s.there in
      let c = cell_at 1 (data_columns schema table) row s.declared (column - 1) there s.shown k in
      let kind : kind_of_column s.declared ≡ kind_at schema table column = sym (ap kind_or_none s.there) in
      let place : 1 + (column - 1) ≡ column = omega (arith, s.some) in
      record {
        value = c.value;
        fits = ap (λ (q : Kind). is_of_kind q c.value) (sym kind) ∙ c.fits;
        has = ap (value_at (visible_places schema table) row) (sym place) ∙ c.has;
        spelled = ap (λ (q : Kind). take (cell_width q) (drop (width_before (data_columns schema table) (column - 1)) (cells (kinds_in (data_columns schema table)) row))) (sym kind)
            ∙ (c.spelled ∙ ap (λ (q : Kind). encode_cell q c.value) kind);
      }

  -- a condition holds over the bytes exactly where it holds of the values
  one_test : (row : Row) (one : ColumnTest) → are_of_kinds (kinds_in (data_columns schema table)) row ≡ true → is_visible schema table one.column ≡ true
      → fits_kind (kind_at schema table one.column) one.test ≡ true
      → passes (cells (kinds_in (data_columns schema table)) row) (test_of schema table one) ≡ meets_test one.test (value_at (visible_places schema table) row one.column)
  one_test row one k v f =
      let c = cell_of row one.column v k in
      ap (meets_cell (cell_test (kind_at schema table one.column) one.test) (is_nullable (kind_at schema table one.column))) c.spelled
      ∙ (meets_by_cell (kind_at schema table one.column) c.value one.test c.fits f ∙ ap (meets_test one.test) (sym c.has))

  each_told : (row : Row) (tests : List ColumnTest) → are_of_kinds (kinds_in (data_columns schema table)) row ≡ true
      → list_all (λ one. is_visible schema table one.column) tests ≡ true → list_all (λ one. fits_kind (kind_at schema table one.column) one.test) tests ≡ true
      → map (told_by (λ one. passes (cells (kinds_in (data_columns schema table)) row) (test_of schema table one))) tests
      ≡ map (told_by (λ one. meets_test one.test (value_at (visible_places schema table) row one.column))) tests
  each_told row [] k v f = refl
  each_told row (one ∷ tests) k v f =
      ap₂ (λ (b : Bool) (told : List Told). record { more = one.more; met = b } ∷ told)
      (one_test row one k (first_so (is_visible schema table one.column) _ v) (first_so (fits_kind (kind_at schema table one.column) one.test) _ f))
      (each_told row tests k (second_so (is_visible schema table one.column) _ v) (second_so (fits_kind (kind_at schema table one.column) one.test) _ f))

  all_tests : (row : Row) (tests : List ColumnTest) → are_of_kinds (kinds_in (data_columns schema table)) row ≡ true
      → list_all (λ one. is_visible schema table one.column) tests ≡ true → list_all (λ one. fits_kind (kind_at schema table one.column) one.test) tests ≡ true
      → each_group (λ test. test.more) (passes (cells (kinds_in (data_columns schema table)) row)) (map (test_of schema table) tests)
      ≡ meets_tests (visible_places schema table) tests row
  all_tests row tests k v f =
      let bytes : List ℕ = cells (kinds_in (data_columns schema table)) row in
      let met : ColumnTest → Bool = λ one. passes bytes (test_of schema table one) in
      each_group_mapped (λ (test : ByteTest). test.more) (passes bytes) (test_of schema table) tests
      ∙ (each_of_told met tests
      ∙ (ap (each_group (λ (told : Told). told.more) (λ told. told.met)) (each_told row tests k v f)
      ∙ sym (each_of_told (λ one. meets_test one.test (value_at (visible_places schema table) row one.column)) tests)))

  all_cells : (row : Row) (columns : List ℕ) → are_of_kinds (kinds_in (data_columns schema table)) row ≡ true → list_all (is_visible schema table) columns ≡ true
      → flat_map (cut (cells (kinds_in (data_columns schema table)) row)) (map (span_of schema table) columns)
      ≡ cells (map (kind_at schema table) columns) (map (asked_value (visible_places schema table) row) columns)
  all_cells row [] k v = refl
  all_cells row (column ∷ columns) k v =
      let c = cell_of row column (first_so (is_visible schema table column) _ v) k in
      ap₂ (λ (a b : List ℕ). a ++ b) c.spelled (all_cells row columns k (second_so (is_visible schema table column) _ v))
      ∙ ap (cells (kind_at schema table column ∷ map (kind_at schema table) columns)) (ap (λ (o : Option Value). unwrap_or o (Text []) ∷ map (asked_value (visible_places schema table) row) columns) (sym c.has))

-- ---- the rows of a table

pub row_bytes_are : (file : List ℕ) (at width : ℕ) (bytes rest : List ℕ) → drop at file ≡ bytes ++ rest → length bytes ≡ width → window file at width ≡ bytes
row_bytes_are file at width bytes rest e w =
    let long : length (drop at file) ≡ length bytes + length rest = ap length e ∙ length-append bytes rest in
    window_within file at width (omega (arith, long, w, length-drop at file))
    ∙ (ap (take width) e ∙ (ap (λ (n : ℕ). take n (bytes ++ rest)) (sym w) ∙ take-append_seam bytes rest))

record IsAsk (schema : Schema) (ask : Ask) : Type 0 where
  columns : list_all (is_visible schema ask.table) ask.columns ≡ true
  tests : list_all (λ one. is_visible schema ask.table one.column) ask.tests ≡ true
  kinds : list_all (λ one. fits_kind (kind_at schema ask.table one.column) one.test) ask.tests ≡ true

is_ask : (schema : Schema) (ask : Ask) → is_proper_ask schema ask ≡ true → IsAsk schema ask
is_ask schema ask p =
    let six = first_so _ _ p in
    let five = first_so _ _ six in
    let four = first_so _ _ five in
    let three = first_so _ _ four in
    let two = first_so _ _ three in
    record { columns = second_so (nat_lt ask.table (length schema)) _ two; tests = second_so _ _ five; kinds = second_so _ _ six }

next_row : (form : Form) (file : List ℕ) (start place count : ℕ) (bytes : List ℕ) (here : Bool) → row_at form file start place ≡ bytes → is_met form bytes ≡ here
    → replies_at form file start place (suc count)
    ≡ (if here then rows.replied form (place + 1) bytes ∷ replies_at form file start (place + 1) count else replies_at form file start (place + 1) count)
unfolding replies_at
next_row form file start place count bytes here r e =
    ap (λ (b : List ℕ). if is_met form b then rows.replied form (place + 1) b ∷ replies_at form file start (place + 1) count else replies_at form file start (place + 1) count) r
    ∙ ap (λ (t : Bool). if t then rows.replied form (place + 1) bytes ∷ replies_at form file start (place + 1) count else replies_at form file start (place + 1) count) e

no_row : (form : Form) (file : List ℕ) (start place : ℕ) → replies_at form file start place 0 ≡ []
unfolding replies_at
no_row form file start place = refl

next_reply : (identifier : ℕ) (places : List ℕ) (ask : Ask) (row : Row) (later : Rows)
    → replies_from identifier places ask (row ∷ later)
    ≡ (if meets_tests places ask.tests row then replied places ask identifier row ∷ replies_from (identifier + 1) places ask later else replies_from (identifier + 1) places ask later)
unfolding replies_from
next_reply identifier places ask row later = refl

no_reply : (identifier : ℕ) (places : List ℕ) (ask : Ask) → replies_from identifier places ask [] ≡ []
unfolding replies_from
no_reply identifier places ask = refl

same_branch : (schema : Schema) (ask : Ask) (one : RowCells) (reply : _) (later : List RowCells) (replies : List _) (b : Bool) → one ≡ reply_row schema ask reply → later ≡ map (reply_row schema ask) replies
    → (if b then one ∷ later else later) ≡ map (reply_row schema ask) (if b then reply ∷ replies else replies)
same_branch schema ask one reply later replies true p q = ap₂ (λ (x : RowCells) (xs : List RowCells). x ∷ xs) p q
same_branch schema ask one reply later replies false p q = q

pub image_replies : (schema : Schema) (ask : Ask) (file rest : List ℕ) (start place : ℕ) (all : Rows) → is_proper_ask schema ask ≡ true
    → drop (start + place * row_width schema ask.table) file ≡ flat_map (cells (kinds_in (data_columns schema ask.table))) all ++ rest
    → ((at : ℕ) (row : Row) → slice_get all at ≡ Some row → are_of_kinds (kinds_in (data_columns schema ask.table)) row ≡ true)
    → replies_at (form_of schema ask) file start place (length all) ≡ map (reply_row schema ask) (replies_from (place + 1) (visible_places schema ask.table) ask all)
image_replies schema ask file rest start place [] p e k =
    no_row (form_of schema ask) file start place ∙ sym (ap (map (reply_row schema ask)) (no_reply (place + 1) (visible_places schema ask.table) ask))
image_replies schema ask file rest start place (row ∷ all) p e k =
    let proper = is_ask schema ask p in
    let kinds : List Kind = kinds_in (data_columns schema ask.table) in
    let width : ℕ = row_width schema ask.table in
    let fits : are_of_kinds kinds row ≡ true = k 0 row refl in
    let bytes : List ℕ = cells kinds row in
    let long : length bytes ≡ width = row_length (data_columns schema ask.table) row fits in
    let here : drop (start + place * width) file ≡ bytes ++ (flat_map (cells kinds) all ++ rest) = e ∙ append_assoc bytes (flat_map (cells kinds) all) rest in
    let there : row_at (form_of schema ask) file start place ≡ bytes = row_bytes_are file (start + place * width) width bytes (flat_map (cells kinds) all ++ rest) here long in
    let step : start + (place + 1) * width ≡ width + (start + place * width) = omega arith in
    let further : drop (start + (place + 1) * width) file ≡ flat_map (cells kinds) all ++ rest =
    ap (λ (n : ℕ). drop n file) (let q : start + (place + 1) * width ≡ start + place * width + width = omega arith in q)
    ∙ (sym (drop-drop width (start + place * width) file)
    ∙ (ap (drop width) here ∙ (ap (λ (n : ℕ). drop n (bytes ++ (flat_map (cells kinds) all ++ rest))) (sym long) ∙ drop-append_seam bytes (flat_map (cells kinds) all ++ rest)))) in
    let tests = all_tests schema ask.table row ask.tests fits proper.tests proper.kinds in
    let reply : rows.replied (form_of schema ask) (place + 1) bytes ≡ reply_row schema ask (replied (visible_places schema ask.table) ask (place + 1) row) =
    ap (λ (bs : List ℕ). reply_with (place + 1) bs) (all_cells schema ask.table row ask.columns fits proper.columns) in
    next_row (form_of schema ask) file start place (length all) bytes (meets_tests (visible_places schema ask.table) ask.tests row) there tests
    ∙ (same_branch schema ask _ _ _ _ (meets_tests (visible_places schema ask.table) ask.tests row) reply
    (image_replies schema ask file rest start (place + 1) all p further (λ at r h. k (suc at) r h))
    ∙ ap (map (reply_row schema ask)) (sym (next_reply (place + 1) (visible_places schema ask.table) ask row all)))
  where
    reply_with : ℕ → List ℕ → RowCells
    reply_with identifier bytes = record { identifier = identifier; cells = bytes }
