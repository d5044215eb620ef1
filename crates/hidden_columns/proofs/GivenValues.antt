-- Pages that hold a database's hidden columns have the value of each row in its slot.
use Rattle.std.proofs.Common.{◌≡◌, refl, sym, ap, ◌∙◌, ℕ, zero, suc, ◌-◌, ◌<◌, ◌≤◌, Bool, true, false, ◌&&◌, nat_lt, List, [], ◌∷◌, length, Option, Some, None, slice_get, option_and_then, not, get_or, arith}
use Rattle.std.specs.Prelude.{if◌then◌else◌, option_map}
use Rattle.ghost_model.specs.core.Schema.{Column, columns_of, column_at, is_shown}
use Rattle.ghost_model.specs.core.Values.{Value, Database}
use Rattle.ghost_model.specs.core.Channel.{Catalog}
use Rattle.ghost_model.specs.laws.SchemaTrees.{IsTree}
use Rattle.ghost_model.specs.core.Database.{IsDatabase, rows_of, row_counts, value_at_row, is_row_among}
use Rattle.ghost_model.specs.core.Split.{hidden_of}
use Rattle.ghost_model.specs.core.Replies.{hidden_value, replied_value}
use Rattle.ghost_model.specs.forms.Runs.{record_at}
use Rattle.ghost_model.specs.core.Asks.{kind_at}
use Rattle.ghost_model.specs.readings.CellReading.{decode_cell}
use Rattle.ghost_model.specs.forms.Layout.{is_hidden, count_of, column_file}
use Rattle.ghost_model.specs.forms.Flash.{HoldsColumns}
use Rattle.ghost_model.specs.laws.FlashLaws.{HiddenPartsGoWithCatalogs, HiddenValuesOfDatabases, ColumnFilesGiveValues}
use Rattle.ghost_model.proofs.LayoutLemmas.Columns.{hidden_or_none}
use Rattle.ghost_model.proofs.MeaningLemmas.Leading.{get_within}
use Rattle.ghost_model.proofs.LayoutLemmas.Places.{table_there}
use Rattle.ghost_model.proofs.FlashLemmas.Values.{count_there, not_hidden}
use Rattle.ghost_model.specs.forms.Slots.{child_or_none, child_rows, is_in_range, only_in_range, spelled}
use Rattle.hidden_columns.specs.Laws.{value_on, HasValue, HeldColumnsAreRight, FilesAreOfColumns, FilesStayReadable}

-- a value in range is what its bytes spell, and what bytes spell they spell without a range
in_range : (rows : Option ℕ) (value : Value) → is_in_range rows value ≡ true → only_in_range rows (Some value) ≡ Some value
in_range rows value e = ap (λ b. if b then Some value else None) e

from_test : (b : Bool) (one value : Value) → (if b then Some one else None) ≡ Some value → Some one ≡ Some value
from_test true one value e = e
from_test false one value e = absurd (cc (e))

without_range : (rows : Option ℕ) (o : Option Value) (value : Value) → only_in_range rows o ≡ Some value → o ≡ Some value
without_range rows None value e = absurd (cc (e))
without_range rows (Some one) value e = from_test (is_in_range rows one) one value e

-- a column that is no foreign key has every value in range, and a foreign key the identifiers of rows
by_child : (rows : ℕ → ℕ) (child : Option ℕ) (value : Value)
    → ((place : ℕ) → child ≡ Some place → is_row_among (rows place) value ≡ true) → is_in_range (option_map rows child) value ≡ true
by_child rows None value h = refl
by_child rows (Some place) value h = h place refl

by_column : (rows : ℕ → ℕ) (declared : Option Column) (value : Value)
    → ((held : Column) (child : ℕ) → declared ≡ Some held → held.child ≡ Some child → is_row_among (rows child) value ≡ true)
    → is_in_range (option_map rows (child_or_none declared)) value ≡ true
by_column rows None value h = refl
by_column rows (Some held) value h = by_child rows held.child value (λ child e. h held child refl e)

hidden_within : (columns : List Column) (column : ℕ) → hidden_or_none (slice_get columns column) ≡ true → column < length columns
hidden_within [] column h = absurd (cc (h))
hidden_within (one ∷ columns) zero h = omega arith
hidden_within (one ∷ columns) (suc place) h = let low = hidden_within columns place h in omega (arith, low)

not_shown : (o : Option Column) → hidden_or_none o ≡ true → is_shown o ≡ false
not_shown None h = refl
not_shown (Some column) h = ap not h

known : (later shown : Bool) (one other : Option Value) → shown ≡ false → (if later && shown then one else other) ≡ other
known true shown one other e = ap (λ b. if b then one else other) e
known false shown one other e = refl

pub files_are : FilesAreOfColumns
files_are page cat table column file is identifier =
    λ i. spelled (is.kind_is i) (is.range_is i) (record_at page (is.run_is i) (identifier - 1))

pub stay_readable : FilesStayReadable
stay_readable before now file same is = record {
  has = record {
    some = is.has.some;
    fits = is.has.fits;
    pages = λ i low. let there = is.has.pages i low in omega (arith, same, there);
    small = let few = is.has.small in omega (arith, same, few);
  };
  wide = is.wide;
  narrow = is.narrow;
  plain = is.plain;
}

pub held_right : ColumnFilesGiveValues → HeldColumnsAreRight
held_right files page cat hidden tree goes holds table column h zero some within value e = absurd (omega (arith, some))
held_right files page cat hidden tree goes holds table column h (suc place) some within value e =
    let same : suc place - 1 ≡ place = omega arith in
    let at : ℕ → Option Value = λ k. decode_cell (kind_at cat.schema table column) (record_at page (column_file cat table column) k) in
    sym (files page cat hidden tree goes holds table column h place (omega (arith, within)))
    ∙ without_range (child_rows cat table column) (at place) value (sym (ap (λ k. only_in_range (child_rows cat table column) (at k)) same) ∙ e)

module _ (page : ℕ → List ℕ) (cat : Catalog) (database : Database) (tree : IsTree cat.schema) (is : IsDatabase cat.schema database)
    (counts : row_counts database ≡ cat.counts) (parts : HiddenPartsGoWithCatalogs) (files : ColumnFilesGiveValues)
    (values : HiddenValuesOfDatabases) (holds : HoldsColumns page cat (hidden_of cat.schema database)) where
  count_is : (table : ℕ) → count_of cat table ≡ length (rows_of database table)
  count_is table = sym (ap (λ (ns : List ℕ). get_or ns table 0) counts) ∙ count_there database table

  in_its_range : (table identifier column : ℕ) (value : Value) → value_at_row database table identifier column ≡ Some value
      → is_in_range (child_rows cat table column) value ≡ true
  in_its_range table identifier column value e =
      by_column (count_of cat) (column_at cat.schema table column) value
      (λ held child there names. ap (λ n. is_row_among n value) (count_is child) ∙ is.references table identifier column child value held e there names)

  pub has_value : (table column : ℕ) → is_hidden cat.schema table column ≡ true → (identifier : ℕ) → 1 ≤ identifier
      → identifier ≤ count_of cat table → HasValue page cat database table column identifier
  has_value table column h zero some within = absurd (omega (arith, some))
  has_value table zero h (suc place) some within =
      absurd (not_hidden (column_at cat.schema table 0) (tree.begins_with_id table (table_there cat.schema table 0 h)) h)
  has_value table (suc before) h (suc place) some within =
      let hidden = hidden_of cat.schema database in
      let size = count_is table in
      let row = get_within (rows_of database table) place (omega (arith, size, within)) in
      let wide = is.widths table (suc place) row.0 row.1 in
      let low = hidden_within (columns_of cat.schema table) (suc before) h in
      let held = get_within row.0 (suc before) (omega (arith, wide, low)) in
      let of_row : value_at_row database table (suc place) (suc before) ≡ Some held.0 =
      ap (option_and_then (λ r. slice_get r (suc before))) row.1 ∙ held.1 in
      let of_hidden = values cat.schema database tree is table (suc place) (suc before) h ∙ of_row in
      let same : suc place - 1 ≡ place = omega arith in
      let decoded =
      ap (λ k. decode_cell (kind_at cat.schema table (suc before)) (record_at page (column_file cat table (suc before)) k)) same
      ∙ files page cat hidden tree (parts cat database is counts) holds table (suc before) h place (omega (arith, within)) in
      let on_pages : value_on page cat table (suc before) (suc place) ≡ Some held.0 =
      ap (only_in_range (child_rows cat table (suc before))) (decoded ∙ of_hidden)
      ∙ in_range (child_rows cat table (suc before)) held.0 (in_its_range table (suc place) (suc before) held.0 of_row) in
      record {
        value = held.0;
        of_row = of_row;
        of_hidden = of_hidden;
        as_known = λ given.
            known (nat_lt 0 (suc before)) (is_shown (column_at cat.schema table (suc before)))
            (replied_value given table (suc place) (suc before)) (hidden_value cat.schema hidden table (suc place) (suc before))
            (not_shown (column_at cat.schema table (suc before)) h)
            ∙ of_hidden;
        on_pages = on_pages;
        in_slot = λ file of. files_are page cat table (suc before) file of (suc place) ∙ on_pages;
      }
