-- Rows whose two parts are of the kinds of their columns, merged: their parts are the two again, and they make a database.
use Rattle.std.proofs.Common.{◌≡◌, refl, ap, sym, ◌∙◌, subst, ℕ, zero, suc, ◌+◌, ◌<◌, ◌≤◌, ◌^◌, pos, Bool, true, false, not, cond, nat_lt, List, [], ◌∷◌, length, map, drop, filter, slice_index, Option, Some, None, slice_get, option_and_then, arith}
use Rattle.std.proofs.lemmas.List.{length-map}
use Rattle.std.proofs.lemmas.Option.{slice_get_within}
use Rattle.std.proofs.lemmas.Bool.Decides.{nat_tests}
use Rattle.ghost_model.specs.core.Schema.{Schema, Table, Column, columns_of, columns_or_none, column_at}
use Rattle.ghost_model.specs.core.Values.{Value, Number, Row, Rows, Database}
use Rattle.ghost_model.specs.core.Channel.{Catalog}
use Rattle.ghost_model.specs.core.Database.{IsDatabase, is_of_kind, is_row_among, rows_of, row_of, row_count, row_counts, value_at_row}
use Rattle.ghost_model.specs.core.Split.{Public, Hidden, IsPublic, is_open, is_closed, kind_of_column, are_of_kinds, public_of, hidden_of, public_rows, rejoined, value_at}
use Rattle.ghost_model.specs.core.Replies.{hidden_places, hidden_value}
use Rattle.ghost_model.specs.forms.Layout.{is_hidden, count_of}
use Rattle.ghost_model.specs.forms.Flash.{hidden_rows}
use Rattle.ghost_model.specs.forms.Slots.{child_or_none}
use Rattle.ghost_model.specs.laws.SchemaTrees.{IsTree, identifier}
use Rattle.ghost_model.specs.laws.ShortWords.{rows_or_none}
use Rattle.ghost_model.specs.laws.SplitByFlags.{hidden_flags, hidden_values, visible_values, merged, rejoined_rows, rejoined_tables, rows_by, tables_by}
use Rattle.ghost_model.proofs.ChannelLemmas.Tests.{BothHold, both_hold, hold_both}
use Rattle.ghost_model.proofs.FlashLemmas.Values.{count_there, value_of_row}
use Rattle.ghost_model.proofs.LayoutLemmas.Columns.{hidden_or_none}
use Rattle.ghost_model.proofs.MeaningLemmas.PartsByFlags.{visible_parts, hidden_parts, rejoined_parts}
use Rattle.flash_build.specs.Reading.{IsLegalPart}
use Rattle.flash_build.specs.Rejoined.{AreParts, LegalPartsRejoin}
use Rattle.flash_build.proofs.CellReads.{within_some}

-- the kinds of columns that are visible, and of those that are hidden
are_visible : List Column → Row → Bool
are_visible columns row = are_of_kinds (map kind_of_column (filter is_open columns)) row

are_hidden : List Column → Row → Bool
are_hidden columns row = are_of_kinds (map kind_of_column (filter (λ (column : Column). column.hidden) columns)) row

-- two rows merged by flags have a value for each column, of its kind, and are the parts of what they merge to
record IsMerged (flags : List Bool) (columns : List Column) (one other : Row) : Type 0 where
  kinds : are_of_kinds (map kind_of_column columns) (merged flags one other) ≡ true
  visible : visible_values flags (merged flags one other) ≡ one
  kept : hidden_values flags (merged flags one other) ≡ other

merge_next : (b : Bool) (column : Column) (columns : List Column) (one other : Row)
    → are_of_kinds (map kind_of_column (cond (not b) (column ∷ filter is_open columns) (filter is_open columns))) one ≡ true
    → are_of_kinds (map kind_of_column (cond b (column ∷ filter (λ (column : Column). column.hidden) columns) (filter (λ (column : Column). column.hidden) columns))) other ≡ true
    → ((values others : Row) → are_visible columns values ≡ true → are_hidden columns others ≡ true → IsMerged (map is_closed columns) columns values others)
    → IsMerged (b ∷ map is_closed columns) (column ∷ columns) one other
unfolding are_visible are_hidden
merge_next true column columns one [] v k later = absurd (cc (k))
merge_next true column columns one (w ∷ other) v k later =
    let both : BothHold (is_of_kind column.kind w) (are_hidden columns other) = both_hold _ _ k in
    let rest = later one other v both.other in
    record {
      kinds = hold_both (is_of_kind column.kind w) (are_of_kinds (map kind_of_column columns) (merged (map is_closed columns) one other)) both.one rest.kinds;
      visible = rest.visible;
      kept = ap (λ (r : Row). w ∷ r) rest.kept;
    }
merge_next false column columns [] other v k later = absurd (cc (v))
merge_next false column columns (w ∷ one) other v k later =
    let both : BothHold (is_of_kind column.kind w) (are_visible columns one) = both_hold _ _ v in
    let rest = later one other both.other k in
    record {
      kinds = hold_both (is_of_kind column.kind w) (are_of_kinds (map kind_of_column columns) (merged (map is_closed columns) one other)) both.one rest.kinds;
      visible = ap (λ (r : Row). w ∷ r) rest.visible;
      kept = rest.kept;
    }

merge : (columns : List Column) (one other : Row) → are_visible columns one ≡ true → are_hidden columns other ≡ true → IsMerged (map is_closed columns) columns one other
unfolding are_visible are_hidden
merge [] [] [] v k = record { kinds = refl; visible = refl; kept = refl }
merge [] (w ∷ one) other v k = absurd (cc (v))
merge [] [] (w ∷ other) v k = absurd (cc (k))
merge (column ∷ columns) one other v k = merge_next column.hidden column columns one other v k (merge columns)

-- the parts of rejoined rows
record RowsAgain (columns : List Column) (at : ℕ) (visible kept : Rows) : Type 0 where
  shown : rows_by visible_values columns (rejoined_rows at columns visible kept) ≡ visible
  hidden : rows_by hidden_values columns (rejoined_rows at columns visible kept) ≡ kept
  many : length (rejoined_rows at columns visible kept) ≡ length visible

rows_again : (columns : List Column) (at : ℕ) (visible kept : Rows) → length visible ≡ length kept
    → ((place : ℕ) (one other : Row) → slice_get visible place ≡ Some one → slice_get kept place ≡ Some other → IsMerged (hidden_flags columns) (drop 1 columns) one other)
    → RowsAgain columns at visible kept
rows_again columns at [] [] same each = record { shown = refl; hidden = refl; many = refl }
rows_again columns at [] (other ∷ kept) same each = absurd (omega (arith, same))
rows_again columns at (one ∷ visible) [] same each = absurd (omega (arith, same))
rows_again columns at (one ∷ visible) (other ∷ kept) same each =
    let first = each 0 one other refl refl in
    let later = rows_again columns (at + 1) visible kept (omega (arith, same)) (λ place. each (suc place)) in
    record {
      shown = λ i. first.visible i ∷ later.shown i;
      hidden = λ i. first.kept i ∷ later.hidden i;
      many = let size = later.many in omega (arith, size);
    }

-- those of rejoined tables
abbrev AllMerge : Schema → (visible kept : List Rows) → Type 0
AllMerge schema visible kept =
    (table place : ℕ) (declared : Table) (one other : Row) → slice_get schema table ≡ Some declared
    → slice_get (rows_or_none (slice_get visible table)) place ≡ Some one → slice_get (rows_or_none (slice_get kept table)) place ≡ Some other
    → IsMerged (hidden_flags declared.columns) (drop 1 declared.columns) one other

abbrev lengths : List Rows → List ℕ
lengths tables = map (λ (rows : Rows). length rows) tables

record TablesAgain (schema : Schema) (visible kept : List Rows) : Type 0 where
  shown : tables_by visible_values schema (rejoined_tables schema visible kept) ≡ visible
  hidden : tables_by hidden_values schema (rejoined_tables schema visible kept) ≡ kept
  counts : lengths (rejoined_tables schema visible kept) ≡ lengths visible
  many : length (rejoined_tables schema visible kept) ≡ length schema

tables_again : (schema : Schema) (visible kept : List Rows) → length visible ≡ length schema → lengths visible ≡ lengths kept → AllMerge schema visible kept → TablesAgain schema visible kept
tables_again [] [] [] size same each = record { shown = refl; hidden = refl; counts = refl; many = refl }
tables_again [] (rows ∷ visible) kept size same each = absurd (omega (arith, size))
tables_again [] [] (rows ∷ kept) size same each = absurd (cc (same))
tables_again (table ∷ tables) [] kept size same each = absurd (omega (arith, size))
tables_again (table ∷ tables) (rows ∷ visible) [] size same each = absurd (cc (same))
tables_again (table ∷ tables) (rows ∷ visible) (others ∷ kept) size same each =
    let here : length rows ≡ length others = cc (same) in
    let rest : lengths visible ≡ lengths kept = cc (same) in
    let first = rows_again table.columns 1 rows others here (λ place one other. each 0 place table one other refl) in
    let later = tables_again tables visible kept (omega (arith, size)) rest (λ t. each (suc t)) in
    record {
      shown = λ i. first.shown i ∷ later.shown i;
      hidden = λ i. first.hidden i ∷ later.hidden i;
      counts = λ i. first.many i ∷ later.counts i;
      many = let size = later.many in omega (arith, size);
    }

-- a row of a rejoined table
record IsRejoined (columns : List Column) (visible kept : Rows) (number place : ℕ) (row : Row) : Type 0 where
  one : Row
  other : Row
  one_is : slice_get visible place ≡ Some one
  other_is : slice_get kept place ≡ Some other
  row_is : row ≡ Number (pos number) ∷ merged (hidden_flags columns) one other

row_rejoined : (columns : List Column) (at : ℕ) (visible kept : Rows) (place : ℕ) (row : Row) → slice_get (rejoined_rows at columns visible kept) place ≡ Some row
    → IsRejoined columns visible kept (at + place) place row
row_rejoined columns at [] kept place row e = absurd (cc (e))
row_rejoined columns at (one ∷ visible) [] place row e = absurd (cc (e))
row_rejoined columns at (one ∷ visible) (other ∷ kept) zero row e =
    let same : Number (pos at) ∷ merged (hidden_flags columns) one other ≡ row = cc (e) in
    let number : at ≡ at + 0 = omega arith in
    record { one = one; other = other; one_is = refl; other_is = refl; row_is = sym same ∙ ap (λ n. Number (pos n) ∷ merged (hidden_flags columns) one other) number }
row_rejoined columns at (one ∷ visible) (other ∷ kept) (suc place) row e =
    let later = row_rejoined columns (at + 1) visible kept place row e in
    let number : at + 1 + place ≡ at + suc place = omega arith in
    record { one = later.one; other = later.other; one_is = later.one_is; other_is = later.other_is; row_is = later.row_is ∙ ap (λ n. Number (pos n) ∷ merged (hidden_flags columns) later.one later.other) number }

row_of_tables : (schema : Schema) (visible kept : List Rows) (table place : ℕ) (row : Row)
    → slice_get (rows_or_none (slice_get (rejoined_tables schema visible kept) table)) place ≡ Some row
    → IsRejoined (columns_of schema table) (rows_or_none (slice_get visible table)) (rows_or_none (slice_get kept table)) (1 + place) place row
row_of_tables [] visible kept table place row e = absurd (cc (e))
row_of_tables (declared ∷ schema) [] kept table place row e = absurd (cc (e))
row_of_tables (declared ∷ schema) (rows ∷ visible) [] table place row e = absurd (cc (e))
row_of_tables (declared ∷ schema) (rows ∷ visible) (others ∷ kept) zero place row e = row_rejoined declared.columns 1 rows others place row e
row_of_tables (declared ∷ schema) (rows ∷ visible) (others ∷ kept) (suc table) place row e = row_of_tables schema visible kept table place row e

-- kinds that hold of a row hold of each value
kinds_long : (columns : List Column) (values : Row) → are_of_kinds (map kind_of_column columns) values ≡ true → length values ≡ length columns
kinds_long [] [] e = refl
kinds_long [] (v ∷ values) e = absurd (cc (e))
kinds_long (column ∷ columns) [] e = absurd (cc (e))
kinds_long (column ∷ columns) (v ∷ values) e =
    let both : BothHold (is_of_kind column.kind v) (are_of_kinds (map kind_of_column columns) values) = both_hold _ _ e in
    let later = kinds_long columns values both.other in
    omega (arith, later)

kinds_each : (columns : List Column) (values : Row) → are_of_kinds (map kind_of_column columns) values ≡ true
    → (place : ℕ) (value : Value) (column : Column) → slice_get values place ≡ Some value → slice_get columns place ≡ Some column → is_of_kind column.kind value ≡ true
kinds_each [] values e place value column at there = absurd (cc (there))
kinds_each (c ∷ columns) [] e place value column at there = absurd (cc (at))
kinds_each (c ∷ columns) (v ∷ values) e zero value column at there =
    let both : BothHold (is_of_kind c.kind v) (are_of_kinds (map kind_of_column columns) values) = both_hold _ _ e in
    let same : v ≡ value = cc (at) in
    let held : c ≡ column = cc (there) in
    subst (λ (w : Value). is_of_kind column.kind w ≡ true) same (subst (λ (d : Column). is_of_kind d.kind v ≡ true) held both.one)
kinds_each (c ∷ columns) (v ∷ values) e (suc place) value column at there =
    let both : BothHold (is_of_kind c.kind v) (are_of_kinds (map kind_of_column columns) values) = both_hold _ _ e in
    kinds_each columns values both.other place value column at there

-- a row of which the identifier is apart
behind : (columns : List Column) (number : ℕ) (rest : Row) → slice_get columns 0 ≡ Some identifier → number < 2 ^ 63
    → are_of_kinds (map kind_of_column (drop 1 columns)) rest ≡ true
    → (column : ℕ) (value : Value) (declared : Column) → slice_get (Number (pos number) ∷ rest) column ≡ Some value → slice_get columns column ≡ Some declared
    → is_of_kind declared.kind value ≡ true
behind columns number rest first small kinds zero value declared at there =
    let same : Number (pos number) ≡ value = cc (at) in
    let held : identifier ≡ declared = cc (sym first ∙ there) in
    let fits : nat_lt number (2 ^ 63) ≡ true = grind (arith, nat_tests) in
    subst (λ (w : Value). is_of_kind declared.kind w ≡ true) same (subst (λ (d : Column). is_of_kind d.kind (Number (pos number)) ≡ true) held fits)
behind [] number rest first small kinds (suc place) value declared at there = absurd (cc (first))
behind (id ∷ columns) number rest first small kinds (suc place) value declared at there = kinds_each columns rest kinds place value declared at there

wide : (columns : List Column) (number : ℕ) (rest : Row) → slice_get columns 0 ≡ Some identifier → are_of_kinds (map kind_of_column (drop 1 columns)) rest ≡ true
    → length (Number (pos number) ∷ rest) ≡ length columns
wide [] number rest first kinds = absurd (cc (first))
wide (id ∷ columns) number rest first kinds = let long = kinds_long columns rest kinds in omega (arith, long)

module _ (cat : Catalog) (tree : IsTree cat.schema) (counted : length cat.counts ≡ length cat.schema) (few : (table : ℕ) → count_of cat table ≤ 1000000)
    (public : Public) (hidden : Hidden) (goes : IsPublic cat public) (legal : IsLegalPart cat hidden) where
  abbrev database : Database
  database = rejoined_tables cat.schema public.visible hidden.hidden

  all_merge : AllMerge cat.schema public.visible hidden.hidden
  unfolding are_visible are_hidden
  all_merge table place declared one other hd at there =
      merge (drop 1 declared.columns) one other (goes.kinds table place declared one hd at) (legal.goes_with.kinds table place declared other hd there)

  again : TablesAgain cat.schema public.visible hidden.hidden
  again =
      let size = length-map public.visible (λ (rows : Rows). length rows) in
      let counts = ap (λ (counts : List ℕ). length counts) goes.counted in
      tables_again cat.schema public.visible hidden.hidden (omega (arith, size, counts, counted)) (goes.counted ∙ sym legal.goes_with.counted) all_merge

  counts_are : row_counts database ≡ cat.counts
  counts_are = again.counts ∙ goes.counted

  count_is : (table : ℕ) → row_count database table ≡ count_of cat table
  count_is table = sym (count_there database table) ∙ ap (λ (counts : List ℕ). slice_index counts table) counts_are

  -- a row of the database, and its parts
  record RowThere (table place : ℕ) (row : Row) : Type 0 where
    parts : IsRejoined (columns_of cat.schema table) (public_rows public table) (hidden_rows hidden table) (1 + place) place row
    first : slice_get (columns_of cat.schema table) 0 ≡ Some identifier
    merges : IsMerged (hidden_flags (columns_of cat.schema table)) (drop 1 (columns_of cat.schema table)) parts.one parts.other
    within : place < count_of cat table

  row_there : (table place : ℕ) (row : Row) → slice_get (rows_of database table) place ≡ Some row → RowThere table place row
  row_there table place row e =
      let parts = row_of_tables cat.schema public.visible hidden.hidden table place row e in
      let low = some_table (slice_get database table) refl in
      let declared = within_some cat.schema table low in
      let columns : declared.0.columns ≡ columns_of cat.schema table = sym (ap columns_or_none declared.1) in
      let inside = slice_get_within (rows_of database table) place row e in
      let size = count_is table in
      record {
        parts = parts;
        first = tree.begins_with_id table low;
        merges = subst (λ (cs : List Column). IsMerged (hidden_flags cs) (drop 1 cs) parts.one parts.other) columns (all_merge table place declared.0 parts.one parts.other declared.1 parts.one_is parts.other_is);
        within = omega (arith, inside, size);
      }
    where
      some_table : (o : Option Rows) → slice_get database table ≡ o → table < length cat.schema
      some_table None there = absurd (cc (e))
      some_table (Some rows) there = let within = slice_get_within database table rows there in let many = again.many in omega (arith, within, many)

  field_kind : (table identifier column : ℕ) (value : Value) (declared : Column) → value_at_row database table identifier column ≡ Some value
      → column_at cat.schema table column ≡ Some declared → is_of_kind declared.kind value ≡ true
  field_kind table zero column value declared at there = absurd (cc (at))
  field_kind table (suc place) column value declared at there =
      let found = some_row (slice_get (rows_of database table) place) at in
      let row = row_there table place found.0 found.1 in
      let within = row.within in
      let most = few table in
      behind (columns_of cat.schema table) (1 + place) (merged (hidden_flags (columns_of cat.schema table)) row.parts.one row.parts.other) row.first (omega (arith, within, most)) row.merges.kinds
      column value declared
      (ap (λ (r : Row). slice_get r column) (sym row.parts.row_is) ∙ found.2) there
    where
      some_row : (o : Option Row) → option_and_then (λ (row : Row). slice_get row column) o ≡ Some value → (row : Row) × (o ≡ Some row) × (slice_get row column ≡ Some value)
      some_row None e = absurd (cc (e))
      some_row (Some row) e = (row, refl, e)

  field_names : (table identifier column child : ℕ) (value : Value) (declared : Column) → value_at_row database table identifier column ≡ Some value
      → column_at cat.schema table column ≡ Some declared → declared.child ≡ Some child → is_row_among (row_count database child) value ≡ true
  field_names table zero column child value declared at there names = absurd (cc (at))
  field_names table (suc place) column child value declared at there names =
      let found = some_row (slice_get (rows_of database table) place) at in
      let row = row_there table place found.0 found.1 in
      let columns = columns_of cat.schema table in
      let rest = merged (hidden_flags columns) row.parts.one row.parts.other in
      let h : is_hidden cat.schema table column ≡ true = ap hidden_or_none there ∙ tree.references_are_hidden table column child declared there names in
      let whole : length (Number (pos (1 + place)) ∷ rest) ≡ length columns = wide columns (1 + place) rest row.first row.merges.kinds in
      let by_part = value_of_row columns row.first column h (Number (pos (1 + place)) ∷ rest) whole in
      let kept : hidden_value cat.schema hidden table (suc place) column ≡ Some value =
      ap (option_and_then (λ (r : Row). value_at (hidden_places cat.schema table) r column)) row.parts.other_is
      ∙ (ap (λ (r : Row). value_at (hidden_places cat.schema table) r column) (sym row.merges.kept)
      ∙ (by_part ∙ (ap (λ (r : Row). slice_get r column) (sym row.parts.row_is) ∙ found.2))) in
      subst (λ n. is_row_among n value ≡ true) (sym (count_is child))
      (legal.references table (suc place) column child value (ap child_or_none there ∙ names) kept)
    where
      some_row : (o : Option Row) → option_and_then (λ (row : Row). slice_get row column) o ≡ Some value → (row : Row) × (o ≡ Some row) × (slice_get row column ≡ Some value)
      some_row None e = absurd (cc (e))
      some_row (Some row) e = (row, refl, e)

  is_database : IsDatabase cat.schema database
  is_database = record {
    tables = again.many;
    widths = λ table number row e. width table number row e;
    identifiers = λ table number row e. number_is table number row e;
    kinds = field_kind;
    references = λ table number column child value declared at there names. field_names table number column child value declared at there names;
  }
    where
      width : (table number : ℕ) (row : Row) → row_of database table number ≡ Some row → length row ≡ length (columns_of cat.schema table)
      width table zero row e = absurd (cc (e))
      width table (suc place) row e =
          let found = row_there table place row e in
          let columns = columns_of cat.schema table in
          ap (λ (r : Row). length r) found.parts.row_is
          ∙ wide columns (1 + place) (merged (hidden_flags columns) found.parts.one found.parts.other) found.first found.merges.kinds

      number_is : (table number : ℕ) (row : Row) → row_of database table number ≡ Some row → slice_get row 0 ≡ Some (Number (pos number))
      number_is table zero row e = absurd (cc (e))
      number_is table (suc place) row e =
          let found = row_there table place row e in
          let same : 1 + place ≡ suc place = omega arith in
          ap (λ (r : Row). slice_get r 0) found.parts.row_is ∙ ap (λ n. Some (Number (pos n))) same

  pub are_parts : AreParts cat public hidden
  are_parts =
      let whole : rejoined cat.schema public hidden ≡ database = rejoined_parts cat.schema public hidden in
      let shown : (public_of cat.schema database).visible ≡ public.visible = visible_parts cat.schema database ∙ again.shown in
      let kept : (hidden_of cat.schema database).hidden ≡ hidden.hidden = hidden_parts cat.schema database ∙ again.hidden in
      let public_is : public ≡ public_of cat.schema database = λ i. record { visible = sym shown i } in
      let hidden_is : hidden ≡ hidden_of cat.schema database = λ i. record { hidden = sym kept i } in
      record {
        proper = subst (λ (d : Database). IsDatabase cat.schema d) (sym whole) is_database;
        counted = ap (λ (d : Database). row_counts d) whole ∙ counts_are;
        public_is = public_is ∙ sym (ap (λ (d : Database). public_of cat.schema d) whole);
        hidden_is = hidden_is ∙ sym (ap (λ (d : Database). hidden_of cat.schema d) whole);
      }

pub rejoin : (cat : Catalog) → IsTree cat.schema → length cat.counts ≡ length cat.schema → ((table : ℕ) → count_of cat table ≤ 1000000) → LegalPartsRejoin cat
rejoin cat tree counted few public hidden goes legal = are_parts cat tree counted few public hidden goes legal
