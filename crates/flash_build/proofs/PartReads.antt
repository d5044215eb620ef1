-- The hidden part of which all tables were read.
use Rattle.std.proofs.Common.{◌≡◌, refl, ap, sym, ◌∙◌, subst, ℕ, zero, suc, ◌+◌, ◌-◌, pos, ◌<◌, ◌≤◌, Bool, true, false, List, [], ◌∷◌, ◌++◌, length, length-append, map, drop, filter, get_or, slice_index, Option, Some, None, slice_get, is_some, option_map, option_and_then, Result, Ok, Err, OnOk, inl, inr, arith}
use Rattle.std.specs.Result.{is_err}
use Rattle.std.proofs.lemmas.List.{length-map}
use Rattle.std.proofs.lemmas.Option.{slice_get_within, slice_get-map, slice_get-get_or}
use Rattle.ghost_model.specs.core.Schema.{Table, Column, columns_of, columns_or_none, column_at}
use Rattle.ghost_model.specs.core.Values.{Value, Number, Row, Rows}
use Rattle.ghost_model.specs.core.Channel.{Catalog}
use Rattle.ghost_model.specs.core.Database.{row_numbered, is_row_among}
use Rattle.ghost_model.specs.core.Split.{Hidden, hidden_of, value_at, kind_of_column, are_of_kinds}
use Rattle.ghost_model.specs.core.Replies.{hidden_places, hidden_value}
use Rattle.ghost_model.specs.forms.Layout.{is_hidden, count_of, Cells}
use Rattle.ghost_model.specs.forms.Slots.{child_at, child_or_none, is_in_range, may_stand, in_slot}
use Rattle.ghost_model.specs.forms.Flash.{HoldsColumns, IsHidden, hidden_rows}
use Rattle.ghost_model.specs.laws.FlashLaws.{GoesWith, HiddenPartsGoWithCatalogs, HiddenValuesByPlace, hidden_before, hidden_kinds}
use Rattle.ghost_model.specs.laws.LayoutLaws.{LieInOrder}
use Rattle.ghost_model.specs.laws.SchemaTrees.{IsTree}
use Rattle.ghost_model.specs.laws.ShortWords.{column_count, rows_or_none}
use Rattle.ghost_model.proofs.LayoutLemmas.Columns.{hidden_or_none}
use Rattle.ghost_model.proofs.FlashLemmas.Values.{count_there}
use Rattle.edge_traits.specs.Devices.{Device}
use Rattle.csv_split.specs.Parts.{part_in}
use Rattle.csv_split.specs.Tables.{values_at}
use Rattle.csv_split.proofs.PartRows as part_rows
use Rattle.hidden_columns.specs.Laws.{value_on, ColumnsGiveValues}
use Rattle.flash_build.specs.declared.faults.ReadFault.{ReadFault}
use Rattle.flash_build.specs.declared.faults.ReadFault.TheVariants as fault
use Rattle.flash_build.specs.Reading.{BlamesCells, GivesHeld, GivesPart, HasPart, IsLegalPart, Stands}
use Rattle.flash_build.specs.ReadColumns.{AreTablesRead, DamagesTable, IsColumnRead, IsTableRead}
use Rattle.flash_build.proofs.CellReads.{last_or_before, within_some}
use Rattle.flash_build.proofs.ColumnReads.{columns_stand, has_column}
use Rattle.flash_build.proofs.HiddenRows.{before_is_among, kinds_behind_identifier, same_by_columns}

pub table_more : {told : Bool} {page later : ℕ → List ℕ} {cat : Catalog} {done : ℕ} {parts now : List Rows} {rows : Rows} → later ≡ page
    → now ≡ parts ++ rows ∷ [] → AreTablesRead told page cat done parts → IsTableRead told later cat done rows → AreTablesRead told page cat (done + 1) now
table_more {told = told} {page = page} {cat = cat} {done = done} {parts = parts} {rows = rows} same grown are read =
    subst (λ (now : List Rows). AreTablesRead told page cat (done + 1) now) (sym grown)
    (record {
      many = let size = length-append parts (rows ∷ []) in let many = are.many in omega (arith, size, many);
      each = λ table found e.
          elim (last_or_before parts rows table found e) [
            | inl old ↦ are.each table found old
            | inr new ↦
                let many = are.many in
                let here : done ≡ table = omega (arith, many, new.0) in
                subst (λ (w : Rows). IsTableRead told page cat table w) new.1
                (subst (λ t. IsTableRead told page cat t rows) here (subst (λ p. IsTableRead told p cat done rows) same read))
          ];
    })

-- the slots of tables that were read spell values
pub tables_stand : {told : Bool} {page : ℕ → List ℕ} {cat : Catalog} {done : ℕ} {parts : List Rows} → LieInOrder cat → AreTablesRead told page cat done parts
    → told ≡ true → (table column row : ℕ) → table < done → Stands page cat table column row
tables_stand {parts = parts} order are is_told table column row low h within =
    let many = are.many in
    let found = within_some parts table (omega (arith, many, low)) in
    columns_stand (are.each table found.0 found.1).read is_told column row (order.there_are table column h).1 h within

-- a slot at which reading stopped
pub gives_damaged : (since : ℕ) (device : Device) {told : Bool} {page later : ℕ → List ℕ} {cat : Catalog} {table : ℕ} {parts : List Rows} (e : ReadFault) → LieInOrder cat → later ≡ page
    → AreTablesRead told page cat table parts → DamagesTable told since later device cat table e → told ≡ true → GivesPart page cat (Err e)
gives_damaged since device fault.NoMemory order same are damaged is_told = tt
gives_damaged since device fault.Flash order same are damaged is_told = tt
gives_damaged since device {told = told} {cat = cat} {table = table} (fault.Damaged number slot found) order same are damaged is_told =
    let here = subst (λ p. DamagesTable told since p device cat table (fault.Damaged number slot found)) same damaged in
    record {
      table = table;
      column = here.column;
      place = here.place;
      damaged = here.at.damaged is_told;
      before = record {
        tables = λ other at row low. tables_stand order are is_told other at row low;
        columns = here.columns is_told;
        rows = here.at.rows is_told;
      };
    }

pub blames_damaged : (told : Bool) (since : ℕ) (page : ℕ → List ℕ) (device : Device) (cat : Catalog) (table : ℕ) (e : ReadFault)
    → DamagesTable told since page device cat table e → BlamesCells since device cat e
blames_damaged told since page device cat table fault.NoMemory damaged = tt
blames_damaged told since page device cat table fault.Flash damaged = tt
blames_damaged told since page device cat table (fault.Damaged number slot found) damaged = record {
  table = table;
  column = damaged.column;
  place = damaged.place;
  hidden = damaged.at.hidden;
  row = damaged.at.blames;
}

-- no slot of a hidden part that is held is damaged
stands_held : {page : ℕ → List ℕ} {cat : Catalog} → IsTree cat.schema → ColumnsGiveValues → (hidden : Hidden) → IsHidden cat hidden → HoldsColumns page cat hidden
    → (table column place : ℕ) → Stands page cat table column place
stands_held {page = page} {cat = cat} tree values hidden is holds table column place h within =
    let held = subst (λ (kept : Hidden). HoldsColumns page cat kept) is.part holds in
    let has = values page cat is.database tree is.proper is.counted held table column h (place + 1) (omega arith) (omega (arith, within)) in
    let back : place ≡ place + 1 - 1 = omega arith in
    let here : may_stand cat (Cells table column) (in_slot page cat (Cells table column) place) ≡ is_some (value_on page cat table column (place + 1)) =
    ap (λ n. may_stand cat (Cells table column) (in_slot page cat (Cells table column) n)) back in
    here ∙ ap is_some has.on_pages

pub held_undamaged : (since : ℕ) (device : Device) (table : ℕ) {told : Bool} {page later : ℕ → List ℕ} {cat : Catalog} (e : ReadFault) → IsTree cat.schema → ColumnsGiveValues → later ≡ page
    → DamagesTable told since later device cat table e → told ≡ true → GivesHeld page cat (Err e)
held_undamaged since device table fault.NoMemory tree values same damaged is_told hidden is holds = tt
held_undamaged since device table fault.Flash tree values same damaged is_told hidden is holds = tt
held_undamaged since device table {told = told} {page = page} {cat = cat} (fault.Damaged number slot found) tree values same damaged is_told hidden is holds =
    let here = subst (λ p. DamagesTable told since p device cat table (fault.Damaged number slot found)) same damaged in
    let damage = here.at.damaged is_told in
    let stands = stands_held {page = page} tree values hidden is holds table here.column here.place here.at.hidden here.at.blames.within in
    elim damage.damaged [
      | inl out ↦ absurd (cc (out, stands))
      | inr order ↦ absurd (cc (order))
    ]

-- lists are the same item by item
same_items : {X : Type 0} (xs ys : List X) → length xs ≡ length ys → ((k : ℕ) (x y : X) → slice_get xs k ≡ Some x → slice_get ys k ≡ Some y → x ≡ y) → xs ≡ ys
same_items [] [] size each = refl
same_items [] (y ∷ ys) size each = absurd (omega (arith, size))
same_items (x ∷ xs) [] size each = absurd (omega (arith, size))
same_items (x ∷ xs) (y ∷ ys) size each =
    let first = each 0 x y refl refl in
    let later = same_items xs ys (omega (arith, size)) (λ k. each (suc k)) in
    λ i. first i ∷ later i

of_rows : (f g : Row → Option Value) (o : Option Row) → ((row : Row) → f row ≡ g row) → option_and_then f o ≡ option_and_then g o
of_rows f g None same = refl
of_rows f g (Some row) same = same row

-- two hidden parts that go with a catalog and have the same values
module _ (cat : Catalog) (tree : IsTree cat.schema) (counted : length cat.counts ≡ length cat.schema) (one other : Hidden) (goes : GoesWith cat one) (likewise : GoesWith cat other)
    (same : (table column identifier : ℕ) → is_hidden cat.schema table column ≡ true → 1 ≤ identifier → identifier ≤ count_of cat table
    → hidden_value cat.schema one table identifier column ≡ hidden_value cat.schema other table identifier column) where
  same_rows : (table place : ℕ) (declared : Table) (row another : Row) → slice_get cat.schema table ≡ Some declared → place < count_of cat table
      → slice_get (hidden_rows one table) place ≡ Some row → slice_get (hidden_rows other table) place ≡ Some another → row ≡ another
  same_rows table place declared row another hd within at there =
      let columns : columns_of cat.schema table ≡ declared.columns = ap columns_or_none hd in
      let kinds = goes.kinds table place declared row hd at in
      let others = likewise.kinds table place declared another hd there in
      let first = tree.begins_with_id table (slice_get_within cat.schema table declared hd) in
      let field : Option Row → ℕ → Option Value = λ o column. option_and_then (λ row. value_at (hidden_places cat.schema table) row column) o in
      same_by_columns (columns_of cat.schema table) first row another
      (subst (λ (cs : List Column). are_of_kinds (map kind_of_column (filter (λ (c : Column). c.hidden) (drop 1 cs))) row ≡ true) (sym columns) kinds)
      (subst (λ (cs : List Column). are_of_kinds (map kind_of_column (filter (λ (c : Column). c.hidden) (drop 1 cs))) another ≡ true) (sym columns) others)
      (λ column h.
      sym (ap (λ o. field o column) at) ∙ (same table column (suc place) h (omega arith) (omega (arith, within)) ∙ ap (λ o. field o column) there))

  rows_counted : (part : Hidden) → GoesWith cat part → (table : ℕ) → length (hidden_rows part table) ≡ count_of cat table
  rows_counted part goes table = sym (count_there part.hidden table) ∙ ap (λ (counts : List ℕ). slice_index counts table) goes.counted

  many_tables : (part : Hidden) → GoesWith cat part → length part.hidden ≡ length cat.schema
  many_tables part goes =
      let size = length-map part.hidden (λ (rows : Rows). length rows) in
      let counts = ap (λ (counts : List ℕ). length counts) goes.counted in
      omega (arith, size, counts, counted)

  pub same_parts : one ≡ other
  same_parts =
      let mine = many_tables one goes in
      let its = many_tables other likewise in
      let tables = same_items one.hidden other.hidden (omega (arith, mine, its))
      (λ table rows others at there.
      let low = slice_get_within one.hidden table rows at in
      let declared = within_some cat.schema table (omega (arith, low, mine)) in
      let here : hidden_rows one table ≡ rows = ap rows_or_none at in
      let elsewhere : hidden_rows other table ≡ others = ap rows_or_none there in
      let size = sym (ap (λ (rows : Rows). length rows) here) ∙ rows_counted one goes table in
      let another = sym (ap (λ (rows : Rows). length rows) elsewhere) ∙ rows_counted other likewise table in
      same_items rows others (omega (arith, size, another))
      (λ place row other_row found its.
      let within = slice_get_within rows place row found in
      same_rows table place declared.0 row other_row declared.1 (omega (arith, within, size))
      (ap (λ (rows : Rows). slice_get rows place) here ∙ found) (ap (λ (rows : Rows). slice_get rows place) elsewhere ∙ its))) in
      λ i. record { hidden = tables i }

module _ (cat : Catalog) (hidden : Hidden) (told : Bool) (page : ℕ → List ℕ) (tree : IsTree cat.schema) (order : LieInOrder cat) (counted : length cat.counts ≡ length cat.schema)
    (by_place : HiddenValuesByPlace) (are_read : AreTablesRead told page cat (length cat.schema) hidden.hidden) where
  record TableThere (table : ℕ) : Type 0 where
    rows : Rows
    there : slice_get hidden.hidden table ≡ Some rows
    is : IsTableRead told page cat table rows

  table_there : (table : ℕ) → table < length cat.schema → TableThere table
  table_there table low =
      let many = are_read.many in
      let found = within_some hidden.hidden table (omega (arith, many, low)) in
      record { rows = found.0; there = found.1; is = are_read.each table found.0 found.1 }

  rows_are : {table : ℕ} (t : TableThere table) → hidden_rows hidden table ≡ part_in (count_of cat table) t.is.columns
  rows_are t = ap rows_or_none t.there ∙ t.is.rows_are

  record CellThere (table column identifier : ℕ) : Type 0 where
    values : List Value
    value : hidden_value cat.schema hidden table identifier column ≡ slice_get values (identifier - 1)
    read : IsColumnRead told page cat table column values

  cell_there : (table column identifier : ℕ) → is_hidden cat.schema table column ≡ true → 1 ≤ identifier → identifier ≤ count_of cat table → CellThere table column identifier
  cell_there table column identifier h some within =
      let there = order.there_are table column h in
      let t = table_there table there.0 in
      let c = has_column t.is.read column there.1 h in
      let before = hidden_before cat.schema table column in
      record {
        values = c.values;
        value =
            of_rows (λ row. value_at (hidden_places cat.schema table) row column) (λ row. slice_get row before) (row_numbered (hidden_rows hidden table) identifier)
            (by_place cat.schema tree table column h)
            ∙ (ap (λ (rows : Rows). option_and_then (λ (row : Row). slice_get row before) (row_numbered rows identifier)) (rows_are t)
            ∙ (sym (part_rows.value_is (count_of cat table) identifier before t.is.columns t.is.read.long some within)
            ∙ ap (option_and_then (λ (values : List Value). slice_get values (identifier - 1))) c.there));
        read = c.read;
      }

  pub has_part : told ≡ true → HasPart page cat hidden
  has_part is_told = record {
    value = λ table column identifier h some within.
        let cell = cell_there table column identifier h some within in
        let long = cell.read.long in
        let at = within_some cell.values (identifier - 1) (omega (arith, long, some, within)) in
        let back : identifier - 1 + 1 ≡ identifier = omega (arith, some) in
        cell.value ∙ (at.1 ∙ (sym (cell.read.spelled is_told (identifier - 1) at.0 at.1) ∙ ap (value_on page cat table column) back));
  }

  row_kinds : (table place : ℕ) (declared : Table) (row : Row) → slice_get cat.schema table ≡ Some declared
      → slice_get (hidden_rows hidden table) place ≡ Some row → are_of_kinds (hidden_kinds declared) row ≡ true
  row_kinds table place declared row hd hr =
      let low = slice_get_within cat.schema table declared hd in
      let t = table_there table low in
      let columns : columns_of cat.schema table ≡ declared.columns = ap columns_or_none hd in
      let at : slice_get (part_in (count_of cat table) t.is.columns) place ≡ Some row = ap (λ (rows : Rows). slice_get rows place) (sym (rows_are t)) ∙ hr in
      let many = part_rows.many (count_of cat table) t.is.columns in
      let inside = slice_get_within (part_in (count_of cat table) t.is.columns) place row at in
      let within : place < count_of cat table = omega (arith, many, inside) in
      let whole = part_rows.row_there (count_of cat table) place t.is.columns within in
      let same : values_at t.is.columns place ≡ row = cc (sym whole ∙ at) in
      let wide = length-map t.is.columns (λ (values : List Value). get_or values place (Number (pos 0))) in
      let all = t.is.read.many in
      let among = before_is_among cat.schema table (column_count cat.schema table) in
      let kinds =
      kinds_behind_identifier (columns_of cat.schema table) (tree.begins_with_id table low) (values_at t.is.columns place) (omega (arith, wide, all, among))
      (λ column value h found.
      let there = order.there_are table column h in
      let c = has_column t.is.read column there.1 h in
      let long = c.read.long in
      let here = ap (λ n. slice_get (values_at t.is.columns place) n) (before_is_among cat.schema table column) ∙ found in
      let picked = slice_get-map (λ (values : List Value). get_or values place (Number (pos 0))) t.is.columns (hidden_before cat.schema table column)
      ∙ ap (option_map (λ (values : List Value). get_or values place (Number (pos 0)))) c.there in
      let e : get_or c.values place (Number (pos 0)) ≡ value = cc (sym picked ∙ here) in
      c.read.kinds place value (slice_get-get_or c.values place (Number (pos 0)) (omega (arith, long, within)) ∙ ap Some e)) in
      subst (λ (r : Row). are_of_kinds (hidden_kinds declared) r ≡ true) same
      (subst (λ (cs : List Column). are_of_kinds (map kind_of_column (filter (λ (c : Column). c.hidden) (drop 1 cs))) (values_at t.is.columns place) ≡ true) columns kinds)

  counts_same : map (λ (rows : Rows). length rows) hidden.hidden ≡ cat.counts
  counts_same =
      let many = are_read.many in
      let size = length-map hidden.hidden (λ (rows : Rows). length rows) in
      same_items (map (λ (rows : Rows). length rows) hidden.hidden) cat.counts (omega (arith, many, size, counted))
      (λ table count other at there.
      let low = slice_get_within (map (λ (rows : Rows). length rows) hidden.hidden) table count at in
      let t = table_there table (omega (arith, low, size, many)) in
      let mapped = slice_get-map (λ (rows : Rows). length rows) hidden.hidden table ∙ ap (option_map (λ (rows : Rows). length rows)) t.there in
      let one : length t.rows ≡ count = cc (sym mapped ∙ at) in
      let rows = ap (λ (rows : Rows). length rows) t.is.rows_are ∙ part_rows.many (count_of cat table) t.is.columns in
      let its : slice_index cat.counts table ≡ other = item_at cat.counts table other there in
      sym one ∙ (rows ∙ its))
    where
      item_at : (ns : List ℕ) (k n : ℕ) → slice_get ns k ≡ Some n → slice_index ns k ≡ n
      item_at [] k n e = absurd (cc (e))
      item_at (m ∷ ns) zero n e = cc (e)
      item_at (m ∷ ns) (suc k) n e = item_at ns k n e

  pub goes_with : GoesWith cat hidden
  goes_with = record { counted = counts_same; kinds = row_kinds }

  key_among : (table identifier column child : ℕ) (value : Value) → child_at cat.schema table column ≡ Some child
      → hidden_value cat.schema hidden table identifier column ≡ Some value → is_row_among (count_of cat child) value ≡ true
  key_among table zero column child value names at = absurd (cc (at))
  key_among table (suc place) column child value names at =
      let h = is_key (column_at cat.schema table column) refl names in
      let there = order.there_are table column h in
      let t = table_there table there.0 in
      let row = some_row (slice_get (hidden_rows hidden table) place) at in
      let inside = slice_get_within (hidden_rows hidden table) place row.0 row.1 in
      let size = ap (λ (rows : Rows). length rows) (rows_are t) ∙ part_rows.many (count_of cat table) t.is.columns in
      let cell = cell_there table column (suc place) h (omega arith) (omega (arith, inside, size)) in
      let range = cell.read.ranges (suc place - 1) value (sym cell.value ∙ at) in
      subst (λ o. is_in_range (option_map (count_of cat) o) value ≡ true) names range
    where
      is_key : (o : Option Column) → column_at cat.schema table column ≡ o → child_or_none o ≡ Some child → is_hidden cat.schema table column ≡ true
      is_key None there names = absurd (cc (names))
      is_key (Some held) there names = ap hidden_or_none there ∙ tree.references_are_hidden table column child held there names

      some_row : (o : Option Row) → option_and_then (λ row. value_at (hidden_places cat.schema table) row column) o ≡ Some value → (row : Row) × (o ≡ Some row)
      some_row None e = absurd (cc (e))
      some_row (Some row) e = (row, refl)

  pub legal : IsLegalPart cat hidden
  legal = record { goes_with = goes_with; references = key_among }

  pub gives_held : told ≡ true → HiddenPartsGoWithCatalogs → ColumnsGiveValues → (kept : Hidden) → IsHidden cat kept → HoldsColumns page cat kept → hidden ≡ kept
  gives_held is_told parts values kept is holds =
      let held = subst (λ (part : Hidden). HoldsColumns page cat part) is.part holds in
      let goes = parts cat is.database is.proper is.counted in
      let has = has_part is_told in
      same_parts cat tree counted hidden (hidden_of cat.schema is.database) goes_with goes
      (λ table column identifier h some within.
      let it = values page cat is.database tree is.proper is.counted held table column h identifier some within in
      has.value table column identifier h some within ∙ (it.on_pages ∙ sym it.of_hidden))
      ∙ sym is.part

-- what a call that did not fail ensures
pub ok_of : {T E P : Type 0} (result : Result T E) → is_err result ≡ false → OnOk result P → P
ok_of (Ok x) e p = p
ok_of (Err x) e p = absurd (cc (e))
