-- A database of a schema under one that has some of its columns NULL.
use Rattle.std.proofs.Common.{◌≡◌, ◌<◌, ◌+◌, ◌∙◌, ◌⊎◌, inl, inr, ℕ, zero, suc, Bool, true, false, List, [], ◌∷◌, map, drop, filter, length, Some, sym, ap, ap₂, refl, subst, arith}
use Rattle.std.specs.Prelude.{slice_get, IsTrue, if◌then◌else◌, ◌&&◌}
use Rattle.std.specs.Cmp.{first_so, second_so}
use Rattle.std.proofs.lemmas.Option.{slice_get_within}
use Rattle.ghost_model.specs.core.Schema.{Schema, Table, Column, Kind, Integer, Chars, IntegerOrNull, CharsOrNull, columns_of, column_at}
use Rattle.ghost_model.specs.core.Values.{Value, Null, Number, Text, Row, Rows, Database}
use Rattle.ghost_model.specs.core.Database.{IsDatabase, is_of_kind}
use Rattle.ghost_model.specs.core.Channel.{Catalog}
use Rattle.ghost_model.specs.core.Split.{Public, Hidden, IsPublic, is_open, is_closed, kind_of_column, are_of_kinds, visible_kinds, public_of, hidden_of}
use Rattle.ghost_model.specs.forms.Flash.{IsHidden}
use Rattle.ghost_model.specs.laws.SplitByFlags.{hidden_flags, visible_values, hidden_values, tables_by}
use Rattle.ghost_model.proofs.MeaningLemmas.PartsByFlags.{visible_parts, hidden_parts}
use Rattle.csv_split.specs.Widened.{IsWidened, IsWidenedColumn, WidenedSchemasKeepDatabases, or_null}

-- what stands at a place of a list
record At (X : Type 0) (xs : List X) (place : ℕ) : Type 0 where
  held : X
  is : slice_get xs place ≡ Some held

at : {X : Type 0} (xs : List X) (place : ℕ) → place < length xs → At X xs place
at [] place within = absurd (omega (arith, within))
at (x ∷ xs) zero within = record { held = x; is = refl }
at (x ∷ xs) (suc place) within = let later = at xs place (omega (arith, within)) in record { held = later.held; is = later.is }

-- the column of the earlier schema in the place of one of the later
earlier : (before after : Schema) (table column : ℕ) (new : Column) → IsWidened before after → column_at after table column ≡ Some new
    → At Column (columns_of before table) column
earlier before after table column new w is =
    let within = slice_get_within (columns_of after table) column new is in
    at (columns_of before table) column (omega (arith, within, w.widths table))

null_beside : (kind : Kind) (value : Value) → is_of_kind kind value ≡ true → is_of_kind (or_null kind) value ≡ true
null_beside Integer Null held = cc
null_beside Integer (Number number) held = held
null_beside Integer (Text text) held = cc
null_beside (Chars most) Null held = cc
null_beside (Chars most) (Number number) held = cc
null_beside (Chars most) (Text text) held = held
null_beside IntegerOrNull value held = held
null_beside (CharsOrNull most) value held = held

still_held : (old new : Kind) (value : Value) → (new ≡ old) ⊎ (new ≡ or_null old) → is_of_kind old value ≡ true → is_of_kind new value ≡ true
still_held old new value (inl same) held = ap (λ (kind : Kind). is_of_kind kind value) same ∙ held
still_held old new value (inr null) held = ap (λ (kind : Kind). is_of_kind kind value) null ∙ null_beside old value held

databases : (before after : Schema) (database : Database) → IsWidened before after → IsDatabase before database → IsDatabase after database
databases before after database w d = record {
  tables = d.tables ∙ sym w.tables;
  widths = λ table identifier row is. d.widths table identifier row is ∙ sym (w.widths table);
  identifiers = d.identifiers;
  kinds = λ table identifier column value declared is there.
      (let old = earlier before after table column declared w there in
      still_held old.held.kind declared.kind value (w.columns table column old.held declared old.is there).kind
      (d.kinds table identifier column value old.held is old.is));
  references = λ table identifier column child value declared is there named.
      (let old = earlier before after table column declared w there in
      d.references table identifier column child value old.held is old.is
      (sym (w.columns table column old.held declared old.is there).child ∙ named));
}

-- the columns of two tables, place by place
record AreWidened (before after : List Column) : Type 0 where
  many : length after ≡ length before
  each : (place : ℕ) (old new : Column) → slice_get before place ≡ Some old → slice_get after place ≡ Some new → IsWidenedColumn old new

later_columns : (old new : Column) (before after : List Column) → AreWidened (old ∷ before) (new ∷ after) → AreWidened before after
later_columns old new before after w = record {
  many = omega (arith, w.many);
  each = λ place one other is there. w.each (suc place) one other is there;
}

but_first : (before after : List Column) → AreWidened before after → AreWidened (drop 1 before) (drop 1 after)
but_first [] [] w = record { many = refl; each = λ place old new is there. (cc) }
but_first [] (new ∷ after) w = absurd (omega (arith, w.many))
but_first (old ∷ before) [] w = absurd (omega (arith, w.many))
but_first (old ∷ before) (new ∷ after) w = later_columns old new before after w

closed_same : (before after : List Column) → AreWidened before after → map is_closed after ≡ map is_closed before
closed_same [] [] w = refl
closed_same [] (new ∷ after) w = absurd (omega (arith, w.many))
closed_same (old ∷ before) [] w = absurd (omega (arith, w.many))
closed_same (old ∷ before) (new ∷ after) w =
    ap₂ (λ (b : Bool) (bs : List Bool). b ∷ bs) (w.each 0 old new refl refl).hidden (closed_same before after (later_columns old new before after w))

flags_same : (before after : List Column) → AreWidened before after → hidden_flags after ≡ hidden_flags before
flags_same before after w = closed_same (drop 1 before) (drop 1 after) (but_first before after w)

first_table : (old new : Table) (before after : Schema) → IsWidened (old ∷ before) (new ∷ after) → AreWidened old.columns new.columns
first_table old new before after w = record { many = w.widths 0; each = λ place one other is there. w.columns 0 place one other is there }

later_tables : (old new : Table) (before after : Schema) → IsWidened (old ∷ before) (new ∷ after) → IsWidened before after
later_tables old new before after w = record {
  tables = omega (arith, w.tables);
  widths = λ table. w.widths (suc table);
  columns = λ table column one other is there. w.columns (suc table) column one other is there;
}

tables_same : (part : List Bool → Row → Row) (before after : Schema) (database : Database) → IsWidened before after
    → tables_by part after database ≡ tables_by part before database
tables_same part [] [] database w = refl
tables_same part [] (new ∷ after) database w = absurd (omega (arith, w.tables))
tables_same part (old ∷ before) [] database w = absurd (omega (arith, w.tables))
tables_same part (old ∷ before) (new ∷ after) [] w = refl
tables_same part (old ∷ before) (new ∷ after) (rows ∷ database) w =
    ap₂ (λ (flags : List Bool) (later : List Rows). map (λ row. part flags (drop 1 row)) rows ∷ later)
    (flags_same old.columns new.columns (first_table old new before after w))
    (tables_same part before after database (later_tables old new before after w))

public_same : (before after : Schema) (database : Database) → IsWidened before after → public_of after database ≡ public_of before database
public_same before after database w =
    let same : (public_of after database).visible ≡ (public_of before database).visible =
    visible_parts after database ∙ (tables_same visible_values before after database w ∙ sym (visible_parts before database)) in
    let made : List Rows → Public = λ rows. record { visible = rows } in
    ap made same

hidden_same : (before after : Schema) (database : Database) → IsWidened before after → hidden_of after database ≡ hidden_of before database
hidden_same before after database w =
    let same : (hidden_of after database).hidden ≡ (hidden_of before database).hidden =
    hidden_parts after database ∙ (tables_same hidden_values before after database w ∙ sym (hidden_parts before database)) in
    let made : List Rows → Hidden = λ rows. record { hidden = rows } in
    ap made same

-- ---- the values of visible columns

abbrev kinds_in : List Column → List Kind
kinds_in columns = map kind_of_column (filter is_open columns)

kinds_by : (column : Column) (columns : List Column) (b : Bool) → is_open column ≡ b
    → kinds_in (column ∷ columns) ≡ (if b then kind_of_column column ∷ kinds_in columns else kinds_in columns)
kinds_by column columns true e = ap (λ (t : Bool). map kind_of_column (if t then column ∷ filter is_open columns else filter is_open columns)) e
kinds_by column columns false e = ap (λ (t : Bool). map kind_of_column (if t then column ∷ filter is_open columns else filter is_open columns)) e

row_by : (old new : Column) (before after : List Column) (row : Row) (b : Bool) → is_open old ≡ b → is_open new ≡ b → IsWidenedColumn old new
    → ((rest : Row) → are_of_kinds (kinds_in before) rest ≡ true → are_of_kinds (kinds_in after) rest ≡ true)
    → are_of_kinds (kinds_in (old ∷ before)) row ≡ true → are_of_kinds (kinds_in (new ∷ after)) row ≡ true
row_by old new before after row false e f w rec held =
    ap (λ (kinds : List Kind). are_of_kinds kinds row) (kinds_by new after false f)
    ∙ rec row (ap (λ (kinds : List Kind). are_of_kinds kinds row) (sym (kinds_by old before false e)) ∙ held)
row_by old new before after [] true e f w rec held =
    let none : are_of_kinds (kind_of_column old ∷ kinds_in before) [] ≡ true =
    ap (λ (kinds : List Kind). are_of_kinds kinds []) (sym (kinds_by old before true e)) ∙ held in
    cc
row_by old new before after (value ∷ row) true e f w rec held =
    let both : are_of_kinds (kind_of_column old ∷ kinds_in before) (value ∷ row) ≡ true =
    ap (λ (kinds : List Kind). are_of_kinds kinds (value ∷ row)) (sym (kinds_by old before true e)) ∙ held in
    let first : is_of_kind new.kind value ≡ true = still_held old.kind new.kind value w.kind (first_so (is_of_kind old.kind value) _ both) in
    let rest : are_of_kinds (kinds_in after) row ≡ true = rec row (second_so (is_of_kind old.kind value) _ both) in
    ap (λ (kinds : List Kind). are_of_kinds kinds (value ∷ row)) (kinds_by new after true f)
    ∙ ap₂ (λ (a b : Bool). a && b) first rest

row_held : (before after : List Column) (row : Row) → AreWidened before after → are_of_kinds (kinds_in before) row ≡ true
    → are_of_kinds (kinds_in after) row ≡ true
row_held [] [] row w held = held
row_held [] (new ∷ after) row w held = absurd (omega (arith, w.many))
row_held (old ∷ before) [] row w held = absurd (omega (arith, w.many))
row_held (old ∷ before) (new ∷ after) row w held =
    let column = w.each 0 old new refl refl in
    let shown : is_open new ≡ is_open old = ap (λ (b : Bool). Rattle.std.specs.Prelude.not b) column.hidden in
    row_by old new before after row (is_open old) refl shown column (λ rest h. row_held before after rest (later_columns old new before after w) h) held

-- the tables at a place
table_widened : (before after : Schema) (table : ℕ) (old new : Table) → IsWidened before after → slice_get before table ≡ Some old → slice_get after table ≡ Some new
    → AreWidened old.columns new.columns
table_widened [] after table old new w is there = cc
table_widened (one ∷ before) [] table old new w is there = cc
table_widened (one ∷ before) (other ∷ after) zero old new w is there =
    let same : one ≡ old = cc in
    let also : other ≡ new = cc in
    let P : Table → Table → Type 0 = λ a b. AreWidened a.columns b.columns in
    subst (λ (a : Table). P a new) same (subst (P one) also (first_table one other before after w))
table_widened (one ∷ before) (other ∷ after) (suc table) old new w is there =
    table_widened before after table old new (later_tables one other before after w) is there

public_goes_on : (before after : Catalog) (public : Public) → IsWidened before.schema after.schema → after.counts ≡ before.counts → IsPublic before public → IsPublic after public
public_goes_on before after public w counts p = record {
  counted = p.counted ∙ sym counts;
  kinds = λ table place declared row there is.
      (let within = slice_get_within after.schema table declared there in
      let old = at before.schema table (omega (arith, within, w.tables)) in
      let columns = table_widened before.schema after.schema table old.held declared w old.is there in
      row_held (drop 1 old.held.columns) (drop 1 declared.columns) row (but_first old.held.columns declared.columns columns)
      (p.kinds table place old.held row old.is is));
}

pub kept : WidenedSchemasKeepDatabases
kept = record {
  databases = databases;
  public = public_same;
  hidden = hidden_same;
  hidden_parts = λ before after part w counts h. record {
    database = h.database;
    proper = databases before.schema after.schema h.database w h.proper;
    counted = h.counted ∙ sym counts;
    part = h.part ∙ sym (hidden_same before.schema after.schema h.database w);
  };
  public_parts = public_goes_on;
}
