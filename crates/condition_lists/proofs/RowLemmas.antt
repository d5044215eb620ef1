-- Rows of a database, and the rows that they lead to.
use Rattle.std.proofs.Common.{◌≡◌, ◌∙◌, refl, ap, sym, ℕ, zero, suc, ◌<◌, length, Bool, true, false, ◌&&◌, List, slice_get, slice_index, Option, Some, None, arith}
use Rattle.std.specs.Prelude.{not}
use Rattle.std.specs.Option.{option_map_or}
use Rattle.ghost_model.specs.core.Schema.{Schema, Table, Column, Kind, Integer, Chars, IntegerOrNull, CharsOrNull, columns_or_none, column_at, is_nullable, is_shown, is_visible, IsAtOrBelow}
use Rattle.ghost_model.specs.core.Values.{Value, Null, Number, Text, Row, Database, is_null}
use Rattle.ghost_model.specs.core.Channel.{Catalog}
use Rattle.ghost_model.specs.core.Asks.{kind_at, kind_or_none}
use Rattle.ghost_model.specs.core.Database.{is_of_kind, row_of, rows_of, value_at_row}
use Rattle.ghost_model.specs.forms.Layout.{is_hidden, count_of, levels_of}
use Rattle.ghost_model.specs.laws.LayoutLaws.{LevelsAreAncestors}
use Rattle.ghost_model.specs.laws.SchemaTrees.{IsTree, identifier}
use Rattle.ghost_model.specs.laws.MeaningLaws.{LeadsFollowKeys, Lands}
use Rattle.ghost_model.proofs.MeaningLemmas.Leading.{get_within, place_within}
use Rattle.ghost_model.proofs.FlashLemmas.Values.{count_there}
use Rattle.flash_layout.specs.Ranges.{IsRowOf}
use Rattle.condition_lists.specs.Laws.{IsOver}
use Rattle.condition_lists.proofs.TermLemmas.{and_no}

-- a hidden column is not visible
unseen_by : (a : Bool) (o : Option Column) → option_map_or (λ (held : Column). held.hidden) o false ≡ true → (a && is_shown o) ≡ false
unseen_by a None e = absurd (cc (e))
unseen_by a (Some column) e = and_no a (not column.hidden) (ap not e)

pub unseen : (schema : Schema) (table column : ℕ) → is_hidden schema table column ≡ true → is_visible schema table column ≡ false
unseen schema table column e = unseen_by _ (column_at schema table column) e

-- an identifier is not hidden
pub in_schema : (schema : Schema) (table column : ℕ) (held : Column) → column_at schema table column ≡ Some held → table < length schema
in_schema schema table column held e = by (slice_get schema table) refl e
  where
    by : (o : Option Table) → slice_get schema table ≡ o → slice_get (columns_or_none o) column ≡ Some held → table < length schema
    by None at e = absurd (cc (e))
    by (Some declared) at e = place_within schema table declared at

pub some_column : (o : Option Column) → option_map_or (λ (held : Column). held.hidden) o false ≡ true → (held : Column) × (o ≡ Some held) × (held.hidden ≡ true)
some_column None e = absurd (cc (e))
some_column (Some column) e = (column, refl, e)

pub never_hidden : (schema : Schema) → IsTree schema → (table : ℕ) → is_hidden schema table 0 ≡ true → ⊥
never_hidden schema tree table h =
    let held = some_column (column_at schema table 0) h in
    let first = tree.begins_with_id table (in_schema schema table 0 held.0 held.1) in
    clash held.0 held.2 (sym held.1 ∙ first)
  where
    clash : (held : Column) → held.hidden ≡ true → Some held ≡ Some identifier → ⊥
    clash held hidden same = let it : held ≡ identifier = cc in let e : true ≡ false = sym hidden ∙ ap (λ (c : Column). c.hidden) it in cc

-- a value is NULL only in a column that may be NULL
kind_not_null : (kind : Kind) (value : Value) → is_nullable kind ≡ false → is_of_kind kind value ≡ true → is_null value ≡ false
kind_not_null kind (Number n) plain fits = refl
kind_not_null kind (Text t) plain fits = refl
kind_not_null Integer Null plain fits = absurd (cc (fits))
kind_not_null (Chars most) Null plain fits = absurd (cc (fits))
kind_not_null IntegerOrNull Null plain fits = absurd (cc (plain))
kind_not_null (CharsOrNull most) Null plain fits = absurd (cc (plain))

pub never_null : (cat : Catalog) (database : Database) → IsOver cat database → (table identifier column : ℕ) (held : Column) → column_at cat.schema table column ≡ Some held
    → is_nullable held.kind ≡ false → (value : Value) → value_at_row database table identifier column ≡ Some value → is_null value ≡ false
never_null cat database over table identifier column held there plain value at =
    kind_not_null held.kind value plain (over.is.kinds table identifier column value held at there)

pub null_if_allowed : (cat : Catalog) (database : Database) → IsOver cat database → (table identifier column : ℕ) → is_hidden cat.schema table column ≡ true
    → (value : Value) → value_at_row database table identifier column ≡ Some value → is_null value ≡ true → is_nullable (kind_at cat.schema table column) ≡ true
null_if_allowed cat database over table identifier column hidden value at null =
    let held = some_column (column_at cat.schema table column) hidden in
    by (is_nullable held.0.kind) (ap (λ o. is_nullable (kind_or_none o)) held.1) (λ plain. never_null cat database over table identifier column held.0 held.1 plain value at) refl
  where
    by : (b : Bool) → is_nullable (kind_at cat.schema table column) ≡ b → (b ≡ false → is_null value ≡ false) → b ≡ b → is_nullable (kind_at cat.schema table column) ≡ true
    by true e never same = e
    by false e never same = absurd (let none : is_null value ≡ false = never refl in cc (null, none))

-- a table with a level is the top one or below it
pub below_by : LevelsAreAncestors → (cat : Catalog) (database : Database) → IsOver cat database → (top table level : ℕ)
    → table < length cat.schema → slice_get (levels_of cat.schema table) level ≡ Some top → IsAtOrBelow cat.schema top table
below_by levels cat database over top table level there e = (level, sym (levels cat.schema over.tree table level there) ∙ e)

module _ (cat : Catalog) (database : Database) (over : IsOver cat database) where
  pub rows_are : (table : ℕ) → count_of cat table ≡ length (rows_of database table)
  rows_are table = ap (λ (ns : List ℕ). slice_index ns table) (sym over.counts) ∙ count_there database table

  pub row_there : (table identifier : ℕ) → IsRowOf cat table identifier → (r : Row) × (row_of database table identifier ≡ Some r)
  row_there table zero is = absurd (let some = is.some in omega (arith, some))
  row_there table (suc place) is = let size = rows_are table in let within = is.within in get_within (rows_of database table) place (omega (arith, size, within))

  pub is_row : (table identifier : ℕ) (row : Row) → row_of database table identifier ≡ Some row → IsRowOf cat table identifier
  is_row table zero row e = absurd (cc (e))
  is_row table (suc place) row e =
      let size = rows_are table in
      let near = place_within (rows_of database table) place row e in
      record { some = omega arith; within = omega (arith, size, near) }

  -- a row of a table above leads to a row
  pub led : LeadsFollowKeys cat.schema database → (top table identifier : ℕ) → IsAtOrBelow cat.schema top table → IsRowOf cat top identifier
      → Lands cat.schema database top identifier table
  led keys top table identifier below is = let r = row_there top identifier is in keys.lands top table identifier r.0 below r.1
