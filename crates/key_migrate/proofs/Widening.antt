-- A schema in which some columns may be NULL too differs from the earlier one in these columns alone.
use Rattle.std.proofs.Common.{◌≡◌, ◌∙◌, ◌⊎◌, inl, inr, ◌<◌, ℕ, zero, suc, Bool, true, false, List, [], ◌∷◌, length, Option, Some, None, refl, ap, sym, subst, arith}
use Rattle.std.specs.Prelude.{option_map, slice_get, ◌==◌, ◌&&◌, ◌||◌, nat_lt}
use Rattle.std.specs.List.{fold, list_any}
use Rattle.std.proofs.lemmas.Bool.{eqb-true, eqb-false}
use Rattle.std.proofs.lemmas.Option.{slice_get_within}
use Rattle.ghost_model.specs.core.Query.{Field}
use Rattle.ghost_model.specs.core.Schema.{Schema, Table, Column, Kind, Integer, Chars, IntegerOrNull, CharsOrNull, columns_or_none, columns_of, column_at}
use Rattle.ghost_model.specs.forms.Left.{is_same_field}
use Rattle.tree_schema.specs.Nulls as nulls
use Rattle.tree_schema.specs.Nulls.{changed_at, column_or_null, is_free, may_be_null, table_with_null, with_null}
use Rattle.csv_split.specs.Widened.{IsWidened, IsWidenedColumn, or_null}
use Rattle.key_migrate.specs.Fields.{with_fields}
use Rattle.key_migrate.specs.Items.{with_field}

module _ {X : Type 0} (change : X → X) where
  length_same : (place : ℕ) (xs : List X) → length (changed_at change place xs) ≡ length xs
  unfolding changed_at
  length_same place [] = refl
  length_same zero (x ∷ xs) = refl
  length_same (suc place) (x ∷ xs) = ap suc (length_same place xs)

  at_place : (place : ℕ) (xs : List X) → slice_get (changed_at change place xs) place ≡ option_map change (slice_get xs place)
  unfolding changed_at
  at_place place [] = refl
  at_place zero (x ∷ xs) = refl
  at_place (suc place) (x ∷ xs) = at_place place xs

  at_other : (place at : ℕ) (xs : List X) → (place ≡ at → ⊥) → slice_get (changed_at change place xs) at ≡ slice_get xs at
  unfolding changed_at
  at_other place at [] apart = refl
  at_other zero zero (x ∷ xs) apart = absurd (apart refl)
  at_other zero (suc at) (x ∷ xs) apart = refl
  at_other (suc place) zero (x ∷ xs) apart = refl
  at_other (suc place) (suc at) (x ∷ xs) apart = at_other place at xs (λ e. apart (ap suc e))

  same_of_each : {Y : Type 0} (f : Option X → Y) → ((x : X) → f (Some (change x)) ≡ f (Some x)) → (place at : ℕ) (xs : List X)
      → f (slice_get (changed_at change place xs) at) ≡ f (slice_get xs at)
  unfolding changed_at
  same_of_each f same place at [] = refl
  same_of_each f same zero zero (x ∷ xs) = same x
  same_of_each f same zero (suc at) (x ∷ xs) = refl
  same_of_each f same (suc place) zero (x ∷ xs) = refl
  same_of_each f same (suc place) (suc at) (x ∷ xs) = same_of_each f same place at xs

  -- an element is as it was, or changed
  same_or_changed : (place at : ℕ) (xs : List X) (old new : X) → slice_get xs at ≡ Some old → slice_get (changed_at change place xs) at ≡ Some new
      → (new ≡ old) ⊎ (new ≡ change old)
  unfolding changed_at
  same_or_changed place at [] old new is there = cc
  same_or_changed zero zero (x ∷ xs) old new is there = let e : x ≡ old = cc in let f : change x ≡ new = cc in inr (sym f ∙ ap change e)
  same_or_changed zero (suc at) (x ∷ xs) old new is there = let e : new ≡ old = cc in inl e
  same_or_changed (suc place) zero (x ∷ xs) old new is there = let e : new ≡ old = cc in inl e
  same_or_changed (suc place) (suc at) (x ∷ xs) old new is there = same_or_changed place at xs old new is there

-- a column in another place may be allowed NULL as before

columns_beside : (held : Option Table) (column at : ℕ) → (column ≡ at → ⊥)
    → slice_get (columns_or_none (option_map (table_with_null column) held)) at ≡ slice_get (columns_or_none held) at
columns_beside None column at apart = refl
columns_beside (Some table) column at apart = at_other column_or_null column at table.columns apart

column_elsewhere : (schema : Schema) (one other : Field) → is_same_field one other ≡ false
    → column_at (with_null schema other.table other.column) one.table one.column ≡ column_at schema one.table one.column
column_elsewhere schema one other apart = by (one.table == other.table) refl
  where
    by : (b : Bool) → (one.table == other.table) ≡ b
        → column_at (with_null schema other.table other.column) one.table one.column ≡ column_at schema one.table one.column
    by false e =
        ap (λ (held : Option Table). slice_get (columns_or_none held) one.column)
        (at_other (table_with_null other.column) other.table one.table schema (λ same. eqb-false one.table other.table e (sym same)))
    by true e =
        let same : one.table ≡ other.table = eqb-true one.table other.table e in
        let beside : (one.column == other.column) ≡ false = sym (ap (λ b. b && (one.column == other.column)) e) ∙ apart in
        subst (λ table. column_at (with_null schema table other.column) one.table one.column ≡ column_at schema one.table one.column) same
        (ap (λ (held : Option Table). slice_get (columns_or_none held) one.column) (at_place (table_with_null other.column) one.table schema)
        ∙ columns_beside (slice_get schema one.table) other.column one.column (λ is. eqb-false one.column other.column beside (sym is)))

neither : (a b : Bool) → (a || b) ≡ false → (a ≡ false) × (b ≡ false)
neither true b e = cc
neither false b e = (refl, e)

-- a column that may be allowed NULL may still be where none of some others is the same
pub free_after : (schema : Schema) (one : Field) (fields : List Field) → may_be_null schema one.table one.column ≡ true
    → list_any (is_same_field one) fields ≡ false → may_be_null (with_fields schema fields) one.table one.column ≡ true
free_after schema one [] may none = may
free_after schema one (other ∷ fields) may none =
    let both = neither (is_same_field one other) (list_any (is_same_field one) fields) none in
    free_after (with_null schema other.table other.column) one fields
    (ap (λ (held : Option Column). nat_lt 0 one.column && is_free held) (column_elsewhere schema one other both.0) ∙ may) both.1

-- a schema is widened

same_kind : (kind : Kind) → nulls.or_null kind ≡ or_null kind
same_kind Integer = refl
same_kind (Chars most) = refl
same_kind IntegerOrNull = refl
same_kind (CharsOrNull most) = refl

again : (kind : Kind) → or_null (or_null kind) ≡ or_null kind
again Integer = refl
again (Chars most) = refl
again IntegerOrNull = refl
again (CharsOrNull most) = refl

unchanged : (old new : Column) → new ≡ old → IsWidenedColumn old new
unchanged old new same = record {
  hidden = ap (λ (column : Column). column.hidden) same;
  child = ap (λ (column : Column). column.child) same;
  kind = inl (ap (λ (column : Column). column.kind) same);
}

or_changed : (old new : Column) → (new ≡ old) ⊎ (new ≡ column_or_null old) → IsWidenedColumn old new
or_changed old new (inl same) = unchanged old new same
or_changed old new (inr changed) = record {
  hidden = ap (λ (column : Column). column.hidden) changed;
  child = ap (λ (column : Column). column.child) changed;
  kind = inr (ap (λ (column : Column). column.kind) changed ∙ same_kind old.kind);
}

of_tables : (column at : ℕ) (one other : Table) (old new : Column) → (other ≡ one) ⊎ (other ≡ table_with_null column one)
    → slice_get one.columns at ≡ Some old → slice_get other.columns at ≡ Some new → IsWidenedColumn old new
of_tables column at one other old new (inl same) is there =
    let moved : slice_get one.columns at ≡ Some new = sym (ap (λ (table : Table). slice_get table.columns at) same) ∙ there in
    let e : new ≡ old = cc in
    unchanged old new e
of_tables column at one other old new (inr changed) is there =
    or_changed old new
    (same_or_changed column_or_null column at one.columns old new is
    (sym (ap (λ (table : Table). slice_get table.columns at) changed) ∙ there))

of_held : (column at : ℕ) (one other : Option Table) (old new : Column)
    → ((table changed : Table) → one ≡ Some table → other ≡ Some changed → (changed ≡ table) ⊎ (changed ≡ table_with_null column table))
    → slice_get (columns_or_none one) at ≡ Some old → slice_get (columns_or_none other) at ≡ Some new → IsWidenedColumn old new
of_held column at None other old new are is there = cc
of_held column at (Some one) None old new are is there = cc
of_held column at (Some one) (Some other) old new are is there = of_tables column at one other old new (are one other refl refl) is there

widened_at : (schema : Schema) (table column : ℕ) → IsWidened schema (with_null schema table column)
widened_at schema table column = record {
  tables = length_same (table_with_null column) table schema;
  widths = λ at.
      same_of_each (table_with_null column) (λ held. length (columns_or_none held)) (λ (held : Table). length_same column_or_null column held.columns) table at
      schema;
  columns = λ at place old new is there.
      of_held column place (slice_get schema at) (slice_get (with_null schema table column) at) old new
      (λ one changed held now. same_or_changed (table_with_null column) table at schema one changed held now) is there;
}

widened_same : (schema : Schema) → IsWidened schema schema
widened_same schema = record {
  tables = refl;
  widths = λ table. refl;
  columns = λ table column old new is there. (let e : new ≡ old = cc in unchanged old new e);
}

there_is : {X : Type 0} (xs : List X) (place : ℕ) → place < length xs → (x : X) × (slice_get xs place ≡ Some x)
there_is [] place within = absurd (omega (arith, within))
there_is (x ∷ xs) zero within = (x, refl)
there_is (x ∷ xs) (suc place) within = there_is xs place (omega (arith, within))

kind_on : (first second third : Kind) → (second ≡ first) ⊎ (second ≡ or_null first) → (third ≡ second) ⊎ (third ≡ or_null second)
    → (third ≡ first) ⊎ (third ≡ or_null first)
kind_on first second third (inl a) (inl b) = inl (b ∙ a)
kind_on first second third (inl a) (inr b) = inr (b ∙ ap or_null a)
kind_on first second third (inr a) (inl b) = inr (b ∙ a)
kind_on first second third (inr a) (inr b) = inr (b ∙ (ap or_null a ∙ again first))

widened_on : (a b c : Schema) → IsWidened a b → IsWidened b c → IsWidened a c
widened_on a b c first second = record {
  tables = second.tables ∙ first.tables;
  widths = λ table. second.widths table ∙ first.widths table;
  columns = λ table column old new is there.
      (let within = slice_get_within (columns_of c table) column new there in
      let middle = there_is (columns_of b table) column (omega (arith, within, second.widths table)) in
      let one = first.columns table column old middle.0 is middle.1 in
      let other = second.columns table column middle.0 new middle.1 there in
      record {
        hidden = other.hidden ∙ one.hidden;
        child = other.child ∙ one.child;
        kind = kind_on old.kind middle.0.kind new.kind one.kind other.kind;
      });
}

pub widened_all : (schema : Schema) (fields : List (Option Field)) → IsWidened schema (fold with_field schema fields)
widened_all schema [] = widened_same schema
widened_all schema (None ∷ fields) = widened_all schema fields
widened_all schema (Some one ∷ fields) =
    widened_on schema (with_null schema one.table one.column) (fold with_field (with_null schema one.table one.column) fields)
    (widened_at schema one.table one.column) (widened_all (with_null schema one.table one.column) fields)
