-- The columns of a schema's table after its identifier.
use Rattle.std.proofs.Common.{◌≡◌, ◌≤◌, ◌∙◌, ℕ, suc, true, List, [], ◌∷◌, length, drop, Some, sym, ap, refl, arith, lit<}
use Rattle.std.specs.Prelude.{slice_get}
use Rattle.std.specs.Cmp.{first_so, second_so}
use Rattle.std.proofs.lemmas.Slice.Eq.{bytes_eq-Decides}
use Rattle.std.proofs.lemmas.List.{length-map}
use Rattle.ghost_model.specs.forms.Cells.{cell_width}
use Rattle.ghost_model.specs.core.Schema as schema
use Rattle.ghost_model.specs.core.Schema.{Kind, Integer, Chars, IntegerOrNull, CharsOrNull, plain_of, column_at}
use Rattle.ghost_model.specs.laws.SchemaTrees.{IsTree}
use Rattle.ghost_model.specs.laws.Spelled.{is_name}
use Rattle.ghost_model.specs.refusals.Tokens.{in_lower_case}
use Rattle.tree_schema.specs.declared.schema.Column.{Column}
use Rattle.tree_schema.specs.Views.{column_of}
use Rattle.csv_split.specs.Reading.{AreColumns, columns_of}

lower : (name : List ℕ) → is_name name ≡ true → in_lower_case name ≡ name
unfolding is_name
lower name h = (bytes_eq-Decides (in_lower_case name) name).0 (second_so _ _ (first_so _ _ h))

pub narrow : (kind : Kind) → ((most : ℕ) → kind ≡ Chars most → (1 ≤ most) × (most ≤ 64)) → ((most : ℕ) → kind ≡ CharsOrNull most → (1 ≤ most) × (most ≤ 64))
    → cell_width (plain_of kind) ≤ 64
narrow Integer short nullable = lit< tt
narrow (Chars most) short nullable = (short most refl).1
narrow IntegerOrNull short nullable = lit< tt
narrow (CharsOrNull most) short nullable = (nullable most refl).1

-- no cell is wider than that of the longest text beside which NULL may stand
pub not_wide : (kind : Kind) → ((most : ℕ) → kind ≡ Chars most → (1 ≤ most) × (most ≤ 64)) → ((most : ℕ) → kind ≡ CharsOrNull most → (1 ≤ most) × (most ≤ 64))
    → cell_width kind ≤ 65
not_wide Integer short nullable = lit< tt
not_wide (Chars most) short nullable = let few = (short most refl).1 in omega arith
not_wide IntegerOrNull short nullable = lit< tt
not_wide (CharsOrNull most) short nullable = let few = (nullable most refl).1 in omega arith

-- the columns but the first stand one place further in the schema
further : (all : List Column) (column : ℕ) (held : schema.Column) → slice_get (columns_of (drop 1 all)) column ≡ Some held → slice_get (columns_of all) (suc column) ≡ Some held
further [] column held is = cc is
further (_ ∷ later) column held is = is

pub few_columns : (tables : schema.Schema) (table : ℕ) (all : List Column) → IsTree tables → columns_of all ≡ schema.columns_of tables table → length all ≤ 24
few_columns tables table all tree is =
    let wide : length (columns_of all) ≡ length all = length-map all column_of in
    let same = ap length is in
    let few = tree.few_columns table in
    omega arith

pub are_columns : (tables : schema.Schema) (table : ℕ) (all : List Column) → IsTree tables → columns_of all ≡ schema.columns_of tables table
    → AreColumns (columns_of (drop 1 all))
are_columns tables table all tree is =
    let there : (column : ℕ) (held : schema.Column) → slice_get (columns_of (drop 1 all)) column ≡ Some held → column_at tables table (suc column) ≡ Some held =
    λ column held found. ap (λ columns. slice_get columns (suc column)) (sym is) ∙ further all column held found in
    record {
      few = short all (few_columns tables table all tree is);
      narrow = λ column held found.
          narrow held.kind (λ most kind. tree.text_lengths table (suc column) most held (there column held found) kind)
          (λ most kind. tree.nullable_text_lengths table (suc column) most held (there column held found) kind);
      lower = λ column held found. lower held.name (tree.names_are_names table (suc column) held (there column held found));
    }
  where
    short : (all : List Column) → length all ≤ 24 → length (columns_of (drop 1 all)) ≤ 23
    short [] few = omega arith
    short (_ ∷ later) few = let wide : length (columns_of later) ≡ length later = length-map later column_of in omega arith
