-- Rows that are taken into columns, one after another.
use Rattle.std.proofs.Common.{◌≡◌, ℕ, zero, suc, ◌+◌, ◌*◌, Bool, true, ◌&&◌, List, [], ◌∷◌, ◌++◌, length, map, take, drop, Some, ap, ap₂, sym, refl, subst, ◌∙◌, arith, append_assoc, append-nil, length-append}
use Rattle.std.specs.Prelude.{slice_get}
use Rattle.std.specs.Cmp.{second_so}
use Rattle.std.specs.List.{list_all}
use Rattle.std.proofs.lemmas.List.{take-append-drop, map-append}
use Rattle.std.proofs.lemmas.Grind.{flat_map-append}
use Rattle.std.proofs.Math.Seq.{take-add}
use Rattle.ghost_model.specs.core.Schema.{Kind}
use Rattle.ghost_model.specs.core.Values.{Value, Row, Rows}
use Rattle.ghost_model.specs.forms.Cells.{cell_width, encode_cell}
use Rattle.ghost_model.specs.core.Database.{is_of_kind}
use Rattle.ghost_model.specs.core.Split.{cells, are_of_kinds}
use Rattle.ghost_base.specs.Views as base
use Rattle.ghost_base.specs.declared.kind.Kind as code
use Rattle.csv_split.specs.declared.cells.Cells.{Cells}
use Rattle.csv_split.specs.Cells.{kind_in, values_in}
use Rattle.csv_split.specs.Parts.{part_in}
use Rattle.csv_split.specs.Reading.{HaveAll}
use Rattle.csv_split.specs.Tables.{column_values}
use Rattle.host_exec.specs.Checked.{SpellsRow, is_narrow}
use Rattle.host_exec.specs.Columns.{IsRowOf, AreOfKinds, AreColumns, AddsRows, rows_so_far}
use Rattle.host_exec.specs.declared.columns.Columns.{Columns}

-- ---- columns without rows

pub record MadeTo (kinds rest : List code.Kind) (made : List Cells) : Type 0 where
  pub of_kinds : map base.kind_of kinds ≡ map kind_in made ++ map base.kind_of rest
  pub none : HaveAll 0 (column_values made)
  pub narrow : list_all is_narrow (map base.kind_of rest) ≡ true

pub nothing_made : (kinds : List code.Kind) → list_all is_narrow (map base.kind_of kinds) ≡ true → MadeTo kinds kinds []
nothing_made kinds narrow = record { of_kinds = refl; none = record { each = λ column values is. (cc) }; narrow = narrow }

none_at : (made : List Cells) (column : Cells) (at : ℕ) (values : List Value) → HaveAll 0 (column_values made) → values_in column ≡ []
    → slice_get (column_values (made ++ column ∷ [])) at ≡ Some values → length values ≡ 0
none_at [] column zero values all none is =
    let same : values_in column ≡ values = cc in
    ap length (sym same ∙ none)
none_at [] column (suc at) values all none is = cc
none_at (first ∷ made) column zero values all none is = all.each 0 values is
none_at (first ∷ made) column (suc at) values all none is =
    none_at made column at values (record { each = λ place held h. all.each (suc place) held h }) none is

pub one_made : (kinds rest later : List code.Kind) (kind : code.Kind) (made new : List Cells) (column : Cells) → MadeTo kinds rest made → rest ≡ kind ∷ later
    → new ≡ made ++ column ∷ [] → kind_in column ≡ base.kind_of kind → values_in column ≡ [] → MadeTo kinds later new
one_made kinds rest later kind made new column so_far e n k v =
    let split : map base.kind_of rest ≡ base.kind_of kind ∷ map base.kind_of later = ap (map base.kind_of) e in
    let grown : map kind_in new ≡ map kind_in made ++ base.kind_of kind ∷ [] =
    ap (map kind_in) n ∙ (map-append kind_in made (column ∷ []) ∙ ap (λ (one : Kind). map kind_in made ++ one ∷ []) k) in
    record {
      of_kinds = so_far.of_kinds ∙ (ap (λ (ks : List Kind). map kind_in made ++ ks) split
          ∙ (sym (append_assoc (map kind_in made) (base.kind_of kind ∷ []) (map base.kind_of later)) ∙ ap (λ (ks : List Kind). ks ++ map base.kind_of later) (sym grown)));
      none = record { each = λ at values is. none_at made column at values so_far.none v (ap (λ (cs : List Cells). slice_get (column_values cs) at) (sym n) ∙ is) };
      narrow = second_so (is_narrow (base.kind_of kind)) _ (ap (list_all is_narrow) (sym split) ∙ so_far.narrow);
    }

pub all_made : (kinds rest : List code.Kind) (made : List Cells) (columns : Columns) → MadeTo kinds rest made → rest ≡ [] → columns.cells.items ≡ made → columns.rows ≡ 0
    → AreColumns (map base.kind_of kinds) columns
all_made kinds rest made columns so_far e c r = record {
  of_kinds = ap (map kind_in) c ∙ (sym (append-nil (map kind_in made)) ∙ (ap (λ (ks : List code.Kind). map kind_in made ++ map base.kind_of ks) (sym e) ∙ sym so_far.of_kinds));
  all = subst (λ (n : ℕ). HaveAll n (column_values columns.cells.items)) (sym r) (subst (λ (cs : List Cells). HaveAll 0 (column_values cs)) (sym c) so_far.none);
}

-- ---- the cells of a row

both_true : (a b : Bool) → a ≡ true → b ≡ true → (a && b) ≡ true
both_true a b p q = rw (p, q) refl

row_more : (kind : Kind) (kinds : List Kind) (bytes : List ℕ) (value : Value) (row : Row) → encode_cell kind value ≡ take (cell_width kind) bytes → is_of_kind kind value ≡ true
    → IsRowOf kinds row (drop (cell_width kind) bytes) → IsRowOf (kind ∷ kinds) (value ∷ row) bytes
row_more kind kinds bytes value row e f later = record {
  fits = both_true (is_of_kind kind value) (are_of_kinds kinds row) f later.fits;
  spelled = ap₂ (λ (xs ys : List ℕ). xs ++ ys) e later.spelled ∙ take-append-drop (cell_width kind) bytes;
}

-- so many values were read, and those of the other kinds follow
pub record TakenTo (kinds : List Kind) (whole : List ℕ) (taken : Row) (rest : List Kind) (bytes : List ℕ) : Type 0 where
  pub leads : (row : Row) → IsRowOf rest row bytes → IsRowOf kinds (taken ++ row) whole

pub nothing_taken : (kinds : List Kind) (whole : List ℕ) → TakenTo kinds whole [] kinds whole
nothing_taken kinds whole = record { leads = λ row h. h }

pub one_taken : (kinds : List Kind) (whole : List ℕ) (taken new : Row) (all : List Kind) (bytes : List ℕ) (kind : Kind) (later : List Kind) (width : ℕ) (cell next : List ℕ) (value : Value)
    → TakenTo kinds whole taken all bytes → all ≡ kind ∷ later → width ≡ cell_width kind → cell ≡ take width bytes → next ≡ drop width bytes
    → encode_cell kind value ≡ cell → is_of_kind kind value ≡ true → new ≡ taken ++ value ∷ [] → TakenTo kinds whole new later next
one_taken kinds whole taken new all bytes kind later width cell next value so_far e w c n v f grown =
    let front : encode_cell kind value ≡ take (cell_width kind) bytes = v ∙ (c ∙ ap (λ (k : ℕ). take k bytes) w) in
    let back : next ≡ drop (cell_width kind) bytes = n ∙ ap (λ (k : ℕ). drop k bytes) w in
    record {
      leads = λ row h.
          (let joined : taken ++ (value ∷ row) ≡ new ++ row = sym (append_assoc taken (value ∷ []) row) ∙ ap (λ (xs : Row). xs ++ row) (sym grown) in
          subst (λ (xs : Row). IsRowOf kinds xs whole) joined (so_far.leads (value ∷ row)
          (subst (λ (ks : List Kind). IsRowOf ks (value ∷ row) bytes) (sym e) (row_more kind later bytes value row front f (subst (IsRowOf later row) back h)))));
    }

pub all_taken : (kinds : List Kind) (whole : List ℕ) (taken : Row) (rest : List Kind) (bytes : List ℕ) → TakenTo kinds whole taken rest bytes → rest ≡ [] → bytes ≡ []
    → IsRowOf kinds taken whole
all_taken kinds whole taken rest bytes so_far none end =
    let nothing : IsRowOf rest [] bytes = subst (λ (ks : List Kind). IsRowOf ks [] bytes) (sym none) (record { fits = refl; spelled = sym end }) in
    subst (λ (xs : Row). IsRowOf kinds xs whole) (append-nil taken) (so_far.leads [] nothing)

-- bytes are left behind the last of the kinds
pub too_long : (rest : List Kind) (bytes : List ℕ) → rest ≡ [] → (bytes ≡ [] → ⊥) → SpellsRow rest bytes → ⊥
too_long rest bytes none some s =
    let here : SpellsRow [] bytes = subst (λ (ks : List Kind). SpellsRow ks bytes) none s in
    some (sym here.spelled)

-- ---- rows

pub none_added : (kinds : List Kind) (columns : Columns) → AddsRows kinds 0 [] columns columns
none_added kinds columns = record {
  added = [];
  joined = sym (append-nil (rows_so_far columns));
  number = omega arith;
  counted = refl;
  fits = λ place row is. (cc);
  spelled = refl;
}

one_fits : (kinds : List Kind) (row : Row) → are_of_kinds kinds row ≡ true → AreOfKinds kinds (row ∷ [])
one_fits kinds row fits zero other is = let same : row ≡ other = cc in ap (are_of_kinds kinds) (sym same) ∙ fits
one_fits kinds row fits (suc place) other is = cc

all_fit : (kinds : List Kind) (rows more : Rows) → AreOfKinds kinds rows → AreOfKinds kinds more → AreOfKinds kinds (rows ++ more)
all_fit kinds [] more a b place row is = b place row is
all_fit kinds (first ∷ rows) more a b zero row is = a 0 row is
all_fit kinds (first ∷ rows) more a b (suc place) row is = all_fit kinds rows more (λ p r h. a (suc p) r h) b place row is

pub row_added : (kinds : List Kind) (row : Row) (bytes : List ℕ) (before after : Columns) → IsRowOf kinds row bytes → after.rows ≡ before.rows + 1
    → part_in (before.rows + 1) (column_values after.cells.items) ≡ rows_so_far before ++ row ∷ [] → AddsRows kinds 1 bytes before after
row_added kinds row bytes before after is number grown = record {
  added = row ∷ [];
  joined = ap (λ (n : ℕ). part_in n (column_values after.cells.items)) number ∙ grown;
  number = number;
  counted = refl;
  fits = one_fits kinds row is.fits;
  spelled = append-nil (cells kinds row) ∙ is.spelled;
}

pub all_added : (kinds : List Kind) (one other : ℕ) (bytes more : List ℕ) (before mid after : Columns) → AddsRows kinds one bytes before mid → AddsRows kinds other more mid after
    → AddsRows kinds (one + other) (bytes ++ more) before after
all_added kinds one other bytes more before mid after a b = record {
  added = a.added ++ b.added;
  joined = b.joined ∙ (ap (λ (rows : Rows). rows ++ b.added) a.joined ∙ append_assoc (rows_so_far before) a.added b.added);
  number = omega (arith, a.number, b.number);
  counted = omega (arith, length-append a.added b.added, a.counted, b.counted);
  fits = all_fit kinds a.added b.added a.fits b.fits;
  spelled = flat_map-append (cells kinds) a.added b.added ∙ ap₂ (λ (xs ys : List ℕ). xs ++ ys) a.spelled b.spelled;
}

-- one row more of a piece
pub more_added : (kinds : List Kind) (width passed : ℕ) (piece rest : List ℕ) (before mid after : Columns) → rest ≡ drop (passed * width) piece
    → AddsRows kinds passed (take (passed * width) piece) before mid → AddsRows kinds 1 (take width rest) mid after
    → AddsRows kinds (passed + 1) (take ((passed + 1) * width) piece) before after
more_added kinds width passed piece rest before mid after e a b =
    let size : passed * width + width ≡ (passed + 1) * width = omega arith in
    let joined : take (passed * width) piece ++ take width rest ≡ take ((passed + 1) * width) piece =
    ap (λ (xs : List ℕ). take (passed * width) piece ++ take width xs) e ∙ (sym (take-add (passed * width) width piece) ∙ ap (λ (n : ℕ). take n piece) size) in
    subst (λ (bs : List ℕ). AddsRows kinds (passed + 1) bs before after) joined (all_added kinds passed 1 (take (passed * width) piece) (take width rest) before mid after a b)
