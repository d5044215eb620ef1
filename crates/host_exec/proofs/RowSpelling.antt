-- A row that its bytes spell, cell by cell.
use Rattle.std.proofs.Common.{◌≡◌, ℕ, zero, suc, ◌+◌, ◌-◌, ◌<◌, ◌≤◌, Bool, true, false, ◌&&◌, nat_lt, List, [], ◌∷◌, ◌++◌, length, map, take, drop, filter, Option, Some, None, ap, ap₂, sym, refl, subst, ◌∙◌, arith, append_assoc, le-leb}
use Rattle.std.specs.Prelude.{slice_get, if◌then◌else◌}
use Rattle.std.specs.Cmp.{first_so, second_so}
use Rattle.std.specs.List.{list_all}
use Rattle.std.proofs.lemmas.List.{take-append-drop, map-append, append-nil, drop_all, length-drop}
use Rattle.std.proofs.Math.Seq.{take-append_seam, drop-append_seam}
use Rattle.ghost_model.specs.core.Schema.{Schema, Column, Kind, columns_of, column_at, is_shown, plain_of}
use Rattle.ghost_model.specs.core.Schema as schemas
use Rattle.ghost_model.specs.core.Values.{Value, Row}
use Rattle.ghost_model.specs.forms.Cells.{cell_width, encode_cell}
use Rattle.ghost_model.specs.readings.CellReading.{decode_cell}
use Rattle.ghost_model.specs.core.Database.{is_of_kind}
use Rattle.ghost_model.specs.core.Split.{cells, are_of_kinds, is_open, kind_of_column}
use Rattle.ghost_model.proofs.ChannelLemmas.Asks.{cell_length, cell_is_read}
use Rattle.ghost_base.specs.Views as base
use Rattle.ghost_base.specs.declared.kind.Kind as code
use Rattle.ghost_model.specs.core.Asks.{kind_at, kind_or_none}
use Rattle.std.proofs.lemmas.Bool.Decides.{nat_tests}
use Rattle.std.proofs.lemmas.List.Folds.{list_all-append}
use Rattle.host_exec.specs.RowBytes.{data_columns}
use Rattle.host_exec.specs.Checked.{SpellsRow, shown_kinds, is_narrow}
use Rattle.host_exec.proofs.Widths.{behind_first}

both_true : (a b : Bool) → a ≡ true → b ≡ true → (a && b) ≡ true
both_true a b p q = rw (p, q) refl

-- a value is read, and a row of the other kinds follows it
pub spells_more : (kind : Kind) (kinds : List Kind) (bytes : List ℕ) (value : Value) → encode_cell kind value ≡ take (cell_width kind) bytes → is_of_kind kind value ≡ true
    → SpellsRow kinds (drop (cell_width kind) bytes) → SpellsRow (kind ∷ kinds) bytes
spells_more kind kinds bytes value e f later = record {
  row = value ∷ later.row;
  fits = both_true (is_of_kind kind value) (are_of_kinds kinds later.row) f later.fits;
  spelled = ap₂ (λ (xs ys : List ℕ). xs ++ ys) e later.spelled ∙ take-append-drop (cell_width kind) bytes;
}

pub record FirstCell (kind : Kind) (kinds : List Kind) (bytes : List ℕ) : Type 0 where
  pub value : Value
  pub read : decode_cell kind (take (cell_width kind) bytes) ≡ Some value
  pub later : SpellsRow kinds (drop (cell_width kind) bytes)

first_of : (kind : Kind) (kinds : List Kind) (bytes : List ℕ) (row : Row) → are_of_kinds (kind ∷ kinds) row ≡ true → cells (kind ∷ kinds) row ≡ bytes → FirstCell kind kinds bytes
first_of kind kinds bytes [] f e = cc
first_of kind kinds bytes (value ∷ row) f e =
    let fits : is_of_kind kind value ≡ true = first_so (is_of_kind kind value) _ f in
    let long : length (encode_cell kind value) ≡ cell_width kind = cell_length kind value fits in
    let front : take (cell_width kind) bytes ≡ encode_cell kind value =
    ap (take (cell_width kind)) (sym e) ∙ (ap (λ (n : ℕ). take n (encode_cell kind value ++ cells kinds row)) (sym long) ∙ take-append_seam (encode_cell kind value) (cells kinds row)) in
    let back : drop (cell_width kind) bytes ≡ cells kinds row =
    ap (drop (cell_width kind)) (sym e) ∙ (ap (λ (n : ℕ). drop n (encode_cell kind value ++ cells kinds row)) (sym long) ∙ drop-append_seam (encode_cell kind value) (cells kinds row)) in
    record {
      value = value;
      read = ap (decode_cell kind) front ∙ cell_is_read kind value fits;
      later = record { row = row; fits = second_so (is_of_kind kind value) _ f; spelled = sym back };
    }

pub spells_first : (kind : Kind) (kinds : List Kind) (bytes : List ℕ) → SpellsRow (kind ∷ kinds) bytes → FirstCell kind kinds bytes
spells_first kind kinds bytes s = first_of kind kinds bytes s.row s.fits s.spelled

-- bytes that are read so far
pub record ReadTo (kinds : List Kind) (row : List ℕ) (rest : List Kind) (bytes : List ℕ) : Type 0 where
  pub leads : SpellsRow rest bytes → SpellsRow kinds row
  pub comes : SpellsRow kinds row → SpellsRow rest bytes

pub read_from : (kinds : List Kind) (row : List ℕ) → ReadTo kinds row kinds row
read_from kinds row = record { leads = λ s. s; comes = λ s. s }

pub read_one : (kinds : List Kind) (row : List ℕ) (all : List Kind) (bytes : List ℕ) (kind : Kind) (later : List Kind) (width : ℕ) (cell next : List ℕ) (value : Value)
    → ReadTo kinds row all bytes → all ≡ kind ∷ later → width ≡ cell_width kind → cell ≡ take width bytes → next ≡ drop width bytes
    → encode_cell kind value ≡ cell → is_of_kind kind value ≡ true → ReadTo kinds row later next
read_one kinds row all bytes kind later width cell next value so_far e w c n v f =
    let front : encode_cell kind value ≡ take (cell_width kind) bytes = v ∙ (c ∙ ap (λ (k : ℕ). take k bytes) w) in
    let back : next ≡ drop (cell_width kind) bytes = n ∙ ap (λ (k : ℕ). drop k bytes) w in
    record {
      leads = λ s. so_far.leads (subst (λ (ks : List Kind). SpellsRow ks bytes) (sym e) (spells_more kind later bytes value front f (subst (SpellsRow later) back s)));
      comes = λ s. subst (SpellsRow later) (sym back) (spells_first kind later bytes (subst (λ (ks : List Kind). SpellsRow ks bytes) e (so_far.comes s))).later;
    }

pub not_read : (kinds : List Kind) (row : List ℕ) (all : List Kind) (bytes : List ℕ) (kind : Kind) (later : List Kind) (width : ℕ) (cell : List ℕ)
    → ReadTo kinds row all bytes → all ≡ kind ∷ later → width ≡ cell_width kind → cell ≡ take width bytes → decode_cell kind cell ≡ None → SpellsRow kinds row → ⊥
not_read kinds row all bytes kind later width cell so_far e w c none s =
    let first = spells_first kind later bytes (subst (λ (ks : List Kind). SpellsRow ks bytes) e (so_far.comes s)) in
    let same : decode_cell kind (take (cell_width kind) bytes) ≡ None = ap (decode_cell kind) (sym (c ∙ ap (λ (k : ℕ). take k bytes) w)) ∙ none in
    let clash : None ≡ Some first.value = sym same ∙ first.read in
    cc

pub all_spelled : (kinds : List Kind) (row : List ℕ) (all : List Kind) (bytes : List ℕ) → ReadTo kinds row all bytes → all ≡ [] → bytes ≡ [] → SpellsRow kinds row
all_spelled kinds row all bytes so_far e b =
    so_far.leads (subst (λ (ks : List Kind). SpellsRow ks bytes) (sym e) record { row = []; fits = refl; spelled = sym b })

no_bytes : (row : Row) → are_of_kinds [] row ≡ true → cells [] row ≡ []
no_bytes [] k = refl
no_bytes (value ∷ row) k = cc

pub bytes_left : (kinds : List Kind) (row : List ℕ) (all : List Kind) (bytes : List ℕ) → ReadTo kinds row all bytes → all ≡ [] → SpellsRow kinds row → bytes ≡ []
bytes_left kinds row all bytes so_far e s =
    let none = subst (λ (ks : List Kind). SpellsRow ks bytes) e (so_far.comes s) in
    sym none.spelled ∙ no_bytes none.row none.fits

-- ---- the kinds of the visible columns

-- the columns of a table from one on
columns_on : (schema : Schema) (table at : ℕ) → 1 ≤ at → (column : Column) → column_at schema table at ≡ Some column
    → drop (at - 1) (data_columns schema table) ≡ column ∷ drop at (data_columns schema table)
columns_on schema table at some column there =
    let next : suc (at - 1) ≡ at = omega (arith, some) in
    on_from (data_columns schema table) (at - 1) column (sym (behind_first (columns_of schema table) at some) ∙ there)
    ∙ ap (λ (n : ℕ). column ∷ drop n (data_columns schema table)) next
  where
    on_from : (columns : List Column) (place : ℕ) (column : Column) → slice_get columns place ≡ Some column → drop place columns ≡ column ∷ drop (suc place) columns
    on_from [] place column e = cc
    on_from (first ∷ columns) zero column e = let same : first ≡ column = cc in ap (λ (c : Column). c ∷ columns) same
    on_from (first ∷ columns) (suc place) column e = on_from columns place column e

shown_next : (column : Column) (columns : List Column) (b : Bool) → is_open column ≡ b → shown_kinds (column ∷ columns) ≡ (if b then kind_of_column column ∷ shown_kinds columns else shown_kinds columns)
shown_next column columns true e = ap (λ (t : Bool). map kind_of_column (if t then column ∷ filter is_open columns else filter is_open columns)) e
shown_next column columns false e = ap (λ (t : Bool). map kind_of_column (if t then column ∷ filter is_open columns else filter is_open columns)) e

there_is : (xs : List Column) (place : ℕ) → place < length xs → (column : Column) × (slice_get xs place ≡ Some column)
there_is [] place h = absurd (omega (arith, h))
there_is (x ∷ xs) zero h = (x, refl)
there_is (x ∷ xs) (suc place) h = there_is xs place (omega (arith, h))

tested_visible : (schema : Schema) (table at : ℕ) (column : Column) (b : Bool) → 1 ≤ at → column_at schema table at ≡ Some column → b ≡ schemas.is_visible schema table at → is_open column ≡ b
tested_visible schema table at column b some there e =
    let above : nat_lt 0 at ≡ true = grind (arith, nat_tests) in
    sym (e ∙ (ap (λ (o : Option Column). nat_lt 0 at && is_shown o) there ∙ ap (λ (t : Bool). t && is_open column) above))

-- the kinds so far, and those of the columns from one on, are all kinds
abbrev pub KindsTo : Schema → (table at : ℕ) → List code.Kind → Type 0
KindsTo schema table at kinds = map base.kind_of kinds ++ shown_kinds (drop (at - 1) (data_columns schema table)) ≡ shown_kinds (data_columns schema table)

pub kinds_more : (schema : Schema) (table at : ℕ) (kinds new : List code.Kind) (kind : code.Kind) (b : Bool) → 1 ≤ at → at < length (columns_of schema table)
    → b ≡ schemas.is_visible schema table at → b ≡ true → base.kind_of kind ≡ kind_at schema table at → new ≡ kinds ++ kind ∷ [] → KindsTo schema table at kinds → KindsTo schema table (at + 1) new
kinds_more schema table at kinds new kind b some inside v t k n told =
    let found = there_is (columns_of schema table) at inside in
    let shown : is_open found.0 ≡ true = tested_visible schema table at found.0 b some found.1 v ∙ t in
    let next : at + 1 - 1 ≡ at = omega arith in
    let here : shown_kinds (drop (at - 1) (data_columns schema table)) ≡ base.kind_of kind ∷ shown_kinds (drop at (data_columns schema table)) =
    ap shown_kinds (columns_on schema table at some found.0 found.1)
    ∙ (shown_next found.0 (drop at (data_columns schema table)) true shown
    ∙ ap (λ (q : Kind). q ∷ shown_kinds (drop at (data_columns schema table))) (sym (k ∙ ap kind_or_none found.1))) in
    ap (λ (m : ℕ). map base.kind_of new ++ shown_kinds (drop m (data_columns schema table))) next
    ∙ (ap (λ (ks : List code.Kind). map base.kind_of ks ++ shown_kinds (drop at (data_columns schema table))) n
    ∙ (ap (λ (ks : List Kind). ks ++ shown_kinds (drop at (data_columns schema table))) (map-append base.kind_of kinds (kind ∷ []))
    ∙ (append_assoc (map base.kind_of kinds) (base.kind_of kind ∷ []) (shown_kinds (drop at (data_columns schema table)))
    ∙ (ap (λ (ks : List Kind). map base.kind_of kinds ++ ks) (sym here) ∙ told))))

pub kinds_same : (schema : Schema) (table at : ℕ) (kinds : List code.Kind) (b : Bool) → 1 ≤ at → at < length (columns_of schema table)
    → b ≡ schemas.is_visible schema table at → b ≡ false → KindsTo schema table at kinds → KindsTo schema table (at + 1) kinds
kinds_same schema table at kinds b some inside v t told =
    let found = there_is (columns_of schema table) at inside in
    let shown : is_open found.0 ≡ false = tested_visible schema table at found.0 b some found.1 v ∙ t in
    let next : at + 1 - 1 ≡ at = omega arith in
    let here : shown_kinds (drop (at - 1) (data_columns schema table)) ≡ shown_kinds (drop at (data_columns schema table)) =
    ap shown_kinds (columns_on schema table at some found.0 found.1) ∙ shown_next found.0 (drop at (data_columns schema table)) false shown in
    ap (λ (m : ℕ). map base.kind_of kinds ++ shown_kinds (drop m (data_columns schema table))) next
    ∙ (ap (λ (ks : List Kind). map base.kind_of kinds ++ ks) (sym here) ∙ told)

pub all_kinds : (schema : Schema) (table at : ℕ) (kinds : List code.Kind) → length (columns_of schema table) ≤ at → 1 ≤ at → KindsTo schema table at kinds
    → map base.kind_of kinds ≡ shown_kinds (data_columns schema table)
all_kinds schema table at kinds h some told =
    let end : drop (at - 1) (data_columns schema table) ≡ [] = drop_all (at - 1) (data_columns schema table) (omega (arith, h, length-drop 1 (columns_of schema table))) in
    sym (ap (λ (cs : List Column). map base.kind_of kinds ++ shown_kinds cs) end ∙ append-nil (map base.kind_of kinds)) ∙ told

pub narrow_more : (kinds new : List code.Kind) (kind : code.Kind) → new ≡ kinds ++ kind ∷ [] → list_all is_narrow (map base.kind_of kinds) ≡ true → cell_width (plain_of (base.kind_of kind)) ≤ 64
    → list_all is_narrow (map base.kind_of new) ≡ true
narrow_more kinds new kind n h f =
    ap (λ (ks : List code.Kind). list_all is_narrow (map base.kind_of ks)) n
    ∙ (ap (list_all is_narrow) (map-append base.kind_of kinds (kind ∷ []))
    ∙ (list_all-append is_narrow (map base.kind_of kinds) (base.kind_of kind ∷ [])
    ∙ both_true (list_all is_narrow (map base.kind_of kinds)) (is_narrow (base.kind_of kind) && true) h (both_true (is_narrow (base.kind_of kind)) true (le-leb (cell_width (plain_of (base.kind_of kind))) 64 f) refl)))
