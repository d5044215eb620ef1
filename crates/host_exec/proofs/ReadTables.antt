-- The public part is read from the visible file, piece by piece and table by table.
use Rattle.std.proofs.Common.{◌≡◌, ℕ, zero, suc, ◌+◌, ◌-◌, ◌*◌, ◌<◌, ◌≤◌, Bool, true, false, List, [], ◌∷◌, ◌++◌, length, map, take, drop, flat_map, slice_index, Option, Some, MatchBool, ap, ap₂, sym, refl, subst, ◌∙◌, arith, append_assoc, append-nil, length-append}
use Rattle.std.specs.Prelude.{slice_get, bytes_eq, Result, Ok, Err}
use Rattle.std.specs.Cmp.Lexicographic.{same_text, other_text}
use Rattle.std.proofs.lemmas.List.{take_all, map-append}
use Rattle.std.proofs.Math.Seq.{take-append_seam}
use Rattle.ghost_model.specs.core.Causes.{Rose}
use Rattle.ghost_model.specs.core.Schema.{Schema, Table, Kind, columns_or_none}
use Rattle.ghost_model.specs.core.Values.{Rows}
use Rattle.ghost_model.specs.forms.Catalog.{catalog_bytes, IsCatalog, BeginsWithCatalog}
use Rattle.ghost_model.specs.core.Channel.{Catalog}
use Rattle.ghost_model.specs.core.Split.{Public, IsPublic, cells, visible_kinds, cells_of_tables, SpellsImage}
use Rattle.edge_traits.specs.Files.{Files, file_of}
use Rattle.csv_split.specs.Parts.{part_in}
use Rattle.csv_split.specs.Tables.{column_values}
use Rattle.host_exec.specs.RowBytes.{window, data_columns, row_width, table_start}
use Rattle.host_exec.specs.Checked.{SpellsRow, BadRow, BadTable, IsChecked, IsNoImageOf, shown_kinds}
use Rattle.host_exec.specs.Columns.{AddsRows, AreOfKinds}
use Rattle.host_exec.specs.Reading.{ReadCause, HasForm, ReadsRows, ReadsTable, ReadsTables, SomeBadTable}
use Rattle.host_exec.specs.declared.columns.Columns.{Columns}
use Rattle.host_exec.specs.declared.reading.ReadPublicFault.{ReadPublicFault}
use Rattle.host_exec.specs.declared.reading.ReadPublicFault.TheVariants.{Depot, BadVisibleFile, NoMemory}
use Rattle.host_exec.proofs.GrownColumns.{none_added, all_added}
use Rattle.host_exec.proofs.Windows.{window_join, window_length, window_nothing, window_within, row_of_piece}
use Rattle.host_exec.proofs.ImageTables.{AreKinds, HaveKinds, start_none, start_more, declared_at}
use Rattle.host_exec.proofs.ImageSpelling.{no_rows, is_checked, spells_image}

-- ---- the rows of a table

pub none_read : (contents : Option Files) (name : List ℕ) (kinds : List Kind) (start width : ℕ) (columns : Columns) → columns.rows ≡ 0
    → ReadsRows contents name kinds start (columns.rows * width) columns.rows columns columns
none_read contents name kinds start width columns none =
    let size : columns.rows * width ≡ 0 = ap (λ (n : ℕ). n * width) none ∙ (let e : 0 * width ≡ 0 = omega arith in e) in
    record {
      bytes = [];
      adds = subst (λ (n : ℕ). AddsRows kinds n [] columns columns) (sym none) (none_added kinds columns);
      there = λ file is. sym (ap (window file start) size ∙ window_nothing file start);
    }

pub piece_read : (contents : Option Files) (name : List ℕ) (kinds : List Kind) (at width count long : ℕ) (bytes : List ℕ) (before after : Columns) → AddsRows kinds count bytes before after
    → long ≡ count * width → ((file : List ℕ) → file_of contents name ≡ Some file → bytes ≡ window file at long)
    → ReadsRows contents name kinds at ((after.rows - before.rows) * width) (after.rows - before.rows) before after
piece_read contents name kinds at width count long bytes before after adds size filled =
    let number : count ≡ after.rows - before.rows = omega (arith, adds.number) in
    record {
      bytes = bytes;
      adds = subst (λ (n : ℕ). AddsRows kinds n bytes before after) number adds;
      there = λ file is. filled file is ∙ (ap (window file at) size ∙ ap (λ (n : ℕ). window file at (n * width)) number);
    }

pub more_read : (contents now : Option Files) (name : List ℕ) (kinds : List Kind) (start width : ℕ) (before mid after : Columns) → now ≡ contents → mid.rows < after.rows
    → ReadsRows contents name kinds start (mid.rows * width) mid.rows before mid
    → ReadsRows now name kinds (start + mid.rows * width) ((after.rows - mid.rows) * width) (after.rows - mid.rows) mid after
    → ReadsRows contents name kinds start (after.rows * width) after.rows before after
more_read contents now name kinds start width before mid after same more a b =
    let number : mid.rows + (after.rows - mid.rows) ≡ after.rows = omega (arith, more) in
    let size : mid.rows * width + (after.rows - mid.rows) * width ≡ after.rows * width =
    (let e : mid.rows * width + (after.rows - mid.rows) * width ≡ (mid.rows + (after.rows - mid.rows)) * width = omega arith in e) ∙ ap (λ (n : ℕ). n * width) number in
    record {
      bytes = a.bytes ++ b.bytes;
      adds = subst (λ (n : ℕ). AddsRows kinds n (a.bytes ++ b.bytes) before after) number (all_added kinds mid.rows (after.rows - mid.rows) a.bytes b.bytes before mid after a.adds b.adds);
      there = λ file is.
          (let there : file_of now name ≡ Some file = ap (λ (k : Option Files). file_of k name) same ∙ is in
          ap₂ (λ (xs ys : List ℕ). xs ++ ys) (a.there file is) (b.there file there)
          ∙ (window_join file start (mid.rows * width) ((after.rows - mid.rows) * width) ∙ ap (window file start) size));
    }

-- a row of the piece spells no values
pub bad_piece : (kinds : List Kind) (file : List ℕ) (start next width count rows long : ℕ) (piece : List ℕ) → count ≤ rows - next → long ≡ count * width
    → piece ≡ window file (start + next * width) long
    → ((row : ℕ) × (row < count) × (SpellsRow kinds (take width (drop (row * width) piece)) → ⊥)) → BadRow kinds file start width rows
bad_piece kinds file start next width count rows long piece few size is bad =
    let row : ℕ = next + bad.0 in
    let back : row - next ≡ bad.0 = omega arith in
    let whole : piece ≡ window file (start + next * width) (count * width) = is ∙ ap (window file (start + next * width)) size in
    let same = ap (λ (n : ℕ). take width (drop (n * width) piece)) (sym back)
    ∙ (ap (λ (bs : List ℕ). take width (drop ((row - next) * width) bs)) whole ∙ row_of_piece file start next width count row (omega arith) (omega (arith, bad.1))) in
    (row, omega (arith, bad.1, few), λ s. bad.2 (subst (SpellsRow kinds) (sym same) s))

no_part : (rows : ℕ) (columns : Columns) → rows ≡ 0 → part_in rows (column_values columns.cells.items) ≡ []
no_part rows columns none = ap (λ (n : ℕ). part_in n (column_values columns.cells.items)) none

pub table_read : (contents now : Option Files) (name : List ℕ) (cat : Catalog) (table : ℕ) (kinds : List Kind) (width start rows : ℕ) (before after : Columns) (part : Rows) → now ≡ contents
    → kinds ≡ shown_kinds (data_columns cat.schema table) → width ≡ row_width cat.schema table → start ≡ table_start cat table → rows ≡ slice_index cat.counts table
    → before.rows ≡ 0 → ReadsRows now name kinds start (rows * width) rows before after → part ≡ part_in rows (column_values after.cells.items) → ReadsTable contents name cat table part
table_read contents now name cat table kinds width start rows before after part same k w s r none read is =
    let all : after.rows ≡ rows = omega (arith, read.adds.number, none) in
    let added : part ≡ read.adds.added =
    is ∙ (ap (λ (n : ℕ). part_in n (column_values after.cells.items)) (sym all) ∙ (read.adds.joined ∙ ap (λ (xs : Rows). xs ++ read.adds.added) (no_part before.rows before none))) in
    record {
      counted = ap (λ (xs : Rows). length xs) added ∙ (read.adds.counted ∙ r);
      fits = subst (λ (ks : List Kind). AreOfKinds ks part) k (subst (AreOfKinds kinds) (sym added) read.adds.fits);
      there = λ file h.
          (let there : file_of now name ≡ Some file = ap (λ (o : Option Files). file_of o name) same ∙ h in
          ap₂ (λ (ks : List Kind) (xs : Rows). flat_map (cells ks) xs) (sym k) added
          ∙ (read.adds.spelled ∙ (read.there file there
          ∙ (ap (λ (n : ℕ). window file n (rows * width)) s ∙ ap₂ (λ (n m : ℕ). window file (table_start cat table) (n * m)) r w))));
    }

-- a row of the table spells no values
pub bad_table : (cat : Catalog) (file : List ℕ) (table : ℕ) (kinds : List Kind) (width start rows : ℕ)
    → kinds ≡ shown_kinds (data_columns cat.schema table) → width ≡ row_width cat.schema table → start ≡ table_start cat table → rows ≡ slice_index cat.counts table
    → BadRow kinds file start width rows → BadTable cat file table
bad_table cat file table kinds width start rows k w s r bad =
    let a : BadRow kinds file start width (slice_index cat.counts table) = subst (λ (n : ℕ). BadRow kinds file start width n) r bad in
    let b : BadRow kinds file start (row_width cat.schema table) (slice_index cat.counts table) = subst (λ (n : ℕ). BadRow kinds file start n (slice_index cat.counts table)) w a in
    let c : BadRow kinds file (table_start cat table) (row_width cat.schema table) (slice_index cat.counts table) =
    subst (λ (n : ℕ). BadRow kinds file n (row_width cat.schema table) (slice_index cat.counts table)) s b in
    subst (λ (ks : List Kind). BadRow ks file (table_start cat table) (row_width cat.schema table) (slice_index cat.counts table)) k c

-- ---- the tables

no_cells : (schema : Schema) → cells_of_tables schema [] ≡ []
no_cells [] = refl
no_cells (declared ∷ schema) = refl

pub no_tables : (contents : Option Files) (name : List ℕ) (cat : Catalog) (visible : List Rows) → visible ≡ [] → ReadsTables contents name cat 0 visible
no_tables contents name cat visible none = subst (ReadsTables contents name cat 0) (sym none) record {
  many = refl;
  counted = refl;
  kinds = λ table place declared row h g. absurd (no_rows table place row g);
  there = λ file is.
      (ap (window file 0) (start_none cat)
      ∙ (sym (append-nil (window file 0 (length (catalog_bytes cat)))) ∙ ap (λ (xs : List ℕ). window file 0 (length (catalog_bytes cat)) ++ xs) (sym (no_cells cat.schema))));
}

take_more : (xs : List ℕ) (at : ℕ) → at < length xs → take (suc at) xs ≡ take at xs ++ slice_index xs at ∷ []
take_more [] at within = absurd (omega (arith, within))
take_more (x ∷ xs) zero within = refl
take_more (x ∷ xs) (suc at) within = ap (λ (ys : List ℕ). x ∷ ys) (take_more xs at (omega (arith, within)))

kinds_more : (schema : Schema) (visible : List Rows) (rows : Rows) (declared : Table) → slice_get schema (length visible) ≡ Some declared → HaveKinds schema visible
    → AreKinds (visible_kinds declared) rows → HaveKinds schema (visible ++ rows ∷ [])
kinds_more [] visible rows declared here k fits table place other row h g = cc
kinds_more (first ∷ schema) [] rows declared here k fits zero place other row h g =
    let same : declared ≡ other = cc in
    ap (λ (d : Table). Rattle.ghost_model.specs.core.Split.are_of_kinds (visible_kinds d) row) (sym same) ∙ fits place row g
kinds_more (first ∷ schema) [] rows declared here k fits (suc table) place other row h g = absurd (no_rows table place row g)
kinds_more (first ∷ schema) (one ∷ visible) rows declared here k fits zero place other row h g = k 0 place other row h g
kinds_more (first ∷ schema) (one ∷ visible) rows declared here k fits (suc table) place other row h g =
    kinds_more schema visible rows declared here (λ t p d r a b. k (suc t) p d r a b) fits table place other row h g

cells_more : (schema : Schema) (visible : List Rows) (rows : Rows) (declared : Table) → slice_get schema (length visible) ≡ Some declared
    → cells_of_tables schema (visible ++ rows ∷ []) ≡ cells_of_tables schema visible ++ flat_map (cells (visible_kinds declared)) rows
cells_more [] visible rows declared here = cc
cells_more (first ∷ schema) [] rows declared here =
    let same : first ≡ declared = cc in
    ap (λ (xs : List ℕ). flat_map (cells (visible_kinds first)) rows ++ xs) (no_cells schema)
    ∙ (append-nil (flat_map (cells (visible_kinds first)) rows) ∙ ap (λ (d : Table). flat_map (cells (visible_kinds d)) rows) same)
cells_more (first ∷ schema) (one ∷ visible) rows declared here =
    ap (λ (xs : List ℕ). flat_map (cells (visible_kinds first)) one ++ xs) (cells_more schema visible rows declared here)
    ∙ sym (append_assoc (flat_map (cells (visible_kinds first)) one) (cells_of_tables schema visible) (flat_map (cells (visible_kinds declared)) rows))

pub one_read : (contents now : Option Files) (name : List ℕ) (cat : Catalog) (table : ℕ) (visible new : List Rows) (part : Rows) → now ≡ contents → length cat.counts ≡ length cat.schema → table < length cat.schema
    → ReadsTables contents name cat table visible → ReadsTable now name cat table part → new ≡ visible ++ part ∷ [] → ReadsTables contents name cat (table + 1) new
one_read contents now name cat table visible new part same pairs within so_far read is =
    let next : suc table ≡ table + 1 = omega arith in
    let there = declared_at cat.schema table within in
    let declared : Table = there.0 in
    let here : slice_get cat.schema (length visible) ≡ Some declared = ap (slice_get cat.schema) so_far.many ∙ there.1 in
    let kinds : shown_kinds (data_columns cat.schema table) ≡ visible_kinds declared = ap (λ (o : Option Table). shown_kinds (drop 1 (columns_or_none o))) there.1 in
    let counts : map length (visible ++ part ∷ []) ≡ take (suc table) cat.counts =
    map-append length visible (part ∷ [])
    ∙ (ap₂ (λ (xs : List ℕ) (n : ℕ). xs ++ n ∷ []) so_far.counted read.counted ∙ sym (take_more cat.counts table (omega (arith, within, pairs)))) in
    subst (ReadsTables contents name cat (table + 1)) (sym is) (subst (λ (n : ℕ). ReadsTables contents name cat n (visible ++ part ∷ [])) next record {
      many = omega (arith, length-append visible (part ∷ []), so_far.many);
      counted = counts;
      kinds = kinds_more cat.schema visible part declared here so_far.kinds (subst (λ (ks : List Kind). AreOfKinds ks part) kinds read.fits);
      there = λ file h.
          (let at : file_of now name ≡ Some file = ap (λ (o : Option Files). file_of o name) same ∙ h in
          let start : ℕ = table_start cat table in
          let size : ℕ = slice_index cat.counts table * row_width cat.schema table in
          let head : List ℕ = window file 0 (length (catalog_bytes cat)) in
          let more : window file start size ≡ flat_map (cells (visible_kinds declared)) part =
          sym (read.there file at) ∙ ap (λ (ks : List Kind). flat_map (cells ks) part) kinds in
          let zero_more : 0 + start ≡ start = omega arith in
          ap (window file 0) (start_more cat table)
          ∙ (sym (window_join file 0 start size)
          ∙ (ap (λ (n : ℕ). window file 0 start ++ window file n size) zero_more
          ∙ (ap₂ (λ (xs ys : List ℕ). xs ++ ys) (so_far.there file h) more
          ∙ (append_assoc head (cells_of_tables cat.schema visible) (flat_map (cells (visible_kinds declared)) part)
          ∙ ap (λ (xs : List ℕ). head ++ xs) (sym (cells_more cat.schema visible part declared here)))))));
    })

-- ---- the whole file

pub public_read : (contents : Option Files) (name : List ℕ) (cat : Catalog) (public : Public) → IsCatalog cat → ReadsTables contents name cat (length cat.schema) public.visible → IsPublic cat public
public_read contents name cat public proper read = record {
  counted = read.counted ∙ take_all (length cat.schema) cat.counts (omega (arith, proper.counted));
  kinds = read.kinds;
}

pub image_read : (contents now : Option Files) (name : List ℕ) (cat : Catalog) (public : Public) (file : List ℕ) → now ≡ contents → IsCatalog cat
    → ReadsTables now name cat (length cat.schema) public.visible → HasForm cat file → file_of contents name ≡ Some file → SpellsImage cat public file
image_read contents now name cat public file same proper read form is =
    let there : file_of now name ≡ Some file = ap (λ (o : Option Files). file_of o name) same ∙ is in
    let whole : window file 0 (length file) ≡ file = window_within file 0 (length file) (omega arith) ∙ take_all (length file) file (omega arith) in
    record {
      catalog = proper;
      goes_with = public_read now name cat public proper read;
      spelled = sym whole ∙ (ap (window file 0) form.checked.end ∙ (read.there file there ∙ ap (λ (xs : List ℕ). xs ++ cells_of_tables cat.schema public.visible) form.begins));
    }

-- whether the front of the file is the catalog
pub front_told : (cat : Catalog) (file head : List ℕ) (long : ℕ) (there : Bool) → head ≡ window file 0 long → long ≡ length (catalog_bytes cat)
    → there ≡ bytes_eq head (take (length head) (drop 0 (catalog_bytes cat)))
    → MatchBool there (window file 0 (length (catalog_bytes cat)) ≡ catalog_bytes cat) (window file 0 (length (catalog_bytes cat)) ≡ catalog_bytes cat → ⊥)
front_told cat file head long there is size told =
    let same : head ≡ window file 0 (length (catalog_bytes cat)) = is ∙ ap (window file 0) size in
    let enough : length head ≡ length (catalog_bytes cat) = ap (λ (xs : List ℕ). length xs) is ∙ (window_length file 0 long ∙ size) in
    let whole : take (length head) (drop 0 (catalog_bytes cat)) ≡ catalog_bytes cat = take_all (length head) (catalog_bytes cat) (omega (arith, enough)) in
    by there same whole told
  where
    by : (b : Bool) → head ≡ window file 0 (length (catalog_bytes cat)) → take (length head) (drop 0 (catalog_bytes cat)) ≡ catalog_bytes cat
        → b ≡ bytes_eq head (take (length head) (drop 0 (catalog_bytes cat)))
        → MatchBool b (window file 0 (length (catalog_bytes cat)) ≡ catalog_bytes cat) (window file 0 (length (catalog_bytes cat)) ≡ catalog_bytes cat → ⊥)
    by true same whole told = sym same ∙ (same_text head (take (length head) (drop 0 (catalog_bytes cat))) told ∙ whole)
    by false same whole told = λ begins. other_text head (take (length head) (drop 0 (catalog_bytes cat))) told (same ∙ (begins ∙ sym whole))

-- a visible image begins with its catalog
pub image_front : (cat : Catalog) (public : Public) (file : List ℕ) → SpellsImage cat public file → window file 0 (length (catalog_bytes cat)) ≡ catalog_bytes cat
image_front cat public file spells =
    let rest : List ℕ = cells_of_tables cat.schema public.visible in
    let long : length file ≡ length (catalog_bytes cat) + length rest = ap length spells.spelled ∙ length-append (catalog_bytes cat) rest in
    window_within file 0 (length (catalog_bytes cat)) (omega (arith, long)) ∙ (ap (take (length (catalog_bytes cat))) spells.spelled ∙ take-append_seam (catalog_bytes cat) rest)

pub other_front : (cat : Catalog) (file : List ℕ) → (window file 0 (length (catalog_bytes cat)) ≡ catalog_bytes cat → ⊥) → IsNoImageOf cat file
other_front cat file other public spells = other (image_front cat public file spells)

pub form_checked : (cat : Catalog) (file : List ℕ) (good : Bool) → window file 0 (length (catalog_bytes cat)) ≡ catalog_bytes cat
    → MatchBool good (IsChecked cat file) (IsChecked cat file → ⊥) → MatchBool good (HasForm cat file) (IsNoImageOf cat file)
form_checked cat file true begins h = record { begins = begins; checked = h }
form_checked cat file false begins h = λ public spells. h (is_checked cat public file spells)

-- a file of that form is an image
pub is_some_image : (cat : Catalog) (file : List ℕ) → IsCatalog cat → HasForm cat file → IsNoImageOf cat file → ⊥
is_some_image cat file proper form none =
    let begun : BeginsWithCatalog (window file 0 (length (catalog_bytes cat))) cat = record { proper = proper; rest = []; begins = form.begins ∙ sym (append-nil (catalog_bytes cat)) } in
    let some = spells_image cat file (length (catalog_bytes cat)) begun (omega arith) form.checked.end form.checked.good in
    none some.public some.spells

-- and none of its tables has a row that spells no values
pub no_bad_table : (cat : Catalog) (file : List ℕ) → HasForm cat file → SomeBadTable cat file → ⊥
no_bad_table cat file form bad = bad.2.2 (form.checked.good bad.0 bad.1 bad.2.0 (omega arith) bad.2.1)

-- ---- the count of faults

pub never_falls : {T : Type 0} (before now : ℕ) (result : Result T ReadPublicFault) → ReadCause before now result → before ≤ now
never_falls before now (Ok value) cause = omega (arith, cause.other)
never_falls before now (Err Depot) cause = cause.failed.0
never_falls before now (Err BadVisibleFile) cause = omega (arith, cause.failed)
never_falls before now (Err NoMemory) cause = omega (arith, cause.failed)

pub depot_rose : {T : Type 0} (before now : ℕ) (result : Result T ReadPublicFault) → ReadCause before now result → result ≡ Err Depot → Rose before now
depot_rose before now (Ok value) cause is = cc
depot_rose before now (Err Depot) cause is = cause.failed.1
depot_rose before now (Err BadVisibleFile) cause is = cc
depot_rose before now (Err NoMemory) cause is = cc

pub else_stays : {T : Type 0} (before now : ℕ) (result : Result T ReadPublicFault) → ReadCause before now result → (result ≡ Err Depot → ⊥) → now ≡ before
else_stays before now (Ok value) cause other = cause.other
else_stays before now (Err Depot) cause other = absurd (other refl)
else_stays before now (Err BadVisibleFile) cause other = cause.failed
else_stays before now (Err NoMemory) cause other = cause.failed
