-- A file whose rows spell values behind a catalog is the visible image of a public part, and a visible image is such a file.
use Rattle.std.proofs.Common.{◌≡◌, ℕ, zero, suc, ◌+◌, ◌-◌, ◌*◌, ◌<◌, ◌≤◌, Bool, true, false, List, [], ◌∷◌, ◌++◌, length, map, take, drop, flat_map, slice_index, Some, MatchBool, ap, ap₂, sym, refl, subst, ◌∙◌, arith, length-append, append_assoc}
use Rattle.std.specs.Prelude.{slice_get, ◌==◌}
use Rattle.std.proofs.lemmas.List.{take-append-drop, drop-drop, drop_all, length-map}
use Rattle.std.proofs.Math.Seq.{take-add, take-append_seam, drop-append-add, drop-append_seam}
use Rattle.ghost_model.specs.core.Schema.{Schema, Table, Column, Kind}
use Rattle.ghost_model.specs.core.Values.{Row, Rows}
use Rattle.ghost_model.specs.forms.Catalog.{catalog_bytes, current_version, BeginsWithCatalog}
use Rattle.ghost_model.specs.laws.CatalogLaws.{CatalogsHaveOneSpelling, NoCatalogIsLong}
use Rattle.ghost_model.specs.core.Channel.{Catalog}
use Rattle.ghost_model.specs.laws.ShortWords.{rows_or_none}
use Rattle.ghost_model.specs.core.Split.{Public, public_rows, cells, are_of_kinds, visible_kinds, cells_of_tables, SpellsImage}
use Rattle.host_exec.specs.RowBytes.{window, width_before, data_columns, row_width, table_start}
use Rattle.host_exec.specs.Checked.{SpellsRow, GoodRows, GoodTable, BadTable, IsImage, IsChecked, IsNoImage}
use Rattle.host_exec.proofs.Windows.{window_front, window_within}
use Rattle.host_exec.proofs.Answered.{catalog_begins}
use Rattle.host_exec.proofs.ImageRows.{kinds_in, row_length}
use Rattle.host_exec.proofs.ImageReplies.{row_bytes_are}
use Rattle.host_exec.proofs.ImageTables.{AreKinds, HaveKinds, table_width, before, behind, rows_length, start_none, start_more, start_is, count_at, declared_at, kinds_at}

-- ---- from the bytes to the rows

record BuiltRows (kinds : List Kind) (count : ℕ) (bytes : List ℕ) : Type 0 where
  rows : Rows
  counted : length rows ≡ count
  fits : AreKinds kinds rows
  spelled : flat_map (cells kinds) rows ≡ bytes

more_kinds : (kinds : List Kind) (row : Row) (rows : Rows) → are_of_kinds kinds row ≡ true → AreKinds kinds rows → AreKinds kinds (row ∷ rows)
more_kinds kinds row rows f k zero other h = let same : row ≡ other = cc in ap (are_of_kinds kinds) (sym same) ∙ f
more_kinds kinds row rows f k (suc place) other h = k place other h

built_rows : (kinds : List Kind) (file : List ℕ) (at width count : ℕ) → GoodRows kinds file at width 0 count → at + count * width ≤ length file
    → BuiltRows kinds count (take (count * width) (drop at file))
built_rows kinds file at width zero good fits = record {
  rows = [];
  counted = refl;
  fits = λ place row h. (cc);
  spelled = ap (λ (n : ℕ). take n (drop at file)) (let e : 0 ≡ 0 * width = omega arith in e);
}
built_rows kinds file at width (suc count) good fits =
    let one : SpellsRow kinds (window file (at + 0 * width) width) = good 0 (omega arith) (omega arith) in
    let here : at + 0 * width ≡ at = omega arith in
    let size : suc count * width ≡ width + count * width = omega arith in
    let room : width ≤ length file - at = omega (arith, fits, size) in
    let later = built_rows kinds file (at + width) width count
    (λ row low high. subst (λ (n : ℕ). SpellsRow kinds (window file n width)) (let e : at + (row + 1) * width ≡ at + width + row * width = omega arith in e) (good (row + 1) (omega arith) (omega (arith, high))))
    (omega (arith, fits, size)) in
    let front : cells kinds one.row ≡ take width (drop at file) = one.spelled ∙ (ap (λ (n : ℕ). window file n width) here ∙ window_within file at width room) in
    let back : take (count * width) (drop (at + width) file) ≡ take (count * width) (drop width (drop at file)) =
    ap (take (count * width)) (sym (drop-drop width at file)) in
    record {
      rows = one.row ∷ later.rows;
      counted = ap suc later.counted;
      fits = more_kinds kinds one.row later.rows one.fits later.fits;
      spelled = ap₂ (λ (xs ys : List ℕ). xs ++ ys) front (later.spelled ∙ back)
          ∙ (sym (take-add width (count * width) (drop at file)) ∙ ap (λ (n : ℕ). take n (drop at file)) (sym size));
    }

record Built (schema : Schema) (counts : List ℕ) (bytes : List ℕ) : Type 0 where
  visible : List Rows
  counted : map length visible ≡ counts
  kinds : HaveKinds schema visible
  spelled : cells_of_tables schema visible ≡ bytes

pub no_rows : (table place : ℕ) (row : Row) → slice_get (rows_or_none (slice_get [] table)) place ≡ Some row → ⊥
no_rows zero place row h = cc
no_rows (suc table) place row h = cc

more_tables : (declared : Table) (schema : Schema) (rows : Rows) (visible : List Rows) → AreKinds (visible_kinds declared) rows → HaveKinds schema visible → HaveKinds (declared ∷ schema) (rows ∷ visible)
more_tables declared schema rows visible f k zero place other row h g =
    let same : declared ≡ other = cc in
    ap (λ (d : Table). are_of_kinds (visible_kinds d) row) (sym same) ∙ f place row g
more_tables declared schema rows visible f k (suc table) place other row h g = k table place other row h g

built : (schema : Schema) (counts file : List ℕ) (at : ℕ) → length counts ≡ length schema
    → ((table : ℕ) → table < length schema → GoodRows (kinds_in (data_columns schema table)) file (at + before schema counts table) (row_width schema table) 0 (slice_index counts table))
    → at + before schema counts (length schema) ≡ length file → Built schema counts (drop at file)
built [] [] file at same good end = record {
  visible = [];
  counted = refl;
  kinds = λ table place declared row h g. absurd (no_rows table place row g);
  spelled = sym (drop_all at file (omega (arith, end)));
}
built [] (count ∷ counts) file at same good end = absurd (omega (arith, same))
built (declared ∷ schema) [] file at same good end = absurd (omega (arith, same))
built (declared ∷ schema) (count ∷ counts) file at same good end =
    let width : ℕ = table_width declared in
    let here : at + 0 ≡ at = omega arith in
    let rows = built_rows (kinds_in (drop 1 declared.columns)) file at width count
    (subst (λ (n : ℕ). GoodRows (kinds_in (drop 1 declared.columns)) file n width 0 count) here (good 0 (omega arith))) (omega (arith, end)) in
    let later = built schema counts file (at + count * width) (omega (arith, same))
    (λ table inside. subst (λ (n : ℕ). GoodRows (kinds_in (data_columns schema table)) file n (row_width schema table) 0 (slice_index counts table))
    (let e : at + (count * width + before schema counts table) ≡ at + count * width + before schema counts table = omega arith in e) (good (suc table) (omega (arith, inside))))
    (omega (arith, end)) in
    record {
      visible = rows.rows ∷ later.visible;
      counted = ap₂ (λ (n : ℕ) (ns : List ℕ). n ∷ ns) rows.counted later.counted;
      kinds = more_tables declared schema rows.rows later.visible rows.fits later.kinds;
      spelled = ap₂ (λ (xs ys : List ℕ). xs ++ ys) rows.spelled (later.spelled ∙ sym (drop-drop (count * width) at file)) ∙ take-append-drop (count * width) (drop at file);
    }

start_grows : (cat : Catalog) (table : ℕ) → length (catalog_bytes cat) ≤ table_start cat table
start_grows cat zero = let e = start_none cat in omega (arith, e)
start_grows cat (suc table) = let e = start_more cat table in let r = start_grows cat table in omega (arith, e, r)

-- the file begins with the catalog that its front begins with
file_begins : (file : List ℕ) (cat : Catalog) (most : ℕ) → BeginsWithCatalog (window file 0 most) cat → length (catalog_bytes cat) ≤ most → length (catalog_bytes cat) ≤ length file
    → file ≡ catalog_bytes cat ++ drop (length (catalog_bytes cat)) file
file_begins file cat most b short inside =
    let size : ℕ = length (catalog_bytes cat) in
    let more : most ≡ size + (most - size) = omega (arith, short) in
    let whole : window file 0 size ≡ catalog_bytes cat =
    sym (window_front file 0 size (most - size)) ∙ (ap (λ (n : ℕ). take size (window file 0 n)) (sym more) ∙ (ap (take size) b.begins ∙ take-append_seam (catalog_bytes cat) b.rest)) in
    let front : take size file ≡ catalog_bytes cat = sym (window_within file 0 size (omega (arith, inside))) ∙ whole in
    sym (take-append-drop size file) ∙ ap (λ (xs : List ℕ). xs ++ drop size file) front

-- the image of some public part
pub record Spelled (cat : Catalog) (file : List ℕ) : Type 0 where
  pub public : Public
  pub spells : SpellsImage cat public file

pub spells_image : (cat : Catalog) (file : List ℕ) (most : ℕ) → BeginsWithCatalog (window file 0 most) cat → length (catalog_bytes cat) ≤ most
    → length file ≡ table_start cat (length cat.schema) → ((table : ℕ) → table < length cat.schema → GoodTable cat file table) → Spelled cat file
spells_image cat file most b short end good =
    let counted : length cat.counts ≡ length cat.schema = b.proper.counted in
    let size : ℕ = length (catalog_bytes cat) in
    let grown = start_grows cat (length cat.schema) in
    let last = start_is cat (length cat.schema) counted (omega arith) in
    let tables = built cat.schema cat.counts file size counted
    (λ table inside. subst (λ (n : ℕ). GoodRows (kinds_in (data_columns cat.schema table)) file n (row_width cat.schema table) 0 (slice_index cat.counts table))
    (start_is cat table counted (omega (arith, inside))) (good table inside))
    (omega (arith, last, end)) in
    record {
      public = record { visible = tables.visible };
      spells = record {
        catalog = b.proper;
        goes_with = record { counted = tables.counted; kinds = tables.kinds };
        spelled = file_begins file cat most b short (omega (arith, end, grown)) ∙ ap (λ (xs : List ℕ). catalog_bytes cat ++ xs) (sym tables.spelled);
      };
    }

pub is_image : (cat : Catalog) (file : List ℕ) (most : ℕ) → cat.version ≡ current_version → BeginsWithCatalog (window file 0 most) cat → length (catalog_bytes cat) ≤ most
    → length file ≡ table_start cat (length cat.schema) → ((table : ℕ) → table < length cat.schema → GoodTable cat file table) → IsImage cat file
is_image cat file most current b short end good =
    let some = spells_image cat file most b short end good in
    record { current = current; public = some.public; spells = some.spells }

-- ---- from the image to the bytes

good_rows : (columns : List Column) (rows : Rows) (file rest : List ℕ) (at : ℕ) → drop at file ≡ flat_map (cells (kinds_in columns)) rows ++ rest → AreKinds (kinds_in columns) rows
    → (row : ℕ) → row < length rows → SpellsRow (kinds_in columns) (window file (at + row * width_before columns (length columns)) (width_before columns (length columns)))
good_rows columns [] file rest at e k row h = absurd (omega (arith, h))
good_rows columns (first ∷ rows) file rest at e k row h =
    let kinds : List Kind = kinds_in columns in
    let width : ℕ = width_before columns (length columns) in
    let bytes : List ℕ = cells kinds first in
    let fits : are_of_kinds kinds first ≡ true = k 0 first refl in
    let long : length bytes ≡ width = row_length columns first fits in
    let here : drop at file ≡ bytes ++ (flat_map (cells kinds) rows ++ rest) = e ∙ joined bytes (flat_map (cells kinds) rows) rest in
    let further : drop (at + width) file ≡ flat_map (cells kinds) rows ++ rest =
    sym (drop-drop width at file) ∙ (ap (drop width) here ∙ (ap (λ (n : ℕ). drop n (bytes ++ (flat_map (cells kinds) rows ++ rest))) (sym long) ∙ drop-append_seam bytes (flat_map (cells kinds) rows ++ rest))) in
    at_row row h here long fits (λ r g. good_rows columns rows file rest (at + width) further (λ p q i. k (suc p) q i) r g)
  where
    joined : (a b c : List ℕ) → (a ++ b) ++ c ≡ a ++ (b ++ c)
    joined a b c = simp append_assoc

    at_row : (row : ℕ) → row < suc (length rows) → drop at file ≡ cells (kinds_in columns) first ++ (flat_map (cells (kinds_in columns)) rows ++ rest)
        → length (cells (kinds_in columns) first) ≡ width_before columns (length columns) → are_of_kinds (kinds_in columns) first ≡ true
        → ((r : ℕ) → r < length rows → SpellsRow (kinds_in columns) (window file (at + width_before columns (length columns) + r * width_before columns (length columns)) (width_before columns (length columns))))
        → SpellsRow (kinds_in columns) (window file (at + row * width_before columns (length columns)) (width_before columns (length columns)))
    at_row zero h here long fits later =
        let place : at ≡ at + 0 * width_before columns (length columns) = omega arith in
        subst (λ (n : ℕ). SpellsRow (kinds_in columns) (window file n (width_before columns (length columns)))) place
        record { row = first; fits = fits; spelled = sym (row_bytes_are file at (width_before columns (length columns)) _ _ here long) }
    at_row (suc row) h here long fits later =
        let place : at + width_before columns (length columns) + row * width_before columns (length columns) ≡ at + suc row * width_before columns (length columns) = omega arith in
        subst (λ (n : ℕ). SpellsRow (kinds_in columns) (window file n (width_before columns (length columns)))) place (later row (omega (arith, h)))

tables_length : (schema : Schema) (visible : List Rows) → length visible ≡ length schema → HaveKinds schema visible
    → length (cells_of_tables schema visible) ≡ before schema (map length visible) (length schema)
tables_length [] visible same k = refl
tables_length (declared ∷ schema) [] same k = absurd (omega (arith, same))
tables_length (declared ∷ schema) (rows ∷ visible) same k =
    let one = rows_length (drop 1 declared.columns) rows (λ place row h. k 0 place declared row refl h) in
    let later = tables_length schema visible (omega (arith, same)) (λ t p d r h g. k (suc t) p d r h g) in
    omega (arith, one, later, length-append (flat_map (cells (visible_kinds declared)) rows) (cells_of_tables schema visible))

-- a visible image ends where its tables end, and its rows spell values
pub is_checked : (cat : Catalog) (public : Public) (file : List ℕ) → SpellsImage cat public file → IsChecked cat file
is_checked cat public file spells =
    let counts : map length public.visible ≡ cat.counts = spells.goes_with.counted in
    let counted : length cat.counts ≡ length cat.schema = spells.catalog.counted in
    let same : length public.visible ≡ length cat.schema = sym (length-map public.visible length) ∙ (ap length counts ∙ counted) in
    let kinds : HaveKinds cat.schema public.visible = spells.goes_with.kinds in
    let size : length file ≡ length (catalog_bytes cat) + length (cells_of_tables cat.schema public.visible) =
    ap length spells.spelled ∙ length-append (catalog_bytes cat) (cells_of_tables cat.schema public.visible) in
    let tables = tables_length cat.schema public.visible same kinds ∙ ap (λ (ns : List ℕ). before cat.schema ns (length cat.schema)) counts in
    record {
      end = omega (arith, size, tables, start_is cat (length cat.schema) counted (omega arith));
      good = λ table inside row low high.
          (let there = declared_at cat.schema table inside in
          let fits = kinds_at cat.schema public.visible table there.0 there.1 kinds in
          let cut = behind cat.schema public.visible table inside same kinds in
          let start : table_start cat table ≡ length (catalog_bytes cat) + before cat.schema (map length public.visible) table =
          start_is cat table counted (omega (arith, inside)) ∙ ap (λ (ns : List ℕ). length (catalog_bytes cat) + before cat.schema ns table) (sym counts) in
          let bytes : drop (table_start cat table) file ≡ flat_map (cells (kinds_in (data_columns cat.schema table))) (public_rows public table) ++ cut.rest =
          ap (λ (n : ℕ). drop n file) start
          ∙ (ap (drop (length (catalog_bytes cat) + before cat.schema (map length public.visible) table)) spells.spelled
          ∙ (drop-append-add (catalog_bytes cat) (cells_of_tables cat.schema public.visible) (before cat.schema (map length public.visible) table) ∙ cut.is)) in
          let count : length (public_rows public table) ≡ slice_index cat.counts table = sym (count_at public.visible table) ∙ ap (λ (ns : List ℕ). slice_index ns table) counts in
          good_rows (data_columns cat.schema table) (public_rows public table) file cut.rest (table_start cat table) bytes fits row (omega (arith, count, high)));
    }

-- the front of a visible image begins with its catalog
pub image_begins : (cat : Catalog) (public : Public) (file : List ℕ) (most : ℕ) → SpellsImage cat public file → length (catalog_bytes cat) ≤ most → BeginsWithCatalog (window file 0 most) cat
image_begins cat public file most spells short =
    let size : ℕ = length (catalog_bytes cat) in
    let rest : List ℕ = cells_of_tables cat.schema public.visible in
    let long : length file ≡ size + length rest = ap length spells.spelled ∙ length-append (catalog_bytes cat) rest in
    let more : size + (most - size) ≡ most = omega (arith, short) in
    let front : take size (window file 0 most) ≡ catalog_bytes cat =
    ap (λ (n : ℕ). take size (window file 0 n)) (sym more)
    ∙ (window_front file 0 size (most - size) ∙ (window_within file 0 size (omega (arith, long)) ∙ (ap (take size) spells.spelled ∙ take-append_seam (catalog_bytes cat) rest))) in
    record {
      proper = spells.catalog;
      rest = drop size (window file 0 most);
      begins = sym (take-append-drop size (window file 0 most)) ∙ ap (λ (xs : List ℕ). xs ++ drop size (window file 0 most)) front;
    }

pub some_bytes : (cat : Catalog) (table end : ℕ) → end ≡ table_start cat table → 0 < end
some_bytes cat table end e =
    let begun = catalog_begins cat in
    let grown = start_grows cat table in
    omega (arith, e, begun, grown)

-- no catalog is longer than the front of the file that is read
pub front_is_enough : (file : List ℕ) (none : (cat : Catalog) → BeginsWithCatalog (window file 0 16640) cat → ⊥) → NoCatalogIsLong → IsNoImage file
front_is_enough file none law cat public current spells = none cat (image_begins cat public file 16640 spells (law cat spells.catalog))

-- the image would have this catalog
pub other_image : (file : List ℕ) (cat : Catalog) → BeginsWithCatalog (window file 0 16640) cat → NoCatalogIsLong → CatalogsHaveOneSpelling → (IsChecked cat file → ⊥) → IsNoImage file
other_image file cat b law one bad other public current spells =
    let same : other ≡ cat = (one.one_beginning (window file 0 16640) other cat (image_begins other public file 16640 spells (law other spells.catalog)) b).0 in
    bad (is_checked cat public file (subst (λ (k : Catalog). SpellsImage k public file) same spells))

-- the image would have this catalog, which is of another version
pub other_version : (file : List ℕ) (cat : Catalog) → BeginsWithCatalog (window file 0 16640) cat → NoCatalogIsLong → CatalogsHaveOneSpelling → (cat.version == current_version) ≡ false → IsNoImage file
other_version file cat b law one not_current other public current spells =
    let same : other ≡ cat = (one.one_beginning (window file 0 16640) other cat (image_begins other public file 16640 spells (law other spells.catalog)) b).0 in
    let version : cat.version ≡ current_version = ap (λ (k : Catalog). k.version) (sym same) ∙ current in
    not_both (cat.version == current_version) (ap (λ (n : ℕ). n == current_version) version) not_current
  where
    not_both : (b : Bool) → b ≡ true → b ≡ false → ⊥
    not_both b is not = cc

-- what the end of the file and the tests of its tables say
pub file_checked : (cat : Catalog) (file : List ℕ) (good : Bool) → length file ≡ table_start cat (length cat.schema)
    → MatchBool good ((table : ℕ) → table < length cat.schema → GoodTable cat file table) ((table : ℕ) × (table < length cat.schema) × BadTable cat file table)
    → MatchBool good (IsChecked cat file) (IsChecked cat file → ⊥)
file_checked cat file true end h = record { end = end; good = h }
file_checked cat file false end h = λ checked. h.2.2 (checked.good h.0 h.1 h.2.0 (omega arith) h.2.1)
