-- The tables of the visible image, one after another, and what a host of the image holds.
use Rattle.std.proofs.Common.{◌≡◌, ℕ, zero, suc, ◌+◌, ◌*◌, ◌<◌, ◌≤◌, true, nat_lt, List, [], ◌∷◌, ◌++◌, length, map, drop, flat_map, slice_index, Option, Some, ap, sym, refl, ◌∙◌, arith, length-append, ltb-true}
use Rattle.std.specs.Prelude.{slice_get}
use Rattle.std.specs.Cmp.{first_so}
use Rattle.std.proofs.lemmas.List.{length-map}
use Rattle.std.proofs.Math.Seq.{drop-append-add}
use Rattle.ghost_model.specs.core.Schema.{Schema, Table, Column, Kind, columns_or_none}
use Rattle.ghost_model.specs.core.Values.{Row, Rows}
use Rattle.ghost_model.specs.forms.Catalog.{catalog_bytes}
use Rattle.ghost_model.specs.core.Channel.{Catalog, Ask}
use Rattle.ghost_model.specs.core.Asks.{is_proper_ask}
use Rattle.ghost_model.specs.laws.ShortWords.{rows_or_none}
use Rattle.ghost_model.specs.core.Host.{host_of}
use Rattle.ghost_model.specs.core.Split.{Public, public_rows, cells, are_of_kinds, visible_kinds, cells_of_tables, SpellsImage, reply_rows}
use Rattle.host_exec.specs.RowBytes.{width_before, data_columns, row_width, form_of, replies_at, table_start}
use Rattle.host_exec.specs.Holdings.{HoldsFile}
use Rattle.host_exec.proofs.ImageRows.{kinds_in, row_length}
use Rattle.host_exec.proofs.ImageReplies.{image_replies}

-- each row has one value of each visible column's kind
abbrev pub AreKinds : List Kind → Rows → Type 0
AreKinds kinds rows = (place : ℕ) (row : Row) → slice_get rows place ≡ Some row → are_of_kinds kinds row ≡ true

-- and so in each table
abbrev pub HaveKinds : Schema → List Rows → Type 0
HaveKinds schema visible =
    (table place : ℕ) (declared : Table) (row : Row) → slice_get schema table ≡ Some declared → slice_get (rows_or_none (slice_get visible table)) place ≡ Some row
    → are_of_kinds (visible_kinds declared) row ≡ true

pub rows_length : (columns : List Column) (rows : Rows) → AreKinds (kinds_in columns) rows
    → length (flat_map (cells (kinds_in columns)) rows) ≡ length rows * width_before columns (length columns)
rows_length columns [] k = let e : 0 ≡ 0 * width_before columns (length columns) = omega arith in e
rows_length columns (row ∷ rows) k =
    let one = row_length columns row (k 0 row refl) in
    let more = rows_length columns rows (λ place r h. k (suc place) r h) in
    let both = length-append (cells (kinds_in columns) row) (flat_map (cells (kinds_in columns)) rows) in
    let product : suc (length rows) * width_before columns (length columns) ≡ width_before columns (length columns) + length rows * width_before columns (length columns) = omega arith in
    omega (arith, one, more, both, product)

abbrev pub table_width : Table → ℕ
table_width table = width_before (drop 1 table.columns) (length (drop 1 table.columns))

-- the bytes of the tables before one
abbrev pub before : Schema → List ℕ → (table : ℕ) → ℕ
before schema counts zero = 0
before [] counts (suc table) = 0
before (_ ∷ _) [] (suc table) = 0
before (declared ∷ schema) (count ∷ counts) (suc table) = count * table_width declared + before schema counts table

pub record Behind (schema : Schema) (visible : List Rows) (table : ℕ) : Type 0 where
  pub rest : List ℕ
  pub is : drop (before schema (map length visible) table) (cells_of_tables schema visible)
      ≡ flat_map (cells (kinds_in (data_columns schema table))) (rows_or_none (slice_get visible table)) ++ rest

pub behind : (schema : Schema) (visible : List Rows) (table : ℕ) → table < length schema → length visible ≡ length schema → HaveKinds schema visible → Behind schema visible table
behind [] visible table inside same k = absurd (omega (arith, inside))
behind (declared ∷ schema) [] table inside same k = absurd (omega (arith, same))
behind (declared ∷ schema) (rows ∷ visible) zero inside same k = record { rest = cells_of_tables schema visible; is = refl }
behind (declared ∷ schema) (rows ∷ visible) (suc table) inside same k =
    let later = behind schema visible table (omega (arith, inside)) (omega (arith, same)) (λ t p d r h g. k (suc t) p d r h g) in
    let kinds : List Kind = kinds_in (drop 1 declared.columns) in
    let bytes : List ℕ = flat_map (cells kinds) rows in
    let long : length bytes ≡ length rows * width_before (drop 1 declared.columns) (length (drop 1 declared.columns)) =
    rows_length (drop 1 declared.columns) rows (λ place row h. k 0 place declared row refl h) in
    record {
      rest = later.rest;
      is = ap (λ (n : ℕ). drop (n + before schema (map length visible) table) (bytes ++ cells_of_tables schema visible)) (sym long)
          ∙ (drop-append-add bytes (cells_of_tables schema visible) (before schema (map length visible) table) ∙ later.is);
    }

one_more : (schema : Schema) (counts : List ℕ) (table : ℕ) → table < length schema → length counts ≡ length schema
    → before schema counts (suc table) ≡ before schema counts table + slice_index counts table * row_width schema table
one_more [] counts table inside same = absurd (omega (arith, inside))
one_more (declared ∷ schema) [] table inside same = absurd (omega (arith, same))
one_more (declared ∷ schema) (count ∷ counts) zero inside same = omega arith
one_more (declared ∷ schema) (count ∷ counts) (suc table) inside same =
    let e = one_more schema counts table (omega (arith, inside)) (omega (arith, same)) in omega (arith, e)

pub start_none : (cat : Catalog) → table_start cat 0 ≡ length (catalog_bytes cat)
unfolding table_start
start_none cat = refl

pub start_more : (cat : Catalog) (table : ℕ) → table_start cat (suc table) ≡ table_start cat table + slice_index cat.counts table * row_width cat.schema table
unfolding table_start
start_more cat table = refl

pub start_is : (cat : Catalog) (table : ℕ) → length cat.counts ≡ length cat.schema → table ≤ length cat.schema
    → table_start cat table ≡ length (catalog_bytes cat) + before cat.schema cat.counts table
start_is cat zero same inside = let e = start_none cat in omega (arith, e)
start_is cat (suc table) same inside =
    let rec = start_is cat table same (omega (arith, inside)) in
    let step = one_more cat.schema cat.counts table (omega (arith, inside)) same in
    omega (arith, rec, step, start_more cat table)

pub count_at : (visible : List Rows) (table : ℕ) → slice_index (map length visible) table ≡ length (rows_or_none (slice_get visible table))
count_at [] table = refl
count_at (rows ∷ visible) zero = refl
count_at (rows ∷ visible) (suc table) = count_at visible table

pub declared_at : (schema : Schema) (table : ℕ) → table < length schema → (declared : Table) × (slice_get schema table ≡ Some declared)
declared_at [] table h = absurd (omega (arith, h))
declared_at (declared ∷ schema) zero h = (declared, refl)
declared_at (declared ∷ schema) (suc table) h = declared_at schema table (omega (arith, h))

pub kinds_at : (schema : Schema) (visible : List Rows) (table : ℕ) (declared : Table) → slice_get schema table ≡ Some declared → HaveKinds schema visible
    → AreKinds (kinds_in (data_columns schema table)) (rows_or_none (slice_get visible table))
kinds_at schema visible table declared e k place row h =
    let same : kinds_in (data_columns schema table) ≡ visible_kinds declared = ap (λ (o : Option Table). kinds_in (drop 1 (columns_or_none o))) e in
    ap (λ (ks : List Kind). are_of_kinds ks row) same ∙ k table place declared row e h

pub image_is_held : (cat : Catalog) (public : Public) (file starts : List ℕ) → SpellsImage cat public file
    → ((table : ℕ) → table < length cat.schema → slice_index starts table ≡ table_start cat table) → HoldsFile (host_of cat public) cat starts file
image_is_held cat public file starts spells at = record {
  catalog_is = refl;
  replied = λ ask p. held ask p;
}
  where
    held : (ask : Ask) → is_proper_ask cat.schema ask ≡ true
        → reply_rows cat.schema public ask ≡ replies_at (form_of cat.schema ask) file (slice_index starts ask.table) 0 (slice_index cat.counts ask.table)
    held ask p =
        let table : ℕ = ask.table in
        let inside : table < length cat.schema = ltb-true table (length cat.schema) (first_so (nat_lt table (length cat.schema)) _ (first_so _ _ (first_so _ _ (first_so _ _ (first_so _ _ (first_so _ _ p)))))) in
        let counts : map length public.visible ≡ cat.counts = spells.goes_with.counted in
        let same : length public.visible ≡ length cat.schema = sym (length-map public.visible length) ∙ (ap length counts ∙ spells.catalog.counted) in
        let kinds : HaveKinds cat.schema public.visible = spells.goes_with.kinds in
        let there = declared_at cat.schema table inside in
        let fits = kinds_at cat.schema public.visible table there.0 there.1 kinds in
        let cut = behind cat.schema public.visible table inside same kinds in
        let start : slice_index starts table ≡ length (catalog_bytes cat) + before cat.schema (map length public.visible) table =
        at table inside ∙ (start_is cat table spells.catalog.counted (omega (arith, inside)) ∙ ap (λ (ns : List ℕ). length (catalog_bytes cat) + before cat.schema ns table) (sym counts)) in
        let first : slice_index starts table + 0 * row_width cat.schema table ≡ length (catalog_bytes cat) + before cat.schema (map length public.visible) table = omega (arith, start) in
        let bytes : drop (slice_index starts table + 0 * row_width cat.schema table) file
        ≡ flat_map (cells (kinds_in (data_columns cat.schema table))) (public_rows public table) ++ cut.rest =
        ap (λ (n : ℕ). drop n file) first
        ∙ (ap (drop (length (catalog_bytes cat) + before cat.schema (map length public.visible) table)) spells.spelled
        ∙ (drop-append-add (catalog_bytes cat) (cells_of_tables cat.schema public.visible) (before cat.schema (map length public.visible) table) ∙ cut.is)) in
        let count : length (public_rows public table) ≡ slice_index cat.counts table = sym (count_at public.visible table) ∙ ap (λ (ns : List ℕ). slice_index ns table) counts in
        let replies = image_replies cat.schema ask file cut.rest (slice_index starts table) 0 (public_rows public table) p bytes fits in
        sym replies ∙ ap (replies_at (form_of cat.schema ask) file (slice_index starts table) 0) count
