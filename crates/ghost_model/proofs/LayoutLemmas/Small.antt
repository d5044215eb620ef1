-- Within the limits of schemas and rows the widths of records fit a page, and page numbers 32 bits.
use Rattle.std.proofs.Common.{◌≡◌, refl, ℕ, zero, suc, ◌*◌, ◌<◌, ◌≤◌, max, Bool, true, false, cond, ◌||◌, ◌==◌, is_some, List, [], ◌∷◌, length, drop, filter, filter_map, fold, sum_by, slice_index, slice_index_or, nat_le, Option, Some, None, arith, leb-true}
use Rattle.std.specs.List.{list_all, cons_option}
use Rattle.std.proofs.lemmas.Bool.{and_parts}
use Rattle.std.proofs.lemmas.List.FromFn.{length-range_with_len}
use Rattle.std.proofs.lemmas.List.Sums.{sum_by-le, length-filter, count_by-le-length}
use Rattle.ghost_model.specs.core.Schema.{Column, Kind, Integer, Chars, IntegerOrNull, CharsOrNull, column_at, is_empty, is_visible, ancestor, parent}
use Rattle.ghost_model.specs.core.Channel.{Catalog}
use Rattle.ghost_model.specs.laws.SchemaTrees.{IsTree}
use Rattle.ghost_model.specs.refusals.LoadFaults.{most_rows}
use Rattle.ghost_model.specs.forms.Cells.{cell_width}
use Rattle.ghost_model.specs.forms.Runs.{pages_of}
use Rattle.ghost_model.specs.laws.ShortWords as short
use Rattle.ghost_model.specs.forms.Layout
use Rattle.ghost_model.specs.laws.LayoutSums
use Rattle.ghost_model.specs.laws.LayoutLaws.{IsLimited, AreNarrow, AreFew}
use Rattle.ghost_model.proofs.LayoutLemmas.Columns.{hidden_or_none, width_or_none}
use Rattle.ghost_model.proofs.LayoutLemmas.Numbers.{pages_few}
use Rattle.ghost_model.proofs.LayoutLemmas.Following.{no_bytes}
use Rattle.ghost_model.proofs.LayoutLemmas.Places.{end_is}

-- lengths
length_kept_by : (o : Option ℕ) (xs : List ℕ) → length (cons_option o xs) ≤ suc (length xs)
length_kept_by None xs = omega arith
length_kept_by (Some x) xs = omega arith

pub length_kept : (h : ℕ → Option ℕ) (xs : List ℕ) → length (filter_map h xs) ≤ length xs
length_kept h [] = omega arith
length_kept h (x ∷ xs) = let rest = length_kept h xs in let one = length_kept_by (h x) (filter_map h xs) in omega (arith, rest, one)

length_rest : (xs : List ℕ) → length (drop 1 xs) ≤ length xs
length_rest [] = omega arith
length_rest (x ∷ xs) = omega arith

length_filtered : (test : ℕ → Bool) (n : ℕ) → length (filter test (Layout.below n)) ≤ n
length_filtered test n =
    let same = length-filter test (Layout.below n) in
    let few = count_by-le-length test (Layout.below n) in
    let size = length-range_with_len 0 n in
    omega (arith, same, few, size)

-- widths
one_more : (most : ℕ) → (1 ≤ most) × (most ≤ 64) → (0 < suc most) × (suc most ≤ 65)
one_more most fits = let wide = fits.1 in (omega arith, omega (arith, wide))

kind_fits : (kind : Kind) → ((most : ℕ) → kind ≡ Chars most → (1 ≤ most) × (most ≤ 64))
    → ((most : ℕ) → kind ≡ CharsOrNull most → (1 ≤ most) × (most ≤ 64)) → (0 < cell_width kind) × (cell_width kind ≤ 65)
kind_fits Integer h g = (omega arith, omega arith)
kind_fits (Chars most) h g = let fits = h most refl in let least = fits.0 in let wide = fits.1 in (omega (arith, least), omega (arith, wide))
kind_fits IntegerOrNull h g = (omega arith, omega arith)
kind_fits (CharsOrNull most) h g = one_more most (g most refl)

width_most : (o : Option Column) → ((held : Column) → o ≡ Some held → cell_width held.kind ≤ 65) → width_or_none o ≤ 65
width_most None h = omega arith
width_most (Some held) h = h held refl

width_least : (o : Option Column) → ((held : Column) → o ≡ Some held → 0 < cell_width held.kind) → hidden_or_none o ≡ true → 0 < width_or_none o
width_least None h e = absurd (cc (e))
width_least (Some held) h e = h held refl

module _ (cat : Catalog) (tree : IsTree cat.schema) where
  fits : (table column : ℕ) (held : Column) → column_at cat.schema table column ≡ Some held → (0 < cell_width held.kind) × (cell_width held.kind ≤ 65)
  fits table column held there =
      kind_fits held.kind (λ most e. tree.text_lengths table column most held there e) (λ most e. tree.nullable_text_lengths table column most held there e)

  most : (table column : ℕ) → Layout.width_at cat.schema table column ≤ 65
  most table column = width_most (column_at cat.schema table column) (λ held there. (fits table column held there).1)

  least : (table column : ℕ) → Layout.is_hidden cat.schema table column ≡ true → 0 < Layout.width_at cat.schema table column
  least table column h = width_least (column_at cat.schema table column) (λ held there. (fits table column held there).0) h

  few_levels : (table : ℕ) → length (Layout.levels_of cat.schema table) ≤ 12
  few_levels table =
      let kept = length_kept (λ steps. ancestor cat.schema steps table) (Layout.below (length cat.schema)) in
      let size = length-range_with_len 0 (length cat.schema) in
      omega (arith, kept, size, tree.few_tables)

  few_above : (table : ℕ) → length (Layout.above_of cat.schema table) ≤ 12
  few_above table = let rest = length_rest (Layout.levels_of cat.schema table) in let few = few_levels table in omega (arith, rest, few)

  few_descendants : (table : ℕ) → length (Layout.descendants_of cat.schema table) ≤ 12
  few_descendants table = let few = length_filtered (Layout.is_below cat.schema table) (length cat.schema) in omega (arith, few, tree.few_tables)

  narrow_spool : (table : ℕ) → Layout.spool_width cat.schema table ≤ 1564
  narrow_spool table =
      let few = length_filtered (is_visible cat.schema table) (short.column_count cat.schema table) in
      let columns = tree.few_columns table in
      let cells = sum_by-le (Layout.width_at cat.schema table) 65 (Layout.visible_columns cat.schema table)
      (λ k d low. most table (slice_index_or (Layout.visible_columns cat.schema table) k d)) in
      omega (arith, few, columns, cells)

  narrow_appended : (table : ℕ) → Layout.appended_width cat.schema table ≤ 1608
  narrow_appended table =
      let few = length_filtered (Layout.is_hidden cat.schema table) (short.column_count cat.schema table) in
      let columns = tree.few_columns table in
      let cells = sum_by-le (Layout.width_at cat.schema table) 65 (Layout.hidden_columns cat.schema table)
      (λ k d low. most table (slice_index_or (Layout.hidden_columns cat.schema table) k d)) in
      let below = few_descendants table in
      omega (arith, few, columns, cells, below)

  pub are_narrow : AreNarrow cat
  are_narrow = record {
    columns = tree.few_columns;
    levels = few_levels;
    above = few_above;
    descendants = few_descendants;
    most = most;
    least = least;
    subtree = λ table. let few = few_descendants table in omega (arith, few);
    directory = λ table column. let few = few_levels table in let wide = most table column in omega (arith, few, wide);
    id_directory = λ table. let few = few_above table in omega (arith, few);
    spool = narrow_spool;
    appended = narrow_appended;
  }

-- numbers of rows
few_at : (counts : List ℕ) → list_all (λ count. nat_le count most_rows) counts ≡ true → (table : ℕ) → slice_index counts table ≤ 1000000
few_at [] e table = omega arith
few_at (count ∷ counts) e zero = leb-true count most_rows (and_parts (nat_le count most_rows) (list_all (λ count. nat_le count most_rows) counts) e).0
few_at (count ∷ counts) e (suc table) = few_at counts (and_parts (nat_le count most_rows) (list_all (λ count. nat_le count most_rows) counts) e).1 table

few_at_most : (counts : List ℕ) (so_far : ℕ) → so_far ≤ 1000000 → list_all (λ count. nat_le count most_rows) counts ≡ true → fold max so_far counts ≤ 1000000
few_at_most [] so_far low e = low
few_at_most (count ∷ counts) so_far low e =
    let both = and_parts (nat_le count most_rows) (list_all (λ count. nat_le count most_rows) counts) e in
    let one : count ≤ 1000000 = leb-true count most_rows both.0 in
    few_at_most counts (max so_far count) (omega (arith, low, one)) both.1

when : (b : Bool) (n m : ℕ) → (b ≡ true → n ≤ m) → cond b n 0 ≤ m
when true n m h = h refl
when false n m h = omega arith

unless : (b : Bool) (n m : ℕ) → (b ≡ false → n ≤ m) → cond b 0 n ≤ m
unless true n m h = omega arith
unless false n m h = h refl

pub some_in : (xs : List ℕ) → is_empty xs ≡ false → 0 < length xs
some_in [] e = absurd (cc (e))
some_in (x ∷ xs) e = omega arith

sum_few : (f : ℕ → ℕ) (m : ℕ) → ((k : ℕ) → f k ≤ m) → (xs : List ℕ) → sum_by f xs ≤ length xs * m
sum_few f m few xs = sum_by-le f m xs (λ k d low. few (slice_index_or xs k d))

module _ (cat : Catalog) (limited : IsLimited cat) where
  narrow : AreNarrow cat
  narrow = are_narrow cat limited.tree

  rows : (table : ℕ) → Layout.count_of cat table ≤ 1000000
  rows table = few_at cat.counts limited.few_rows table

  append_few : (none : Bool) → cond none 0 Layout.appended_room ≤ 4096
  append_few true = omega arith
  append_few false = omega arith

  more : (table : ℕ) → Layout.room_to_append cat table ≤ 4096
  more table = append_few (cat.version == 1 || is_some (parent cat.schema table))

  room : (table : ℕ) → Layout.row_room cat table ≤ 1004096
  room table = let count = rows table in let append = more table in omega (arith, count, append)

  pages : (table width : ℕ) → 0 < width → width ≤ 2048 → pages_of (Layout.count_of cat table) width ≤ 1000000
  pages table width some fit = let few = pages_few (Layout.count_of cat table) width some fit in let count = rows table in omega (arith, few, count)

  column_few : (table column : ℕ) → LayoutSums.column_pages cat table column ≤ 1000000
  column_few table column =
      when (Layout.is_hidden cat.schema table column) _ 1000000
      (λ h. let wide = narrow.most table column in pages table (Layout.width_at cat.schema table column) (narrow.least table column h) (omega (arith, wide)))

  columns_before : (table column : ℕ) → column ≤ 24 → LayoutSums.column_pages_before cat table column ≤ 24000000
  columns_before table upto low =
      let all = sum_few (LayoutSums.column_pages cat table) 1000000 (column_few table) (Layout.below upto) in
      let size = length-range_with_len 0 upto in
      omega (arith, all, size, low)

  subtree : (table : ℕ) → LayoutSums.subtree_pages cat table ≤ 1000000
  subtree table =
      unless (is_empty (Layout.descendants_of cat.schema table)) _ 1000000
      (λ e. let some = some_in (Layout.descendants_of cat.schema table) e in let few = narrow.descendants table in
      pages table (LayoutSums.subtree_width cat.schema table) (omega (arith, some)) (omega (arith, few)))

  level : (table : ℕ) → LayoutSums.level_pages cat table ≤ 1954
  level table = let count = rows table in omega (arith, count)

  levels : (tables : List ℕ) → length tables ≤ 12 → LayoutSums.levels_pages cat tables ≤ 23448
  levels tables few = let all = sum_few (LayoutSums.level_pages cat) 1954 level tables in omega (arith, all, few)

  index_few : (table column : ℕ) → LayoutSums.index_pages cat table column ≤ 1023449
  index_few table column =
      when (Layout.is_hidden cat.schema table column) _ 1023449
      (λ h.
      let wide = narrow.directory table column in
      let some = narrow.least table column h in
      let directory = pages table (LayoutSums.directory_width cat.schema table column) (omega (arith, some)) (omega (arith, wide)) in
      let files = levels (Layout.levels_of cat.schema table) (narrow.levels table) in
      omega (arith, directory, files))

  indexes_before : (table column : ℕ) → column ≤ 24 → LayoutSums.index_pages_before cat table column ≤ 24562776
  indexes_before table upto low =
      let all = sum_few (LayoutSums.index_pages cat table) 1023449 (index_few table) (Layout.below upto) in
      let size = length-range_with_len 0 upto in
      omega (arith, all, size, low)

  id_index : (table : ℕ) → LayoutSums.id_index_pages cat table ≤ 1023448
  id_index table =
      unless (is_empty (Layout.above_of cat.schema table)) _ 1023448
      (λ e.
      let some = some_in (Layout.above_of cat.schema table) e in
      let wide = narrow.id_directory table in
      let directory = pages table (LayoutSums.id_directory_width cat.schema table) (omega (arith, some)) (omega (arith, wide)) in
      let files = levels (Layout.above_of cat.schema table) (narrow.above table) in
      omega (arith, directory, files))

  table_few : (table : ℕ) → LayoutSums.table_pages cat table ≤ 50586224
  table_few table =
      let first = columns_before table (short.column_count cat.schema table) (narrow.columns table) in
      let second = subtree table in
      let third = indexes_before table (short.column_count cat.schema table) (narrow.columns table) in
      let fourth = id_index table in
      omega (arith, first, second, third, fourth)

  public_few : (first : Bool) → cond first Layout.catalog_pages 256 ≤ 256
  public_few true = omega arith
  public_few false = omega arith

  table_begin : (table : ℕ) → table ≤ 12 → LayoutSums.table_begin cat table ≤ 607034944
  table_begin table low =
      let all = sum_few (LayoutSums.table_pages cat) 50586224 table_few (Layout.below table) in
      let size = length-range_with_len 0 table in
      let public = public_few (cat.version == 1) in
      omega (arith, all, size, low, public)

  files : Layout.files_end cat ≤ 607034944
  files = let end = end_is cat in let few = table_begin (length cat.schema) limited.tree.few_tables in omega (arith, end, few)

  spool : (table : ℕ) → Layout.spool_pages cat table ≤ 1004160
  spool table =
      unless (is_empty (Layout.visible_columns cat.schema table)) _ 1004160
      (λ e.
      let wide = narrow.spool table in
      let few = pages_few (Layout.row_room cat table) (Layout.spool_width cat.schema table) (omega arith) (omega (arith, wide)) in
      let most = room table in
      omega (arith, few, most))

  half : Layout.half_pages cat ≤ 12049920
  half =
      let all = sum_few (Layout.spool_pages cat) 1004160 spool (Layout.below (length cat.schema)) in
      let size = length-range_with_len 0 (length cat.schema) in
      omega (arith, all, size, limited.tree.few_tables)

  largest : Layout.largest_count cat ≤ 1000000
  largest = few_at_most cat.counts 0 (omega arith) limited.few_rows

  largest_room : Layout.largest_room cat ≤ 1004096
  largest_room = let root = room (Layout.root_of cat.schema) in omega (arith, largest, root)

  scratch : Layout.scratch_pages cat ≤ 1984
  scratch = omega (arith, largest_room)

  -- records of no byte take no page
  any_pages : (count width : ℕ) → width ≤ 2048 → pages_of count width ≤ count
  any_pages count zero fit = let none = no_bytes count in omega (arith, none)
  any_pages count (suc width) fit = pages_few count (suc width) (omega arith) fit

  appended : Layout.appended_pages cat ≤ 4096
  appended =
      let root = Layout.root_of cat.schema in
      let append = more root in
      let wide = narrow.appended root in
      let few = any_pages (Layout.room_to_append cat root) (Layout.appended_width cat.schema root) (omega (arith, wide)) in
      omega (arith, append, few)

  areas : (six : Bool) → cond six 6 8 * Layout.scratch_pages cat ≤ 15872
  areas true = omega (arith, scratch)
  areas false = omega (arith, scratch)

  static : Layout.static_end cat ≤ 607035007
  static = omega (arith, files)

  pub are_few : AreFew cat
  are_few = record {
    rows = rows;
    room = room;
    largest = largest;
    largest_room = largest_room;
    column = column_few;
    columns_before = columns_before;
    columns = λ table. columns_before table (short.column_count cat.schema table) (narrow.columns table);
    subtree = subtree;
    level = level;
    levels = levels;
    index = index_few;
    indexes_before = indexes_before;
    indexes = λ table. indexes_before table (short.column_count cat.schema table) (narrow.columns table);
    id_index = id_index;
    table = table_few;
    table_begin = table_begin;
    files = files;
    static = static;
    spool = spool;
    half = half;
    scratch = scratch;
    appended = appended;
    need = (let all = areas (cat.version == 1) in omega (arith, static, half, all, appended));
  }
