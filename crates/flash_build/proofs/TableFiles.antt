-- The files of tables one after another: what stands, and what is left to fill.
use Rattle.std.proofs.Common.{◌≡◌, ap, sym, ◌∙◌, ℕ, ◌+◌, ◌-◌, ◌^◌, ◌<◌, ◌≤◌, Bool, true, false, cond, List, length, map, sum_by, arith}
use Rattle.ghost_model.specs.core.Schema.{is_empty}
use Rattle.ghost_model.specs.core.Channel.{Catalog}
use Rattle.ghost_model.specs.core.Split.{Hidden}
use Rattle.ghost_model.specs.laws.SchemaTrees.{IsTree}
use Rattle.ghost_model.specs.forms.Runs.{Run, Stores, run_pages, pages_of}
use Rattle.ghost_model.specs.forms.Layout as layout
use Rattle.ghost_model.specs.forms.Layout.{below, tables_of, is_hidden, count_of, above_of, descendants_of, files_end, public_pages, column_file, subtree_table}
use Rattle.ghost_model.specs.laws.ShortWords.{column_count}
use Rattle.ghost_model.specs.laws.LayoutSums.{column_pages, columns_pages, column_pages_before, table_begin, table_pages, column_begin, subtree_begin, subtree_pages, indexes_begin, index_begin, index_pages, indexes_pages, id_index_begin, id_index_pages}
use Rattle.ghost_model.specs.forms.Flash.{HoldsFiles, HoldsIndex, hidden_cells, subtree_record, ids}
use Rattle.ghost_model.specs.laws.LayoutLaws.{LieAsSummed, LieInOrder}
use Rattle.ghost_model.specs.forms.Work.{file_pages}
use Rattle.ghost_model.specs.laws.WorkLaws.{PagesAddUp, index_written, indexes_written, table_written}
use Rattle.ghost_model.proofs.LayoutLemmas.Following.{some_width}
use Rattle.ghost_model.proofs.LayoutLemmas.Order.{sum_next, sums_rise}
use Rattle.ghost_model.proofs.FlashLemmas.Held.{column_kept, subtree_kept, index_kept, id_index_kept}
use Rattle.edge_traits.specs.Devices.{Device, ChangesOnly}
use Rattle.flash_pages.specs.Filling.{CanFill}
use Rattle.flash_build.specs.Building.{IsBlank, HoldsIdIndex, HoldsTable}
use Rattle.flash_build.proofs.Writes.{Written, agree_below, below_next, can_fill_rest}

-- blank pages for all files
pub can_fill_files : {cat : Catalog} {device : Device} → LieInOrder cat → IsBlank (public_pages cat) (files_end cat) device
    → layout.need cat ≤ device.page_count → device.page_count < 2 ^ 32 → CanFill device (public_pages cat) (files_end cat - public_pages cat)
can_fill_files {cat = cat} order blank enough small =
    let some = order.some in
    let within : files_end cat ≤ layout.need cat = omega (arith, order.static, order.spool, order.scratch, order.appended) in
    record {
      there = omega (arith, some, within, enough);
      blank = λ page from before. blank.blank page from (omega (arith, before, some)) (omega (arith, before, some, within, enough));
      small = small;
    }

-- the pages of a column file, and of a subtree key table
pub pages_of_file :
    (cat : Catalog) (table column : ℕ) → is_hidden cat.schema table column ≡ true
    → column_pages cat table column ≡ run_pages (column_file cat table column)
pages_of_file cat table column h = ap (λ b. cond b (run_pages (column_file cat table column)) 0) h

-- the pages of so many records of a column file's run
pub pages_of_run :
    (cat : Catalog) (table column : ℕ) {run : Run} {count : ℕ} → is_hidden cat.schema table column ≡ true
    → run ≡ column_file cat table column → count ≡ count_of cat table → pages_of count run.width ≡ column_pages cat table column
pages_of_run cat table column {run = run} h is same =
    ap (λ n. pages_of n run.width) same
    ∙ (ap (λ (r : Run). pages_of (count_of cat table) r.width) is ∙ sym (pages_of_file cat table column h))

pub no_pages : (cat : Catalog) (table column : ℕ) → is_hidden cat.schema table column ≡ false → column_pages cat table column ≡ 0
no_pages cat table column h = ap (λ b. cond b (run_pages (column_file cat table column)) 0) h

pub pages_of_subtree :
    (cat : Catalog) (table : ℕ) → is_empty (descendants_of cat.schema table) ≡ false → subtree_pages cat table ≡ run_pages (subtree_table cat table)
pages_of_subtree cat table h = ap (λ b. cond b 0 (run_pages (subtree_table cat table))) h

pub no_subtree : (cat : Catalog) (table : ℕ) → is_empty (descendants_of cat.schema table) ≡ true → subtree_pages cat table ≡ 0
no_subtree cat table h = ap (λ b. cond b 0 (run_pages (subtree_table cat table))) h

pub subtree_size : (cat : Catalog) (table : ℕ) → run_pages (subtree_table cat table) ≡ subtree_pages cat table
subtree_size cat table = some_width 4 (count_of cat table) (descendants_of cat.schema table)

-- some columns of a table were written
pub record ColumnsWritten (told : Bool) (cat : Catalog) (hidden : Hidden) (table : ℕ) (before now : Device) (done : ℕ) : Type 0 where
  pub stores :
      told ≡ true → (column : ℕ) → column < done → is_hidden cat.schema table column ≡ true
      → Stores now.page (column_file cat table column) (hidden_cells cat.schema hidden table column)
  pub wrote : Written (table_begin cat table) (column_begin cat table done) (column_pages_before cat table done) before now

-- a column's file ends before a later one begins, and before the subtree key table
pub column_ends : (cat : Catalog) (table column later : ℕ) → column < later → column_begin cat table column + column_pages cat table column ≤ column_begin cat table later
column_ends cat table column later less =
    let next = sum_next (column_pages cat table) column in
    let rise = sums_rise (column_pages cat table) (column + 1) later (omega (arith, less)) in
    omega (arith, next, rise)

pub columns_more :
    {told : Bool} (cat : Catalog) (hidden : Hidden) (table column : ℕ) {b c : Device} → IsTree cat.schema
    → (told ≡ true → (earlier : ℕ) → earlier < column → is_hidden cat.schema table earlier ≡ true
    → Stores b.page (column_file cat table earlier) (hidden_cells cat.schema hidden table earlier))
    → ChangesOnly (column_begin cat table column) (column_begin cat table column + column_pages cat table column) b c
    → (told ≡ true → is_hidden cat.schema table column ≡ true → Stores c.page (column_file cat table column) (hidden_cells cat.schema hidden table column))
    → told ≡ true → (earlier : ℕ) → earlier < column + 1 → is_hidden cat.schema table earlier ≡ true
    → Stores c.page (column_file cat table earlier) (hidden_cells cat.schema hidden table earlier)
columns_more cat hidden table column {b = b} {c = c} tree were changes last told =
    below_next (λ k. is_hidden cat.schema table k ≡ true → Stores c.page (column_file cat table k) (hidden_cells cat.schema hidden table k)) column
    (λ earlier less h.
    column_kept b.page c.page cat hidden tree table earlier h
    (agree_below changes (column_begin cat table earlier) (column_begin cat table earlier + column_pages cat table earlier) (column_ends cat table earlier column less))
    (were told earlier less h))
    (last told)

-- the files of a table stay where their pages stay
pub columns_stay :
    {b c : Device} (cat : Catalog) (hidden : Hidden) (table : ℕ) {low high : ℕ} → IsTree cat.schema → LieInOrder cat → ChangesOnly low high b c → subtree_begin cat table ≤ low
    → ((column : ℕ) → is_hidden cat.schema table column ≡ true → Stores b.page (column_file cat table column) (hidden_cells cat.schema hidden table column))
    → (column : ℕ) → is_hidden cat.schema table column ≡ true → Stores c.page (column_file cat table column) (hidden_cells cat.schema hidden table column)
columns_stay {b = b} {c = c} cat hidden table tree order changes apart were column h =
    let there = (order.there_are table column h).1 in
    let ends = column_ends cat table column (column_count cat.schema table) there in
    column_kept b.page c.page cat hidden tree table column h
    (agree_below changes (column_begin cat table column) (column_begin cat table column + column_pages cat table column) (omega (arith, ends, apart)))
    (were column h)

-- some indexes of a table were written
pub record IndexesWritten (told : Bool) (cat : Catalog) (hidden : Hidden) (table : ℕ) (before now : Device) (done : ℕ) : Type 0 where
  pub holds : told ≡ true → (column : ℕ) → column < done → is_hidden cat.schema table column ≡ true → HoldsIndex now.page cat hidden table column
  pub wrote : Written (indexes_begin cat table) (index_begin cat table done) (indexes_written cat hidden table done) before now

-- an index ends before a later one begins, and before the id index
pub index_ends : (cat : Catalog) (table column later : ℕ) → column < later → index_begin cat table column + index_pages cat table column ≤ index_begin cat table later
index_ends cat table column later less =
    let next = sum_next (index_pages cat table) column in
    let rise = sums_rise (index_pages cat table) (column + 1) later (omega (arith, less)) in
    omega (arith, next, rise)

pub written_next : (cat : Catalog) (hidden : Hidden) (table column : ℕ)
    → indexes_written cat hidden table (column + 1) ≡ indexes_written cat hidden table column + index_written cat hidden table column
written_next cat hidden table column = sum_next (index_written cat hidden table) column

pub written_rise : (cat : Catalog) (hidden : Hidden) (table column later : ℕ) → column < later
    → indexes_written cat hidden table column + index_written cat hidden table column ≤ indexes_written cat hidden table later
written_rise cat hidden table column later less =
    let next = sum_next (index_written cat hidden table) column in
    let rise = sums_rise (index_written cat hidden table) (column + 1) later (omega (arith, less)) in
    omega (arith, next, rise)

pub indexes_more :
    {told : Bool} (cat : Catalog) (hidden : Hidden) (table column : ℕ) {b c : Device} → IsTree cat.schema
    → (told ≡ true → (earlier : ℕ) → earlier < column → is_hidden cat.schema table earlier ≡ true → HoldsIndex b.page cat hidden table earlier)
    → ChangesOnly (index_begin cat table column) (index_begin cat table column + index_pages cat table column) b c
    → (told ≡ true → is_hidden cat.schema table column ≡ true → HoldsIndex c.page cat hidden table column)
    → told ≡ true → (earlier : ℕ) → earlier < column + 1 → is_hidden cat.schema table earlier ≡ true → HoldsIndex c.page cat hidden table earlier
indexes_more cat hidden table column {b = b} {c = c} tree were changes last told =
    below_next (λ k. is_hidden cat.schema table k ≡ true → HoldsIndex c.page cat hidden table k) column
    (λ earlier less h.
    index_kept b.page c.page cat hidden tree table earlier h
    (agree_below changes (index_begin cat table earlier) (index_begin cat table earlier + index_pages cat table earlier) (index_ends cat table earlier column less))
    (were told earlier less h))
    (last told)

pub indexes_stay :
    {b c : Device} (cat : Catalog) (hidden : Hidden) (table : ℕ) {low high : ℕ} → IsTree cat.schema → LieInOrder cat → ChangesOnly low high b c → id_index_begin cat table ≤ low
    → ((column : ℕ) → is_hidden cat.schema table column ≡ true → HoldsIndex b.page cat hidden table column)
    → (column : ℕ) → is_hidden cat.schema table column ≡ true → HoldsIndex c.page cat hidden table column
indexes_stay {b = b} {c = c} cat hidden table tree order changes apart were column h =
    let there = (order.there_are table column h).1 in
    let ends = index_ends cat table column (column_count cat.schema table) there in
    index_kept b.page c.page cat hidden tree table column h
    (agree_below changes (index_begin cat table column) (index_begin cat table column + index_pages cat table column) (omega (arith, ends, apart)))
    (were column h)

pub can_fill_index :
    {a b : Device} (cat : Catalog) (table column : ℕ) → column < column_count cat.schema table → CanFill a (indexes_begin cat table) (indexes_pages cat table)
    → ChangesOnly (indexes_begin cat table) (index_begin cat table column) a b → CanFill b (index_begin cat table column) (index_pages cat table column)
can_fill_index cat table column less can changes =
    let ends = index_ends cat table column (column_count cat.schema table) less in
    can_fill_rest can changes (omega arith) (omega arith) (omega (arith, ends))

-- all kinds of files of a table, one after another
pub table_holds :
    {b c d e : Device} (cat : Catalog) (hidden : Hidden) (table : ℕ) → IsTree cat.schema → LieInOrder cat → table < length cat.schema
    → ((column : ℕ) → is_hidden cat.schema table column ≡ true → Stores b.page (column_file cat table column) (hidden_cells cat.schema hidden table column))
    → ChangesOnly (subtree_begin cat table) (indexes_begin cat table) b c
    → (is_empty (descendants_of cat.schema table) ≡ false → Stores c.page (subtree_table cat table) (map (subtree_record cat.schema hidden table) (ids (count_of cat table))))
    → ChangesOnly (indexes_begin cat table) (id_index_begin cat table) c d
    → ((column : ℕ) → is_hidden cat.schema table column ≡ true → HoldsIndex d.page cat hidden table column)
    → ChangesOnly (id_index_begin cat table) (id_index_begin cat table + id_index_pages cat table) d e
    → (is_empty (above_of cat.schema table) ≡ false → HoldsIdIndex e.page cat hidden table)
    → HoldsTable e.page cat hidden table
table_holds {b = b} {c = c} {d = d} {e = e} cat hidden table tree order there columns bc subtree cd indexes de id = record {
  columns =
      columns_stay {b = d} {c = e} cat hidden table tree order de (omega arith)
      (columns_stay {b = c} {c = d} cat hidden table tree order cd (omega arith)
      (columns_stay {b = b} {c = c} cat hidden table tree order bc (omega arith) columns));
  subtree = λ h.
      subtree_kept d.page e.page cat hidden tree table there h
      (agree_below de (subtree_begin cat table) (subtree_begin cat table + subtree_pages cat table) (omega arith))
      (subtree_kept c.page d.page cat hidden tree table there h
      (agree_below cd (subtree_begin cat table) (subtree_begin cat table + subtree_pages cat table) (omega arith))
      (subtree h));
  indexes = indexes_stay {b = d} {c = e} cat hidden table tree order de (omega arith) indexes;
  id_index = id;
}

pub table_stays :
    {b c : Device} (cat : Catalog) (hidden : Hidden) (table : ℕ) {low high : ℕ} → IsTree cat.schema → LieInOrder cat → table < length cat.schema → ChangesOnly low high b c
    → table_begin cat table + table_pages cat table ≤ low → HoldsTable b.page cat hidden table → HoldsTable c.page cat hidden table
table_stays {b = b} {c = c} cat hidden table tree order there changes apart holds = record {
  columns = columns_stay cat hidden table tree order changes (omega (arith, apart)) holds.columns;
  subtree = λ h.
      subtree_kept b.page c.page cat hidden tree table there h
      (agree_below changes (subtree_begin cat table) (subtree_begin cat table + subtree_pages cat table) (omega (arith, apart)))
      (holds.subtree h);
  indexes = indexes_stay cat hidden table tree order changes (omega (arith, apart)) holds.indexes;
  id_index = λ h.
      id_index_kept b.page c.page cat hidden tree table there h
      (agree_below changes (id_index_begin cat table) (id_index_begin cat table + id_index_pages cat table) (omega (arith, apart)))
      (holds.id_index h);
}

-- some tables were written
pub record TablesWritten (told : Bool) (cat : Catalog) (hidden : Hidden) (before now : Device) (done : ℕ) : Type 0 where
  pub stores : told ≡ true → (table : ℕ) → table < done → HoldsTable now.page cat hidden table
  pub wrote : Written (public_pages cat) (table_begin cat done) (sum_by (table_written cat hidden) (below done)) before now

pub tables_more :
    {told : Bool} (cat : Catalog) (hidden : Hidden) (table : ℕ) {b c : Device} → IsTree cat.schema → LieInOrder cat → table < length cat.schema
    → (told ≡ true → (earlier : ℕ) → earlier < table → HoldsTable b.page cat hidden earlier)
    → ChangesOnly (table_begin cat table) (table_begin cat table + table_pages cat table) b c
    → (told ≡ true → HoldsTable c.page cat hidden table)
    → told ≡ true → (earlier : ℕ) → earlier < table + 1 → HoldsTable c.page cat hidden earlier
tables_more cat hidden table {b = b} {c = c} tree order there were changes last told =
    below_next (λ k. HoldsTable c.page cat hidden k) table
    (λ earlier less.
    let next = order.next_table earlier in
    let rise = order.tables (earlier + 1) table (omega (arith, less)) in
    table_stays cat hidden earlier tree order (omega (arith, less, there)) changes (omega (arith, next, rise)) (were told earlier less))
    (last told)

-- all of them
pub all_tables : {page : ℕ → List ℕ} {cat : Catalog} {hidden : Hidden} → LieInOrder cat → ((table : ℕ) → table < length cat.schema → HoldsTable page cat hidden table)
    → HoldsFiles page cat hidden
all_tables order all = record {
  columns = λ table column h. (all table (order.there_are table column h).0).columns column h;
  subtrees = λ table low h. (all table low).subtree h;
  indexes = λ table column h. (all table (order.there_are table column h).0).indexes column h;
  id_indexes = λ table low h. (all table low).id_index h;
}

pub sizes_are : PagesAddUp → (cat : Catalog) (hidden : Hidden) → sum_by (table_written cat hidden) (tables_of cat.schema) ≡ file_pages cat hidden
sizes_are add_up cat hidden = sym (add_up cat hidden)

pub sizes_rise : (cat : Catalog) (hidden : Hidden) (table : ℕ) → table < length cat.schema
    → sum_by (table_written cat hidden) (below table) + table_written cat hidden table ≤ sum_by (table_written cat hidden) (tables_of cat.schema)
sizes_rise cat hidden table low =
    let next = sum_next (table_written cat hidden) table in
    let rise = sums_rise (table_written cat hidden) (table + 1) (length cat.schema) (omega (arith, low)) in
    omega (arith, next, rise)

-- blank pages for the next column's file, for the subtree key table, and for the next table
pub can_fill_column :
    {a b : Device} (cat : Catalog) (table column : ℕ) → column < column_count cat.schema table → CanFill a (table_begin cat table) (columns_pages cat table)
    → ChangesOnly (table_begin cat table) (column_begin cat table column) a b → CanFill b (column_begin cat table column) (column_pages cat table column)
can_fill_column cat table column less can changes =
    let ends = column_ends cat table column (column_count cat.schema table) less in
    can_fill_rest can changes (omega arith) (omega arith) (omega (arith, ends))

pub can_fill_table :
    {a b : Device} (cat : Catalog) (table : ℕ) → LieAsSummed cat → LieInOrder cat → table < length cat.schema
    → CanFill a (public_pages cat) (files_end cat - public_pages cat) → ChangesOnly (public_pages cat) (table_begin cat table) a b
    → CanFill b (table_begin cat table) (table_pages cat table)
can_fill_table cat table laid order less can changes =
    let end = laid.files_end in
    let next = order.next_table table in
    let rise = order.tables (table + 1) (length cat.schema) (omega (arith, less)) in
    can_fill_rest can changes (omega arith) (omega arith) (omega (arith, next, rise, end, order.some))

abbrev pub table_sizes : Catalog → Hidden → (done : ℕ) → ℕ
table_sizes cat hidden done = sum_by (table_written cat hidden) (below done)

pub size_next : (cat : Catalog) (hidden : Hidden) (table : ℕ)
    → sum_by (table_written cat hidden) (below (table + 1)) ≡ sum_by (table_written cat hidden) (below table) + table_written cat hidden table
size_next cat hidden table = sum_next (table_written cat hidden) table
