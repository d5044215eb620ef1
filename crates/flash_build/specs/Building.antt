-- What is written when the hidden part of a database is put on the flash: the files of each table, in a part of the pages,
-- each page by one call.
use Rattle.std.specs.Prelude.{◌≡◌, ℕ, ◌+◌, ◌<◌, ◌≤◌, true, false, List, [], length, map, replicate, Result, OnOk}
use Rattle.ghost_model.specs.core.Schema.{is_empty}
use Rattle.ghost_model.specs.core.Channel.{Catalog}
use Rattle.ghost_model.specs.core.Split.{Hidden}
use Rattle.ghost_model.specs.forms.Runs.{Stores, pages_of}
use Rattle.ghost_model.specs.forms.Layout.{is_hidden, count_of, levels_of, above_of, descendants_of, files_pages, column_file, subtree_table}
use Rattle.ghost_model.specs.laws.ShortWords.{index_directory, index_level, id_directory, id_level}
use Rattle.ghost_model.specs.laws.LayoutSums.{directory_width}
use Rattle.ghost_model.specs.forms.Work.{levels_written, pages_built}
use Rattle.ghost_model.specs.forms.Flash.{HoldsLists, HoldsIndex, hidden_cells, subtree_record, ids, value_lists, id_lists}
use Rattle.edge_traits.specs.Devices.{Device, Counts, ChangesOnly}
use Rattle.flash_build.specs.declared.faults.BuildFault.{BuildFault}
use Rattle.flash_build.specs.Faults.{BuildCause, EndsAtFault, IsLargeEnough}

-- the pages from `low` on and below `high` are blank, as far as the device has them
pub record IsBlank (low high : ℕ) (device : Device) : Type 0 where
  pub blank : (page : ℕ) → low ≤ page → page < high → page < device.page_count → device.blank page ≡ true

-- what a call does that writes so many pages, all of them from `low` on and below `high`, each once: it may lack memory or
-- fail with the flash, and makes no call after a failed one
pub record Wrote {T : Type 0} (low high pages : ℕ) (before now : Device) (result : Result T BuildFault) : Type 0 where
  pub others : ChangesOnly low high before now
  pub exact : OnOk result (Counts pages before.calls now.calls)
  pub at_most : now.calls ≤ before.calls + pages
  pub deep_reads : now.deep_reads ≡ before.deep_reads
  pub cause : BuildCause before.faults now.faults result
  pub last : EndsAtFault now.since_fault result
  pub large_enough : IsLargeEnough result

-- the index of a hidden column has these values as its entries, and their lists
abbrev pub HoldsEntries : (ℕ → List ℕ) → Catalog → Hidden → (table column : ℕ) → (values : List (List ℕ)) → Type 0
HoldsEntries page cat hidden table column values =
    HoldsLists page (record (index_directory cat table column) { count = length values }) (index_level cat table column) values
    (levels_of cat.schema table) (value_lists cat hidden table column values)

-- the pages that hold a byte of these entries and of their lists
abbrev pub entries_written : Catalog → Hidden → (table column : ℕ) → (values : List (List ℕ)) → ℕ
entries_written cat hidden table column values =
    pages_of (length values) (directory_width cat.schema table column)
    + files_pages (levels_written (value_lists cat hidden table column values) (levels_of cat.schema table))

-- the id index of a table has an entry for each row
abbrev pub HoldsIdIndex : (ℕ → List ℕ) → Catalog → Hidden → (table : ℕ) → Type 0
HoldsIdIndex page cat hidden table =
    HoldsLists page (id_directory cat table) (id_level cat table) (replicate (count_of cat table) []) (above_of cat.schema table)
    (id_lists cat hidden table)

-- the files of a table hold its part of the hidden part
pub record HoldsTable (page : ℕ → List ℕ) (cat : Catalog) (hidden : Hidden) (table : ℕ) : Type 0 where
  pub columns :
      (column : ℕ) → is_hidden cat.schema table column ≡ true
      → Stores page (column_file cat table column) (hidden_cells cat.schema hidden table column)
  pub subtree :
      is_empty (descendants_of cat.schema table) ≡ false
      → Stores page (subtree_table cat table) (map (subtree_record cat.schema hidden table) (ids (count_of cat table)))
  pub indexes : (column : ℕ) → is_hidden cat.schema table column ≡ true → HoldsIndex page cat hidden table column
  pub id_index : is_empty (above_of cat.schema table) ≡ false → HoldsIdIndex page cat hidden table

-- the calls of a loading: one that makes the device, and one for each page that holds a byte of the catalog, of the gate and its
-- header, or of a file
abbrev pub load_calls : Catalog → Hidden → ℕ
load_calls cat hidden = pages_built cat hidden
