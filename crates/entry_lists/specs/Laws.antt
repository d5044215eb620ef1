-- Laws of lists of entries: where pages have an index but for slots that are out of range by themselves, its entries have the
-- lists of their values, or of their identifiers; and a slot that is damaged of them is one that the layout's slots call so.
use Rattle.std.specs.Prelude.{◌≡◌, ℕ, ◌+◌, ◌<◌, ◌≤◌, true, false, List, [], ◌++◌, length, map, get_or, slice_index}
use Rattle.ghost_model.specs.core.Schema.{is_empty}
use Rattle.ghost_model.specs.core.Values.{Database}
use Rattle.ghost_model.specs.core.Channel.{Catalog}
use Rattle.ghost_model.specs.core.Split.{hidden_of}
use Rattle.ghost_model.specs.forms.Layout.{is_hidden, count_of, levels_of, above_of}
use Rattle.ghost_model.specs.forms.Slots.{IsDamagedSlot}
use Rattle.climbing_index.specs.declared.directory.Directory.{Directory}
use Rattle.climbing_index.specs.declared.index.ClimbingIndex.{ClimbingIndex}
use Rattle.climbing_index.specs.declared.index.IdIndex.{IdIndex}
use Rattle.climbing_index.specs.declared.search.Group.{Group}
use Rattle.climbing_index.specs.Holding.{HoldsIndexWhole, HoldsIndexBut, HoldsIdIndexWhole, HoldsIdIndexBut, values_at, ids_at}
use Rattle.climbing_index.specs.Indexes.{IsIndexOf, IsIdIndexOf}
use Rattle.climbing_index.specs.Laws.{IsOf}
use Rattle.climbing_index.specs.Searches.{header_count, rows_of}
use Rattle.entry_lists.specs.declared.entries.EntryLists.{EntryLists}
use Rattle.entry_lists.specs.Entries.{EntriesHave, IsDamaged, entries_in}

-- the lists of the entries of two groups, in order
abbrev pub lists_in : (lists : List (List ℕ)) → Group → List (List ℕ)
lists_in lists group = map (λ entry. get_or lists entry []) (entries_in group)

abbrev pub lists_of : (lists : List (List ℕ)) → (first second : Group) → List (List ℕ)
lists_of lists first second = lists_in lists first ++ lists_in lists second

-- lists of entries of a directory, which are among its first so many, at one of some levels
pub record AreListsOf (directory : Directory) (levels entries : ℕ) (lists : EntryLists) : Type 0 where
  pub directory_is : lists.directory ≡ directory
  pub level : lists.level < levels
  pub first : lists.first.first + lists.first.count ≤ entries
  pub second : lists.second.first + lists.second.count ≤ entries

-- the second group begins behind the first, if both have an entry, and there is room for so many identifiers
pub record AreBegun (rows : ℕ) (lists : EntryLists) : Type 0 where
  pub apart : 0 < lists.first.count → 0 < lists.second.count → lists.first.first + lists.first.count ≤ lists.second.first
  pub room : rows ≤ lists.left

-- how many rows the table of a level has
abbrev pub rows_at : Catalog → (tables : List ℕ) → (level : ℕ) → ℕ
rows_at cat tables level = count_of cat (slice_index tables level)

-- the lists of entries of a climbing index, by right pages that hold it, are those of its values
abbrev pub EntriesHaveValueLists : Type 0
EntriesHaveValueLists =
    (page right : ℕ → List ℕ) (cat : Catalog) (database : Database) → IsOf cat database
    → (table column : ℕ) → is_hidden cat.schema table column ≡ true
    → (values : List (List ℕ)) → HoldsIndexWhole right cat (hidden_of cat.schema database) table column values
    → HoldsIndexBut page cat (hidden_of cat.schema database) table column values
    → (index : ClimbingIndex) → IsIndexOf cat table column index
    → (lists : EntryLists) → AreListsOf index.directory (length (levels_of cat.schema table)) (length values) lists
    → AreBegun (rows_at cat (levels_of cat.schema table) lists.level) lists
    → EntriesHave page right (rows_at cat (levels_of cat.schema table) lists.level) lists
    (lists_of (values_at cat (hidden_of cat.schema database) table column values lists.level) lists.first lists.second)

-- those of an id index are those of the table's identifiers
abbrev pub EntriesHaveIdLists : Type 0
EntriesHaveIdLists =
    (page right : ℕ → List ℕ) (cat : Catalog) (database : Database) → IsOf cat database → (table : ℕ) → table < length cat.schema
    → HoldsIdIndexWhole right cat (hidden_of cat.schema database) table
    → HoldsIdIndexBut page cat (hidden_of cat.schema database) table
    → (index : IdIndex) → IsIdIndexOf cat table index
    → (lists : EntryLists) → AreListsOf index.directory (length (above_of cat.schema table)) (count_of cat table) lists
    → AreBegun (rows_at cat (above_of cat.schema table) lists.level) lists
    → EntriesHave page right (rows_at cat (above_of cat.schema table) lists.level) lists
    (lists_of (ids_at cat (hidden_of cat.schema database) table lists.level) lists.first lists.second)

-- a slot that is damaged of such lists is one that the layout's slots call so; entries of a climbing index are as many as its
-- header tells
abbrev pub ValueListsDamageSlots : Type 0
ValueListsDamageSlots =
    (page : ℕ → List ℕ) (cat : Catalog) (table column : ℕ) → is_hidden cat.schema table column ≡ true
    → (index : ClimbingIndex) → IsIndexOf cat table column index
    → (lists : EntryLists) → AreListsOf index.directory (length (levels_of cat.schema table)) (rows_of index) lists
    → AreListsOf index.directory (length (levels_of cat.schema table)) (header_count page index) lists
    → (number slot found : ℕ) → IsDamaged page (rows_at cat (levels_of cat.schema table) lists.level) lists number slot found
    → IsDamagedSlot cat page number slot found

abbrev pub IdListsDamageSlots : Type 0
IdListsDamageSlots =
    (page : ℕ → List ℕ) (cat : Catalog) (table : ℕ) → table < length cat.schema → is_empty (above_of cat.schema table) ≡ false
    → (index : IdIndex) → IsIdIndexOf cat table index
    → (lists : EntryLists) → AreListsOf index.directory (length (above_of cat.schema table)) (count_of cat table) lists
    → (number slot found : ℕ) → IsDamaged page (rows_at cat (above_of cat.schema table) lists.level) lists number slot found
    → IsDamagedSlot cat page number slot found
