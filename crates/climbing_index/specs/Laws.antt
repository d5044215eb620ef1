-- Laws of indexes: what pages that hold an index have in its slots, that searches find by the column's values, that lists
-- are those of values and identifiers, and that a slot that is blamed is a damaged one.
use Rattle.std.specs.Prelude.{◌≡◌, ◌⊎◌, ℕ, ◌+◌, ◌^◌, ◌<◌, ◌≤◌, true, false, List, [], length, get_or, slice_get, slice_index, Some, option_map}
use Rattle.ghost_model.specs.core.Schema.{is_empty}
use Rattle.ghost_model.specs.core.Values.{Database}
use Rattle.ghost_model.specs.core.Database.{IsDatabase, row_counts}
use Rattle.ghost_model.specs.core.Channel.{Catalog}
use Rattle.ghost_model.specs.core.Split.{Hidden, hidden_of}
use Rattle.ghost_model.specs.laws.LayoutLaws.{IsLimited}
use Rattle.ghost_model.specs.forms.Layout.{is_hidden, count_of, levels_of, above_of, File, IndexLevel, IdLevel, run_of_file}
use Rattle.ghost_model.specs.forms.Runs.{page_of, slot_of, found_in}
use Rattle.ghost_model.specs.forms.Gaps.{bytes_at, listed, listed_from, reading_of}
use Rattle.ghost_model.specs.forms.Flash.{HoldsIndex, HoldsIdIndexes}
use Rattle.ghost_model.specs.laws.FlashLaws.{GoesWith}
use Rattle.ghost_model.specs.forms.Slots.{IsDamagedIn, IsDamagedSlot, IsWrong, has_file, in_slot, is_row}
use Rattle.ghost_base.specs.Runs.{run_of}
use Rattle.ghost_base.specs.declared.runs.ListRef.{ListRef}
use Rattle.flash_pages.specs.declared.fault.PageFault.TheVariants.{Damaged}
use Rattle.climbing_index.specs.declared.directory.Directory.{Directory}
use Rattle.climbing_index.specs.declared.index.ClimbingIndex.{ClimbingIndex}
use Rattle.climbing_index.specs.declared.index.IdIndex.{IdIndex}
use Rattle.climbing_index.specs.Directories.{FailsAt, GivesListed, entry_stands, file_of}
use Rattle.climbing_index.specs.Holding.{HoldsIndexWhole, HoldsIndexBut, HoldsIdIndexWhole, HoldsIdIndexBut, values_at, ids_at}
use Rattle.climbing_index.specs.Indexes.{IsIndexOf, IsIdIndexOf}
use Rattle.climbing_index.specs.Searches.{AllAscend, HasIndex, FailsIn, most_entries, header_count, rows_of}
use Rattle.ghost_model.specs.forms.Catalog.{IsCatalog}

-- a database of a catalog, whose numbers of rows are the catalog's
pub record IsOf (cat : Catalog) (database : Database) : Type 0 where
  pub proper : IsCatalog cat
  pub is : IsDatabase cat.schema database
  pub counts : row_counts database ≡ cat.counts

-- where pages hold an index of a database, each of its slots has the right record, which is in its range
abbrev pub HeldIndexesAreWhole : Type 0
HeldIndexesAreWhole =
    (page : ℕ → List ℕ) (cat : Catalog) (database : Database) → IsOf cat database
    → (table column : ℕ) → is_hidden cat.schema table column ≡ true
    → (holds : HoldsIndex page cat (hidden_of cat.schema database) table column)
    → HoldsIndexWhole page cat (hidden_of cat.schema database) table column holds.values

abbrev pub HeldIdIndexesAreWhole : Type 0
HeldIdIndexesAreWhole =
    (page : ℕ → List ℕ) (cat : Catalog) (database : Database) → IsOf cat database
    → HoldsIdIndexes page cat (hidden_of cat.schema database)
    → (table : ℕ) → table < length cat.schema → is_empty (above_of cat.schema table) ≡ false
    → HoldsIdIndexWhole page cat (hidden_of cat.schema database) table

-- pages that have an index whole have it but for slots out of range: there are none
pub record WholeIndexesAreHeldBut : Type 0 where
  pub index :
      (page : ℕ → List ℕ) (cat : Catalog) (hidden : Hidden) (table column : ℕ) (values : List (List ℕ))
      → HoldsIndexWhole page cat hidden table column values → HoldsIndexBut page cat hidden table column values
  pub id_index :
      (page : ℕ → List ℕ) (cat : Catalog) (hidden : Hidden) (table : ℕ)
      → HoldsIdIndexWhole page cat hidden table → HoldsIdIndexBut page cat hidden table

-- a search over an index finds by these values
pub record IsOfValues (page : ℕ → List ℕ) (index : ClimbingIndex) (values : List (List ℕ)) : Type 0 where
  pub has : HasIndex page index values
  pub ascend : AllAscend values
  -- and it reads as few pages as their number asks for
  pub few : (k : ℕ) → length values < 2 ^ k → most_entries true page index < 2 ^ k

abbrev pub SearchesFindByValues : Type 0
SearchesFindByValues =
    (page : ℕ → List ℕ) (cat : Catalog) (hidden : Hidden) → IsLimited cat → GoesWith cat hidden
    → (table column : ℕ) → is_hidden cat.schema table column ≡ true
    → (values : List (List ℕ)) → HoldsIndexBut page cat hidden table column values
    → (index : ClimbingIndex) → IsIndexOf cat table column index → IsOfValues page index values

-- a list has these identifiers on the pages; and the same but for slots that are out of range by themselves
pub record HasList (page : ℕ → List ℕ) (list : ListRef) (identifiers : List ℕ) : Type 0 where
  pub count : list.count ≡ length identifiers
  pub ids : listed_from page (run_of list.run) list.first 0 list.count ≡ identifiers

pub record HasListBut (page : ℕ → List ℕ) (cat : Catalog) (from : ℕ) (list : ListRef) (identifiers : List ℕ) : Type 0 where
  pub count : list.count ≡ length identifiers
  pub each :
      (place : ℕ) → place < list.count → is_row cat from (listed page (run_of list.run) list.first place) ≡ true
      → listed page (run_of list.run) list.first place ≡ slice_index identifiers place

-- it is the list of an entry at a level, as a call gives it
pub record IsListOf (page : ℕ → List ℕ) (directory : Directory) (entry level : ℕ) (list : ListRef) : Type 0 where
  pub listed : GivesListed page directory entry level list
  pub run : option_map file_of (slice_get directory.levels.items level) ≡ Some (run_of list.run)

-- the lists of an index are those of its values
pub record ListsAreOfValues : Type 0 where
  pub whole :
      (page : ℕ → List ℕ) (cat : Catalog) (database : Database) → IsOf cat database
      → (table column : ℕ) → is_hidden cat.schema table column ≡ true
      → (values : List (List ℕ)) → HoldsIndexWhole page cat (hidden_of cat.schema database) table column values
      → (index : ClimbingIndex) → IsIndexOf cat table column index
      → (entry level : ℕ) → entry < length values → level < length (levels_of cat.schema table)
      → (list : ListRef) → IsListOf page index.directory entry level list
      → HasList page list (get_or (values_at cat (hidden_of cat.schema database) table column values level) entry [])
  pub but :
      (page : ℕ → List ℕ) (cat : Catalog) (database : Database) → IsOf cat database
      → (table column : ℕ) → is_hidden cat.schema table column ≡ true
      → (values : List (List ℕ)) → HoldsIndexBut page cat (hidden_of cat.schema database) table column values
      → (index : ClimbingIndex) → IsIndexOf cat table column index
      → (entry level : ℕ) → entry < length values → level < length (levels_of cat.schema table)
      → (list : ListRef) → IsListOf page index.directory entry level list
      → HasListBut page cat (slice_index (levels_of cat.schema table) level) list
      (get_or (values_at cat (hidden_of cat.schema database) table column values level) entry [])

-- those of an id index are those of the table's identifiers; its levels are counted from the parent on
pub record ListsAreOfIdentifiers : Type 0 where
  pub whole :
      (page : ℕ → List ℕ) (cat : Catalog) (database : Database) → IsOf cat database → (table : ℕ) → table < length cat.schema
      → HoldsIdIndexWhole page cat (hidden_of cat.schema database) table → (index : IdIndex) → IsIdIndexOf cat table index
      → (entry level : ℕ) → entry < count_of cat table → level < length (above_of cat.schema table)
      → (list : ListRef) → IsListOf page index.directory entry level list
      → HasList page list (get_or (ids_at cat (hidden_of cat.schema database) table level) entry [])
  pub but :
      (page : ℕ → List ℕ) (cat : Catalog) (database : Database) → IsOf cat database → (table : ℕ) → table < length cat.schema
      → HoldsIdIndexBut page cat (hidden_of cat.schema database) table → (index : IdIndex) → IsIdIndexOf cat table index
      → (entry level : ℕ) → entry < count_of cat table → level < length (above_of cat.schema table)
      → (list : ListRef) → IsListOf page index.directory entry level list
      → HasListBut page cat (slice_index (above_of cat.schema table) level) list
      (get_or (ids_at cat (hidden_of cat.schema database) table level) entry [])

-- Where reading a list gets to, by pages that have it whole: to each identifier, and to the end of the list.
pub record GetsTo (page : ℕ → List ℕ) (list : ListRef) (i : ℕ) : Type 0 where
  pub place : ℕ
  pub last : ℕ
  pub gets : reading_of page (run_of list.run) list.first i ≡ Some (record { place = place; last = last })
  pub inside : i < list.count → place < list.run.count

-- By pages that have it but for slots that are out of range by themselves it gets to the same, or nothing that is read from the
-- identifier before that one on is an identifier of a row.
pub record ReadsAlike (page right : ℕ → List ℕ) (cat : Catalog) (from : ℕ) (list : ListRef) (identifiers : List ℕ) : Type 0 where
  pub gets : (i : ℕ) → i ≤ list.count → GetsTo right list i
  pub alike :
      (i : ℕ) → i ≤ list.count
      → (reading_of page (run_of list.run) list.first i ≡ reading_of right (run_of list.run) list.first i)
      ⊎ ((later : ℕ) → i ≤ later + 1 → is_row cat from (listed page (run_of list.run) list.first later) ≡ false)
  pub whole : HasList right list identifiers
  pub but : HasListBut page cat from list identifiers

-- so it is of the list that an entry has by the pages that have an index whole
pub record ListsAreRead : Type 0 where
  pub values :
      (page right : ℕ → List ℕ) (cat : Catalog) (database : Database) → IsOf cat database
      → (table column : ℕ) → is_hidden cat.schema table column ≡ true
      → (values : List (List ℕ)) → HoldsIndexWhole right cat (hidden_of cat.schema database) table column values
      → HoldsIndexBut page cat (hidden_of cat.schema database) table column values
      → (index : ClimbingIndex) → IsIndexOf cat table column index
      → (entry level : ℕ) → entry < length values → level < length (levels_of cat.schema table)
      → (list : ListRef) → IsListOf right index.directory entry level list
      → ReadsAlike page right cat (slice_index (levels_of cat.schema table) level) list
      (get_or (values_at cat (hidden_of cat.schema database) table column values level) entry [])
  pub identifiers :
      (page right : ℕ → List ℕ) (cat : Catalog) (database : Database) → IsOf cat database → (table : ℕ) → table < length cat.schema
      → HoldsIdIndexWhole right cat (hidden_of cat.schema database) table
      → HoldsIdIndexBut page cat (hidden_of cat.schema database) table → (index : IdIndex) → IsIdIndexOf cat table index
      → (entry level : ℕ) → entry < count_of cat table → level < length (above_of cat.schema table)
      → (list : ListRef) → IsListOf right index.directory entry level list
      → ReadsAlike page right cat (slice_index (above_of cat.schema table) level) list
      (get_or (ids_at cat (hidden_of cat.schema database) table level) entry [])

-- Pages that have in each slot what others had hold of an index what those held.
abbrev pub HaveSameSlots : (page now : ℕ → List ℕ) → Catalog → Type 0
HaveSameSlots page now cat =
    (file : File) → has_file cat.schema file ≡ true → (place : ℕ) → place < (run_of_file cat file).count
    → in_slot now cat file place ≡ in_slot page cat file place

pub record HeldIndexesStay : Type 0 where
  pub whole :
      (page now : ℕ → List ℕ) (cat : Catalog) (database : Database) → IsOf cat database → HaveSameSlots page now cat
      → (table column : ℕ) → is_hidden cat.schema table column ≡ true
      → (values : List (List ℕ)) → HoldsIndexWhole page cat (hidden_of cat.schema database) table column values
      → HoldsIndexWhole now cat (hidden_of cat.schema database) table column values
  pub but :
      (page now : ℕ → List ℕ) (cat : Catalog) (database : Database) → IsOf cat database → HaveSameSlots page now cat
      → (table column : ℕ) → is_hidden cat.schema table column ≡ true
      → (values : List (List ℕ)) → HoldsIndexBut page cat (hidden_of cat.schema database) table column values
      → HoldsIndexBut now cat (hidden_of cat.schema database) table column values
  pub id_whole :
      (page now : ℕ → List ℕ) (cat : Catalog) (database : Database) → IsOf cat database → HaveSameSlots page now cat
      → (table : ℕ) → table < length cat.schema → is_empty (above_of cat.schema table) ≡ false
      → HoldsIdIndexWhole page cat (hidden_of cat.schema database) table → HoldsIdIndexWhole now cat (hidden_of cat.schema database) table
  pub id_but :
      (page now : ℕ → List ℕ) (cat : Catalog) (database : Database) → IsOf cat database → HaveSameSlots page now cat
      → (table : ℕ) → table < length cat.schema → is_empty (above_of cat.schema table) ≡ false
      → HoldsIdIndexBut page cat (hidden_of cat.schema database) table → HoldsIdIndexBut now cat (hidden_of cat.schema database) table

-- and reading a level file gets where it got, from any place on
pub record ReadingsStay : Type 0 where
  pub values :
      (page now : ℕ → List ℕ) (cat : Catalog) → HaveSameSlots page now cat
      → (table column level : ℕ) → is_hidden cat.schema table column ≡ true → level < length (levels_of cat.schema table)
      → (begin i : ℕ)
      → reading_of now (run_of_file cat (IndexLevel table column level)) begin i
      ≡ reading_of page (run_of_file cat (IndexLevel table column level)) begin i
  pub identifiers :
      (page now : ℕ → List ℕ) (cat : Catalog) → HaveSameSlots page now cat
      → (table level : ℕ) → level < length (above_of cat.schema table)
      → (begin i : ℕ)
      → reading_of now (run_of_file cat (IdLevel table level)) begin i
      ≡ reading_of page (run_of_file cat (IdLevel table level)) begin i

-- what is blamed is damage, as the layout's slots have it: by a search, by a list of an entry that the header tells, and by
-- a list of an id index
pub record DamageIsOfSlots : Type 0 where
  pub search :
      (page : ℕ → List ℕ) (cat : Catalog) (table column : ℕ) → is_hidden cat.schema table column ≡ true
      → (index : ClimbingIndex) → IsIndexOf cat table column index → (number slot found : ℕ)
      → FailsIn page index (Damaged number slot found) → IsDamagedSlot cat page number slot found
  pub list :
      (page : ℕ → List ℕ) (cat : Catalog) (table column : ℕ) → is_hidden cat.schema table column ≡ true
      → (index : ClimbingIndex) → IsIndexOf cat table column index
      → (entry : ℕ) → entry < rows_of index → entry < header_count page index → (number slot found : ℕ)
      → FailsAt page (run_of index.directory.run) (entry_stands index.directory) entry (Damaged number slot found)
      → IsDamagedSlot cat page number slot found
  pub id_list :
      (page : ℕ → List ℕ) (cat : Catalog) (table : ℕ) → table < length cat.schema → is_empty (above_of cat.schema table) ≡ false
      → (index : IdIndex) → IsIdIndexOf cat table index → (entry : ℕ) → entry < count_of cat table → (number slot found : ℕ)
      → FailsAt page (run_of index.directory.run) (entry_stands index.directory) entry (Damaged number slot found)
      → IsDamagedSlot cat page number slot found

-- Reading a list gets, by identifiers that do not pass the rows, to a place where no identifier of so many rows is read.
pub record IsBrokenAt (page : ℕ → List ℕ) (list : ListRef) (rows place number slot found : ℕ) : Type 0 where
  pub at : ℕ
  pub within : at < list.count
  pub last : ℕ
  pub gets : reading_of page (run_of list.run) list.first at ≡ Some (record { place = place; last = last })
  pub kept : last ≤ rows
  pub page_is : number ≡ page_of (run_of list.run) place
  pub slot_is : slot ≡ slot_of (run_of list.run) place
  pub found_is : found ≡ found_in (bytes_at page (run_of list.run) place)
  pub out : 0 < listed page (run_of list.run) list.first at → listed page (run_of list.run) list.first at ≤ rows → ⊥

-- so it is with a slot of a level file that a list of an entry blames: one that the header tells, or one of an id index
pub record BrokenCodesAreDamaged : Type 0 where
  pub values :
      (page : ℕ → List ℕ) (cat : Catalog) (table column : ℕ) → is_hidden cat.schema table column ≡ true
      → (index : ClimbingIndex) → IsIndexOf cat table column index
      → (entry level : ℕ) → entry < rows_of index → entry < header_count page index → level < length (levels_of cat.schema table)
      → (list : ListRef) → IsListOf page index.directory entry level list → (place number slot found : ℕ)
      → IsBrokenAt page list (count_of cat (slice_index (levels_of cat.schema table) level)) place number slot found
      → IsDamagedIn cat page (IndexLevel table column level) place number slot found
  pub identifiers :
      (page : ℕ → List ℕ) (cat : Catalog) (table : ℕ) → table < length cat.schema
      → (index : IdIndex) → IsIdIndexOf cat table index
      → (entry level : ℕ) → entry < count_of cat table → level < length (above_of cat.schema table)
      → (list : ListRef) → IsListOf page index.directory entry level list → (place number slot found : ℕ)
      → IsBrokenAt page list (count_of cat (slice_index (above_of cat.schema table) level)) place number slot found
      → IsDamagedIn cat page (IdLevel table level) place number slot found

-- and where pages have an index whole, nothing is blamed
pub record WholeIndexesHaveNoDamage : Type 0 where
  pub search :
      (page : ℕ → List ℕ) (cat : Catalog) (hidden : Hidden) → IsLimited cat
      → (table column : ℕ) → is_hidden cat.schema table column ≡ true
      → (values : List (List ℕ)) → HoldsIndexWhole page cat hidden table column values
      → (index : ClimbingIndex) → IsIndexOf cat table column index → (number slot found : ℕ)
      → FailsIn page index (Damaged number slot found) → ⊥
  pub list :
      (page : ℕ → List ℕ) (cat : Catalog) (hidden : Hidden) (table column : ℕ) → is_hidden cat.schema table column ≡ true
      → (values : List (List ℕ)) → HoldsIndexWhole page cat hidden table column values
      → (index : ClimbingIndex) → IsIndexOf cat table column index → (entry : ℕ) → entry < length values → (number slot found : ℕ)
      → FailsAt page (run_of index.directory.run) (entry_stands index.directory) entry (Damaged number slot found) → ⊥
  pub id_list :
      (page : ℕ → List ℕ) (cat : Catalog) (hidden : Hidden) (table : ℕ) → table < length cat.schema
      → HoldsIdIndexWhole page cat hidden table → (index : IdIndex) → IsIdIndexOf cat table index
      → (entry : ℕ) → entry < count_of cat table → (number slot found : ℕ)
      → FailsAt page (run_of index.directory.run) (entry_stands index.directory) entry (Damaged number slot found) → ⊥
  -- nor is a code of a level file broken
  pub code :
      (page : ℕ → List ℕ) (cat : Catalog) (database : Database) → IsOf cat database
      → (table column : ℕ) → is_hidden cat.schema table column ≡ true
      → (values : List (List ℕ)) → HoldsIndexWhole page cat (hidden_of cat.schema database) table column values
      → (level : ℕ) → level < length (levels_of cat.schema table) → (place : ℕ)
      → IsWrong page cat (IndexLevel table column level) place → ⊥
  pub id_code :
      (page : ℕ → List ℕ) (cat : Catalog) (database : Database) → IsOf cat database → (table : ℕ) → table < length cat.schema
      → HoldsIdIndexWhole page cat (hidden_of cat.schema database) table
      → (level : ℕ) → level < length (above_of cat.schema table) → (place : ℕ)
      → IsWrong page cat (IdLevel table level) place → ⊥
