-- What the slots of an index have. By `has` a slot of a file, at a place, has some bytes, and by `reads` a level file with some gaps
-- has the code of one of them at its place: either exactly, or unless what stands there is out of range by itself.
use Rattle.std.specs.Prelude.{◌≡◌, ◌⊎◌, ℕ, ◌<◌, ◌≤◌, true, false, List, [], length, replicate, slice_index}
use Rattle.ghost_model.specs.core.Channel.{Catalog}
use Rattle.ghost_model.specs.core.Split.{Hidden}
use Rattle.ghost_model.specs.forms.Layout.{count_of, levels_of, above_of, File, IndexHeader, IndexDirectory, IndexLevel, IdDirectory, IdLevel, run_of_file}
use Rattle.ghost_model.specs.forms.Runs.{number_cell}
use Rattle.ghost_model.specs.forms.Gaps.{code_place, gaps_of, ReadsCode}
use Rattle.ghost_model.specs.forms.Flash.{AreValues, hidden_cells, directory_record, value_lists, id_lists}
use Rattle.ghost_model.specs.forms.Slots.{in_slot, may_stand}

-- the slot has this record, which may stand there
pub record HasRecord (page : ℕ → List ℕ) (cat : Catalog) (file : File) (place : ℕ) (bytes : List ℕ) : Type 0 where
  pub is : in_slot page cat file place ≡ bytes
  pub stands : may_stand cat file (in_slot page cat file place) ≡ true

-- the slot has this record, unless what it has is out of range by itself
abbrev pub HasRecordBut : (ℕ → List ℕ) → Catalog → File → (place : ℕ) → (bytes : List ℕ) → Type 0
HasRecordBut page cat file place bytes =
    (in_slot page cat file place ≡ bytes) ⊎ (may_stand cat file (in_slot page cat file place) ≡ false)

-- A level file has the code of a gap: it is read at its place, and behind it where the next one stands; and it may stand there.
pub record HasGap (page : ℕ → List ℕ) (cat : Catalog) (file : File) (gaps : List ℕ) (k : ℕ) : Type 0 where
  pub reads : ReadsCode page (run_of_file cat file) gaps k
  pub stands : may_stand cat file (in_slot page cat file (code_place gaps k)) ≡ true

-- it has that code, unless what stands at its place is out of range by itself
abbrev pub HasGapBut : (ℕ → List ℕ) → Catalog → File → (gaps : List ℕ) → (k : ℕ) → Type 0
HasGapBut page cat file gaps k =
    ReadsCode page (run_of_file cat file) gaps k ⊎ (may_stand cat file (in_slot page cat file (code_place gaps k)) ≡ false)

-- the lists of a climbing index at a level, and those of an id index
abbrev pub values_at : Catalog → Hidden → (table column : ℕ) → (values : List (List ℕ)) → (level : ℕ) → List (List ℕ)
values_at cat hidden table column values level =
    value_lists cat hidden table column values (slice_index (levels_of cat.schema table) level)

abbrev pub ids_at : Catalog → Hidden → (table level : ℕ) → List (List ℕ)
ids_at cat hidden table level = id_lists cat hidden table (slice_index (above_of cat.schema table) level)

-- the slots of a climbing index: the number of its values, an entry for each, and at each level the gaps of all lists
pub record IsIndexBy (has : File → (place : ℕ) → List ℕ → Type 0) (reads : File → (gaps : List ℕ) → (k : ℕ) → Type 0) (cat : Catalog) (hidden : Hidden) (table column : ℕ) (values : List (List ℕ)) : Type 0 where
  pub are_values : AreValues (hidden_cells cat.schema hidden table column) values
  pub few : length values ≤ count_of cat table
  pub header : has (IndexHeader table column) 0 (number_cell (length values))
  pub entries :
      (entry : ℕ) → entry < length values
      → has (IndexDirectory table column) entry
      (directory_record values (levels_of cat.schema table) (value_lists cat hidden table column values) entry)
  pub lists :
      (level : ℕ) → level < length (levels_of cat.schema table)
      → (k : ℕ) → k < length (gaps_of (values_at cat hidden table column values level))
      → reads (IndexLevel table column level) (gaps_of (values_at cat hidden table column values level)) k

-- those of an id index
pub record IsIdIndexBy (has : File → (place : ℕ) → List ℕ → Type 0) (reads : File → (gaps : List ℕ) → (k : ℕ) → Type 0) (cat : Catalog) (hidden : Hidden) (table : ℕ) : Type 0 where
  pub entries :
      (entry : ℕ) → entry < count_of cat table
      → has (IdDirectory table) entry
      (directory_record (replicate (count_of cat table) []) (above_of cat.schema table) (id_lists cat hidden table) entry)
  pub lists :
      (level : ℕ) → level < length (above_of cat.schema table)
      → (k : ℕ) → k < length (gaps_of (ids_at cat hidden table level))
      → reads (IdLevel table level) (gaps_of (ids_at cat hidden table level)) k

-- Pages have an index whole, or but for slots that are out of range by themselves.
abbrev pub HoldsIndexWhole : (ℕ → List ℕ) → Catalog → Hidden → (table column : ℕ) → (values : List (List ℕ)) → Type 0
HoldsIndexWhole page cat hidden table column values = IsIndexBy (HasRecord page cat) (HasGap page cat) cat hidden table column values

abbrev pub HoldsIndexBut : (ℕ → List ℕ) → Catalog → Hidden → (table column : ℕ) → (values : List (List ℕ)) → Type 0
HoldsIndexBut page cat hidden table column values = IsIndexBy (HasRecordBut page cat) (HasGapBut page cat) cat hidden table column values

abbrev pub HoldsIdIndexWhole : (ℕ → List ℕ) → Catalog → Hidden → (table : ℕ) → Type 0
HoldsIdIndexWhole page cat hidden table = IsIdIndexBy (HasRecord page cat) (HasGap page cat) cat hidden table

abbrev pub HoldsIdIndexBut : (ℕ → List ℕ) → Catalog → Hidden → (table : ℕ) → Type 0
HoldsIdIndexBut page cat hidden table = IsIdIndexBy (HasRecordBut page cat) (HasGapBut page cat) cat hidden table
