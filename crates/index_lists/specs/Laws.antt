-- What is computed by ranks, level by level, are the lists that an index holds.
use Rattle.std.specs.Prelude.{◌≡◌, ℕ, suc, ◌+◌, ◌-◌, ◌^◌, ◌<◌, ◌≤◌, ℤ, pos, List, [], length, map, Some, slice_index, get_or, IsTrue}
use Rattle.std.specs.List.{All, concat, slice_range}
use Rattle.ghost_model.specs.core.Channel.{Catalog}
use Rattle.ghost_model.specs.core.Schema.{parent, IsAtOrBelow}
use Rattle.ghost_model.specs.core.Values.{Number}
use Rattle.ghost_model.specs.core.Database.{is_row_among, reference_column}
use Rattle.ghost_model.specs.core.Split.{Hidden}
use Rattle.ghost_model.specs.core.Replies.{hidden_value}
use Rattle.ghost_model.specs.laws.SchemaTrees.{IsTree}
use Rattle.ghost_model.specs.forms.Layout.{count_of}
use Rattle.ghost_model.specs.forms.Flash.{IsHidden, ids, hidden_cells, leads_to, value_lists, id_lists, AreValues}
use Rattle.index_lists.specs.Ranks.{AreRanks, identifier_of, number_cells, of_referred}
use Rattle.index_lists.specs.Numbering.{InOrder, front, head_of}
use Rattle.index_lists.specs.Lists.{AreListed, lists_of, start_of}

-- each row of a table leads to a row of a table below it, or to itself
pub record LeadAs (cat : Catalog) (hidden : Hidden) (from table : ℕ) (reached : List ℕ) : Type 0 where
  pub long : length reached ≡ count_of cat from
  pub each : (identifier : ℕ) → 0 < identifier → identifier ≤ count_of cat from
      → leads_to cat.schema hidden from identifier table ≡ Some (slice_index reached (identifier - 1))
  pub above : All (λ row. 0 < row) reached
  pub within : All (λ row. row ≤ count_of cat table) reached

-- the ranks of a column's rows, taken to a level, make the lists of the column's values there
abbrev pub ValueListsByRanks : Type 0
ValueListsByRanks =
    (cat : Catalog) (hidden : Hidden) (table column from : ℕ) (values : List (List ℕ)) (ranks reached : List ℕ)
    → AreValues (hidden_cells cat.schema hidden table column) values
    → AreRanks (hidden_cells cat.schema hidden table column) values ranks
    → length ranks ≡ count_of cat table
    → LeadAs cat hidden from table reached
    → lists_of (of_referred ranks reached) (length values) ≡ value_lists cat hidden table column values from

-- the places of the rows themselves make the lists of an id index
abbrev pub IdListsByRanks : Type 0
IdListsByRanks =
    (cat : Catalog) (hidden : Hidden) (table from : ℕ) (reached : List ℕ)
    → LeadAs cat hidden from table reached
    → lists_of (map (λ row. row - 1) reached) (count_of cat table) ≡ id_lists cat hidden table from

-- what is taken up two levels is what is taken up by the two at once
abbrev pub LevelsCompose : Type 0
LevelsCompose =
    (held reached identifiers : List ℕ) → All (λ identifier. 0 < identifier) identifiers
    → All (λ identifier. identifier ≤ length reached) identifiers
    → of_referred (of_referred held reached) identifiers ≡ of_referred held (of_referred reached identifiers)

-- the list of an entry stands between its start and the next one's
pub record StandsBetween (lists : List (List ℕ)) (entry : ℕ) : Type 0 where
  pub rises : start_of lists (entry + 1) ≡ start_of lists entry + length (get_or lists entry [])
  pub within : start_of lists (entry + 1) ≤ length (concat lists)
  pub between : slice_range (concat lists) (start_of lists entry) (start_of lists (entry + 1)) ≡ get_or lists entry []

abbrev pub ListsStandBetween : Type 0
ListsStandBetween = (lists : List (List ℕ)) (entry : ℕ) → entry < length lists → StandsBetween lists entry

-- each row leads to itself
abbrev pub RowsLeadToThemselves : Type 0
RowsLeadToThemselves = (cat : Catalog) (hidden : Hidden) (table : ℕ) → LeadAs cat hidden table table (ids (count_of cat table))

-- rows lead where those lead to which they lead
abbrev pub LeadsGoOn : Type 0
LeadsGoOn =
    (cat : Catalog) (hidden : Hidden) → IsTree cat.schema → IsHidden cat hidden
    → (above from table : ℕ) → IsAtOrBelow cat.schema above from → IsAtOrBelow cat.schema from table
    → (identifiers reached : List ℕ) → LeadAs cat hidden above from identifiers → LeadAs cat hidden from table reached
    → LeadAs cat hidden above table (of_referred reached identifiers)

-- integers are the values of a table's foreign key to another, row by row
pub record AreKeys (cat : Catalog) (hidden : Hidden) (table child : ℕ) (keys : List ℤ) : Type 0 where
  pub column : ℕ
  pub names : reference_column cat.schema table child ≡ Some column
  pub long : length keys ≡ count_of cat table
  pub each : (place : ℕ) → place < count_of cat table
      → hidden_value cat.schema hidden table (suc place) column ≡ Some (Number (get_or keys place (pos 0)))

-- they are identifiers of rows, and rows lead to these
pub record KeysLead (cat : Catalog) (hidden : Hidden) (table child : ℕ) (keys : List ℤ) : Type 0 where
  pub named : All (λ key. IsTrue (is_row_among (count_of cat child) (Number key))) keys
  pub lead : LeadAs cat hidden table child (map identifier_of keys)

abbrev pub RowsLeadByKeys : Type 0
RowsLeadByKeys =
    (cat : Catalog) (hidden : Hidden) → IsTree cat.schema → IsHidden cat hidden
    → (table child : ℕ) → parent cat.schema child ≡ Some table → (keys : List ℤ) → AreKeys cat hidden table child keys
    → KeysLead cat hidden table child keys

-- rows that stand in the order of their foreign keys are the lists of the rows that these name, one after another
abbrev pub KeyOrdersAreLists : Type 0
KeyOrdersAreLists =
    (keys : List ℤ) (count : ℕ) (rows : List ℕ) → count < 2 ^ 32
    → All (λ key. IsTrue (is_row_among count (Number key))) keys → InOrder (number_cells keys) rows
    → AreListed (map (λ identifier. identifier - 1) (map identifier_of keys)) count rows

-- cells with one head begin with the same eight bytes
abbrev pub HeadsShowFronts : Type 0
HeadsShowFronts =
    (one other : List ℕ) → All (λ byte. byte < 256) one → All (λ byte. byte < 256) other
    → head_of one ≡ head_of other → front 8 one ≡ front 8 other
