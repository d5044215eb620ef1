-- What rows lead to, as numbers in memory: the foreign keys of a table, and the rows of tables below to which its rows lead.
use Rattle.std.specs.Prelude.{◌≡◌, ℕ, ◌+◌, ◌<◌, ℤ, ⊤, List, [], ◌∷◌, length, map, flat_map, Some, slice_index, get_or, IsTrue}
use Rattle.std.specs.List.{All}
use Rattle.std.specs.Global.{Vec}
use Rattle.ghost_model.specs.core.Values.{Number}
use Rattle.ghost_model.specs.core.Channel.{Catalog}
use Rattle.ghost_model.specs.core.Database.{is_row_among, points_to}
use Rattle.ghost_model.specs.core.Split.{Hidden}
use Rattle.ghost_model.specs.forms.Layout.{below, count_of}
use Rattle.ghost_model.specs.forms.Runs.{number_cell}
use Rattle.ghost_model.specs.forms.Flash.{IsHidden}
use Rattle.index_lists.specs.Ranks.{identifier_of, of_referred}
use Rattle.index_lists.specs.Laws.{LeadAs}

-- the foreign keys of a table's rows to the table below it
pub record AreKeys (cat : Catalog) (hidden : Hidden) (table child : ℕ) (keys : List ℤ) : Type 0 where
  pub long : length keys ≡ count_of cat table
  pub named : All (λ key. IsTrue (is_row_among (count_of cat child) (Number key))) keys
  pub each :
      (part : IsHidden cat hidden) (place : ℕ) → place < count_of cat table
      → points_to cat.schema part.database table (place + 1) child ≡ Some (slice_index (map identifier_of keys) place)

-- the numbers of a vector
abbrev pub items_of : Vec ℕ → List ℕ
items_of numbers = numbers.items

-- columns of numbers have the rows of some tables to which the rows of a table lead
abbrev pub AreLed : Catalog → Hidden → (from : ℕ) → (tables : List ℕ) → (columns : List (List ℕ)) → Type 0
AreLed cat hidden from [] [] = ⊤
AreLed cat hidden from [] (_ ∷ _) = ⊥
AreLed cat hidden from (_ ∷ _) [] = ⊥
AreLed cat hidden from (table ∷ tables) (column ∷ columns) = LeadAs cat hidden from table column × AreLed cat hidden from tables columns

-- the record of a row: a number of each of some columns
abbrev pub numbers_record : (columns : List (List ℕ)) → (row : ℕ) → List ℕ
numbers_record columns row = flat_map (λ column. number_cell (slice_index column row)) columns

abbrev pub numbers_records : (columns : List (List ℕ)) → (rows : ℕ) → List (List ℕ)
numbers_records columns rows = map (numbers_record columns) (below rows)

-- the ranks of the rows of a table above, by those of a table's own rows: each row has the rank of the row that it leads to
pub record RankedAbove (cat : Catalog) (hidden : Hidden) (table : ℕ) (own : List ℕ) (from : ℕ) (ranks : List ℕ) : Type 0 where
  pub reached : List ℕ
  pub lead : LeadAs cat hidden from table reached
  pub same : ranks ≡ of_referred own reached

-- the ranks of the rows of some tables, by those of a table's own rows
pub record AreRankedAbove (cat : Catalog) (hidden : Hidden) (table : ℕ) (own : List ℕ) (tables : List ℕ) (all : List (List ℕ)) : Type 0 where
  pub count : length all ≡ length tables
  pub each : (level : ℕ) → level < length tables → RankedAbove cat hidden table own (slice_index tables level) (get_or all level [])
