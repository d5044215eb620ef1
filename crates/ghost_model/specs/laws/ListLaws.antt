-- The lists of a level in an index: together they have each row of the level's table once. So their lengths add
-- up to that table's rows, which is what its level file has room for. Each ascends, whatever database the hidden part is of.
use Rattle.std.specs.Prelude.{◌≡◌, ℕ, ◌<◌, true, List, IsPermutation}
use Rattle.std.specs.List.{concat}
use Rattle.ghost_model.specs.core.Values.{Database}
use Rattle.ghost_model.specs.core.Channel.{Catalog}
use Rattle.ghost_model.specs.laws.SchemaTrees.{IsTree}
use Rattle.ghost_model.specs.core.Database.{IsDatabase, row_counts}
use Rattle.ghost_model.specs.core.Schema.{IsAtOrBelow}
use Rattle.ghost_model.specs.core.Split.{Hidden, hidden_of}
use Rattle.ghost_model.specs.forms.Layout.{is_hidden, count_of}
use Rattle.ghost_model.specs.forms.Flash.{hidden_cells, ids, value_lists, id_lists, AreValues}
use Rattle.ghost_model.specs.laws.GapLaws.{AreLevelLists}

abbrev pub ListsPartition : Type 0
ListsPartition =
    (cat : Catalog) (database : Database) → IsTree cat.schema → IsDatabase cat.schema database → row_counts database ≡ cat.counts
    → (table column from : ℕ) → is_hidden cat.schema table column ≡ true → IsAtOrBelow cat.schema from table
    → (values : List (List ℕ)) → AreValues (hidden_cells cat.schema (hidden_of cat.schema database) table column) values
    → IsPermutation (ids (count_of cat from))
    (concat (value_lists cat (hidden_of cat.schema database) table column values from))

-- the same of an id index
abbrev pub IdListsPartition : Type 0
IdListsPartition =
    (cat : Catalog) (database : Database) → IsTree cat.schema → IsDatabase cat.schema database → row_counts database ≡ cat.counts
    → (table from : ℕ) → IsAtOrBelow cat.schema from table
    → IsPermutation (ids (count_of cat from))
    (concat (id_lists cat (hidden_of cat.schema database) table from))

-- they are lists of a level: each ascends, and there are no more identifiers than rows
pub record ListsAscend : Type 0 where
  pub of_values :
      (cat : Catalog) (hidden : Hidden) (table column from : ℕ) (values : List (List ℕ)) → count_of cat from < 2097152
      → AreValues (hidden_cells cat.schema hidden table column) values
      → AreLevelLists (count_of cat from) (value_lists cat hidden table column values from)
  pub of_ids :
      (cat : Catalog) (hidden : Hidden) (table from : ℕ) → count_of cat from < 2097152
      → AreLevelLists (count_of cat from) (id_lists cat hidden table from)
