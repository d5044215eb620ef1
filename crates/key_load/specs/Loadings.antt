-- What is loaded of the tables that the files spell: the catalog of the first generation and of the version that is made, a flash
-- of so many blocks, and the line that tells it.
use Rattle.std.specs.Prelude.{ℕ, ◌*◌, ◌/◌, List, [], ◌∷◌, ◌++◌, length, codes, decimal, Option, Some, None}
use Rattle.std.specs.List.{sum}
use Rattle.ghost_model.specs.core.Channel.{Catalog}
use Rattle.ghost_model.specs.core.Database.{row_counts}
use Rattle.ghost_model.specs.forms.Catalog.{current_version}
use Rattle.ghost_model.specs.forms.Layout.{need}
use Rattle.ghost_model.specs.core.Schema.{Schema}
use Rattle.ghost_model.specs.core.Values.{Database}

abbrev pub catalog_for : Schema → Database → Catalog
catalog_for schema database = record { schema = schema; counts = row_counts database; generation = 1; version = current_version }

-- as many blocks as are asked for, else as many as are needed
abbrev pub blocks_for : Catalog → (asked : Option ℕ) → ℕ
blocks_for cat None = need cat / 64
blocks_for cat (Some blocks) = blocks

abbrev pub pages_for : Catalog → (asked : Option ℕ) → ℕ
pages_for cat asked = 64 * blocks_for cat asked

-- the line after a loading: the tables, all their rows, and the pages of the flash
abbrev pub loaded_line : Catalog → (pages : ℕ) → List ℕ
loaded_line cat pages =
    codes "= tables " ++ (decimal (length cat.schema)
    ++ (codes " rows " ++ (decimal (sum cat.counts) ++ (codes " pages " ++ (decimal pages ++ 10 ∷ [])))))
