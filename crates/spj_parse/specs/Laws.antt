-- The query that a text means may have a join several times; with each of its joins once, it has the same top table, the
-- same asks and, over a tree, the same answer. So has the query without its groups that are left.
use Rattle.std.specs.Prelude.{◌≡◌, ℕ, List, Ok}
use Rattle.ghost_model.specs.core.Schema.{Schema}
use Rattle.ghost_model.specs.laws.SchemaTrees.{IsTree}
use Rattle.ghost_model.specs.core.Values.{Database}
use Rattle.ghost_model.specs.core.Query.{Query, top_of}
use Rattle.ghost_model.specs.readings.QueryReading.{reading}
use Rattle.ghost_model.specs.core.Meaning.{answer}
use Rattle.ghost_model.specs.core.Asks.{asks_of}
use Rattle.ghost_model.specs.forms.Left.{without_left}
use Rattle.spj_parse.specs.Resolved.{linked}

pub record JoinsCountOnce : Type 0 where
  pub top : (schema : Schema) (query : Query) → top_of schema (linked schema query) ≡ top_of schema query
  pub asks : (schema : Schema) (query : Query) → asks_of schema (linked schema query) ≡ asks_of schema query
  pub answers :
      (schema : Schema) → IsTree schema → (database : Database) (text : List ℕ) (query : Query) → reading schema text ≡ Ok query
      → answer schema database (linked schema query) ≡ answer schema database query
  pub left :
      (schema : Schema) → IsTree schema → (database : Database) (text : List ℕ) (query : Query) → reading schema text ≡ Ok query
      → answer schema database (without_left schema (linked schema query)) ≡ answer schema database (without_left schema query)
