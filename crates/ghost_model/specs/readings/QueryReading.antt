-- The reading of a query text over a schema, which computes: its tree by the places of the grammar, then the first of
-- the rules that it breaks. Outside, what a text means is named by `reading` alone. Nothing in this module need be
-- believed: the law OneReading (function `one_reading`) makes `reading` the relations Means and IsRefused.
use Rattle.std.specs.Prelude.{ℕ, List, Option, Some, None, Result, Ok, Err}
use Rattle.ghost_model.specs.core.Schema.{Schema}
use Rattle.ghost_model.specs.core.Query.{Query}
use Rattle.ghost_model.specs.refusals.Rules.{first_broken}
use Rattle.ghost_model.specs.refusals.QueryGrammar.{QueryText}
use Rattle.ghost_model.specs.readings.QueryPlaces.{syntax_of}
use Rattle.ghost_model.specs.refusals.QueryMeaning.{Refusal, Syntax, rules_of_queries, resolved}

abbrev pub query_unless : Query → Option Refusal → Result Query Refusal
query_unless query None = Ok query
query_unless query (Some refusal) = Err refusal

abbrev pub judged : Schema → List ℕ → Result QueryText ℕ → Result Query Refusal
judged schema text (Err at) = Err (Syntax at)
judged schema text (Ok tree) = query_unless (resolved schema tree) (first_broken (rules_of_queries schema text tree))

abbrev pub reading : Schema → List ℕ → Result Query Refusal
reading schema text = judged schema text (syntax_of text)
