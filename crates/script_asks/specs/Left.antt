-- The asks that are left of a query, from a table on, and of a script, behind so many of its texts.
use Rattle.std.specs.Prelude.{ℕ, ◌+◌, Bool, true, ◌&&◌, nat_lt, nat_le, List, [], ◌∷◌, ◌++◌, drop, filter, map, Option, Some, None}
use Rattle.std.specs.List.{list_all}
use Rattle.ghost_model.specs.core.Schema.{Schema, places_from}
use Rattle.ghost_model.specs.core.Query.{Query}
use Rattle.ghost_model.specs.core.Channel.{Ask}
use Rattle.ghost_model.specs.core.Asks.{NumberedAsk, asked, asked_from, ask_for, is_needed, is_proper_ask}
use Rattle.ghost_model.specs.laws.ShortWords.{is_from}
use Rattle.ghost_model.specs.readings.QueryReading.{reading}
use Rattle.channel_codec.specs.AskViews.{ask_view}
use Rattle.script_asks.specs.declared.scripts.Hand.{Hand}

-- the asks of a query for these tables
abbrev pub asks_for : Schema → Query → (tables : List ℕ) → List Ask
asks_for schema query tables = filter is_needed (map (ask_for schema query) (filter (is_from query) tables))

-- the asks of a query for the tables from this place on
abbrev pub asks_after : Schema → Query → (table : ℕ) → List Ask
asks_after schema query table = asks_for schema query (places_from (λ _. true) table (drop table schema))

-- the asks of the text at hand that are left, if it has any
abbrev pub hand_asks : Schema → Option Hand → List Ask
hand_asks schema None = []
hand_asks schema (Some hand) = ask_view hand.ask ∷ asks_after schema hand.query (hand.ask.table + 1)

-- the asks that are left of a script: those of the text at hand, which has this number, and those of the texts behind it;
-- where no text is at hand there are none
abbrev pub asked_left : Schema → (number : ℕ) → Option Hand → (texts : List (List ℕ)) → List NumberedAsk
asked_left schema number None texts = []
asked_left schema number (Some hand) texts =
    map (asked number) (hand_asks schema (Some hand)) ++ asked_from schema (number + 1) (map (reading schema) texts)

-- each of these asks is one that a key may send
abbrev pub are_proper : Schema → List NumberedAsk → Bool
are_proper schema asks = list_all (λ asked. is_proper_ask schema asked.ask) asks

-- each of these asks is of a text of a script of at most 64
abbrev pub are_numbered : List NumberedAsk → Bool
are_numbered asks = list_all (λ asked. nat_lt 0 asked.text && nat_le asked.text 64) asks
