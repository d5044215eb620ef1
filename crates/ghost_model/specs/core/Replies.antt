-- What a text answers by the replies that came, whoever sent them. The key knows the identifiers and the hidden columns
-- of all rows, and of each asked table the rows of its reply. So it is the plain meaning from another source: a visible group,
-- whose columns are of one table, gives way to "the row of each asked table stands in its reply", and a visible value is the
-- replied one.
use Rattle.std.specs.Prelude.{ℕ, zero, suc, pos, Bool, true, ◌==◌, List, [], ◌∷◌, ◌++◌, length, map, filter_map, take, drop, Option, Some, None, is_some, slice_get, option_and_then, option_to_list, unwrap_or, if◌then◌else◌}
use Rattle.ghost_model.specs.core.Schema.{Schema, Kind, columns_of, places_from, is_visible}
use Rattle.ghost_model.specs.core.Values.{Value, Number, Row}
use Rattle.ghost_model.specs.core.Query.{Query}
use Rattle.ghost_model.specs.forms.Cells.{cell_width}
use Rattle.ghost_model.specs.readings.CellReading.{decode_cell}
use Rattle.ghost_model.specs.core.Channel.{Catalog, Ask, Journal}
use Rattle.ghost_model.specs.core.Asks.{NumberedAsk, RowCells, kinds_of, rows_in}
use Rattle.ghost_model.specs.core.Moves.{taken}
use Rattle.ghost_model.specs.core.NextMove.{Ending, Answered, Refused, EndedAsk, heard}
use Rattle.ghost_model.specs.core.Database.{row_numbered}
use Rattle.ghost_model.specs.core.Split.{Hidden, RowValues, value_at}
use Rattle.ghost_model.specs.core.Meaning.{Source, answer_by}

-- the values that cells of these kinds spell
abbrev pub values_in : List Kind → List ℕ → Row
values_in [] bytes = []
values_in (kind ∷ kinds) bytes =
    option_to_list (decode_cell kind (take (cell_width kind) bytes)) ++ values_in kinds (drop (cell_width kind) bytes)

pub record Reply : Type 0 where
  pub ask : Ask
  pub rows : List RowValues

abbrev pub replied_row : Schema → Ask → RowCells → RowValues
replied_row schema ask row = record { identifier = row.identifier; values = values_in (kinds_of schema ask) row.cells }

-- the reply of an ask that DONE ended
abbrev pub reply_of : Schema → NumberedAsk → Ending → Option Reply
reply_of schema asked (Answered rows) = Some (record { ask = asked.ask; rows = map (replied_row schema asked.ask) (rows_in schema asked.ask rows) })
reply_of schema asked (Refused _) = None

abbrev pub reply_for : Schema → (text : ℕ) → EndedAsk → Option Reply
reply_for schema text end = if end.asked.text == text then reply_of schema end.asked end.ending else None

-- the replies to a text's asks that DONE ended; rows of an ask that is still running are none of these
abbrev pub replies : Catalog → (asks : List NumberedAsk) → Journal → (text : ℕ) → List Reply
replies catalog asks journal text = filter_map (reply_for catalog.schema text) (heard catalog asks (taken journal)).ended

abbrev pub reply_about : (table : ℕ) → List Reply → Option Reply
reply_about table [] = None
reply_about table (reply ∷ later) = if reply.ask.table == table then Some reply else reply_about table later

abbrev pub row_replied : (identifier : ℕ) → List RowValues → Option RowValues
row_replied identifier [] = None
row_replied identifier (row ∷ later) = if row.identifier == identifier then Some row else row_replied identifier later

abbrev pub replied_value : List Reply → (table identifier column : ℕ) → Option Value
replied_value given table identifier column =
    option_and_then (λ reply. option_and_then (λ row. value_at reply.ask.columns row.values column) (row_replied identifier reply.rows))
    (reply_about table given)

abbrev pub hidden_places : Schema → (table : ℕ) → List ℕ
hidden_places schema table = places_from (λ column. column.hidden) 1 (drop 1 (columns_of schema table))

abbrev pub hidden_value : Schema → Hidden → (table identifier column : ℕ) → Option Value
hidden_value schema kept table identifier column =
    option_and_then (λ row. value_at (hidden_places schema table) row column)
    (row_numbered (unwrap_or (slice_get kept.hidden table) []) identifier)

-- what the key knows of a row: its identifier, a replied value or a hidden one
abbrev pub known_value : Schema → Hidden → List Reply → (table identifier column : ℕ) → Option Value
known_value schema kept given table identifier zero = Some (Number (pos identifier))
known_value schema kept given table identifier (suc before) =
    if is_visible schema table (suc before) then replied_value given table identifier (suc before)
    else hidden_value schema kept table identifier (suc before)

-- whether a row stands in a reply, where there is one
abbrev pub stands_in : (identifier : ℕ) → Option Reply → Bool
stands_in identifier None = true
stands_in identifier (Some reply) = is_some (row_replied identifier reply.rows)

-- what the key knows: rows that stand in the reply of their table, if it was asked for, which judged the visible columns
abbrev pub known : Schema → Hidden → List Reply → Source
known schema kept given = record {
  count = λ table. length (unwrap_or (slice_get kept.hidden table) []);
  value = known_value schema kept given;
  admits = λ one. stands_in one.identifier (reply_about one.table given);
  is_judged = λ column. is_visible schema column.table column.column;
}

abbrev pub answer_from : Schema → Hidden → Query → List Reply → List Row
answer_from schema kept asked given = answer_by (known schema kept given) schema asked
