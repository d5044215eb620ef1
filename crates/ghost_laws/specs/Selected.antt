-- What a row of an answer holds: one value for each selected column, of that column's kind. So a row has at most 32 values,
-- and its line is short. The same holds of what the key answers by replies to all asks whose cells spelled values.
use Rattle.std.specs.Prelude.{◌≡◌, ℕ, suc, ◌≤◌, Bool, true, nat_le, List, map, length, Some, is_some, slice_get, IsTrue, Ok}
use Rattle.std.specs.List.{list_all}
use Rattle.ghost_model.specs.core.Schema.{Schema, Kind}
use Rattle.ghost_model.specs.laws.SchemaTrees.{IsTree}
use Rattle.ghost_model.specs.core.Values.{Row, Database}
use Rattle.ghost_model.specs.core.Database.{IsDatabase, row_count}
use Rattle.ghost_model.specs.core.Query.{Query, top_of}
use Rattle.ghost_model.specs.refusals.QueryMeaning.{Means}
use Rattle.ghost_model.specs.core.Asks.{kind_at, kinds_of, asks_of, asked_of}
use Rattle.ghost_model.specs.core.Split.{are_of_kinds}
use Rattle.ghost_model.specs.core.Replies.{Reply, replies}
use Rattle.ghost_model.specs.readings.QueryReading.{reading}
use Rattle.ghost_model.specs.core.Channel.{Catalog, Journal}
use Rattle.ghost_model.specs.forms.Frames.{AreBytes}
use Rattle.ghost_model.specs.core.Moves.{taken}
use Rattle.ghost_model.specs.core.Lines.{all_done}
use Rattle.ghost_model.specs.core.NextMove.{ended_of}
use Rattle.ghost_model.specs.core.Printed.{field_text, row_line}
use Rattle.ghost_laws.specs.Asking.{members_left}
use Rattle.ghost_laws.specs.Scans.{led_value, row_along, answer_along, known_along, stands_along, known_row, known_answer}

-- the kinds of the selected columns
abbrev pub kinds_selected : Schema → Query → List Kind
kinds_selected schema asked = map (λ one. kind_at schema one.table one.column) asked.select

-- whether a row has one value for each selected column, of its kind
abbrev pub has_selected : Schema → Query → Row → Bool
has_selected schema asked row = are_of_kinds (kinds_selected schema asked) row

-- for each row of the top table, by its identifier, and so in the whole answer
pub record AreSelected (schema : Schema) (database : Database) (asked : Query) (top : ℕ) : Type 0 where
  pub row : (identifier : ℕ) → 1 ≤ identifier → identifier ≤ row_count database top
      → IsTrue (list_all (has_selected schema asked) (row_along (led_value schema database top identifier) asked))
  pub answer : IsTrue (list_all (has_selected schema asked) (answer_along schema database asked top))

abbrev pub AnswersHaveSelected : Type 0
AnswersHaveSelected =
    (schema : Schema) → IsTree schema → (database : Database) → IsDatabase schema database
    → (text : List ℕ) (asked : Query) → Means schema text asked
    → (top : ℕ) → top_of schema asked ≡ Some top → AreSelected schema database asked top

-- whether each row of a reply has one value for each asked column, of its kind
abbrev pub is_of_kinds : Schema → Reply → Bool
is_of_kinds schema reply = list_all (λ row. are_of_kinds (kinds_of schema reply.ask) row.values) reply.rows

-- one reply to each ask of a query, in order
pub record AreWholeReplies (schema : Schema) (asked : Query) (given : List Reply) : Type 0 where
  pub asks : map (λ reply. reply.ask) given ≡ asks_of schema asked
  pub kinds : IsTrue (list_all (is_of_kinds schema) given)

-- the replies to a text whose asks were all ended by DONE, whatever host sent them; the text at place 0 has number 1
abbrev pub RepliesAreWhole : Type 0
RepliesAreWhole =
    (catalog : Catalog) (texts : List (List ℕ)) (journal : Journal) (place : ℕ) (written : List ℕ) (asked : Query)
    → AreBytes (taken journal)
    → slice_get texts place ≡ Some written → reading catalog.schema written ≡ Ok asked
    → all_done catalog.schema asked (ended_of catalog (asked_of catalog.schema texts) journal (suc place)) ≡ true
    → AreWholeReplies catalog.schema asked (replies catalog (asked_of catalog.schema texts) journal (suc place))

-- no selected value is missing in a row that stands in the replies, and none of a column in a group that is left
pub record AreKnown (schema : Schema) (database : Database) (asked : Query) (given : List Reply) (top : ℕ) : Type 0 where
  pub row : (identifier : ℕ) → 1 ≤ identifier → identifier ≤ row_count database top
      → IsTrue (list_all (has_selected schema asked) (known_row schema database asked given top identifier))
  pub none_missing : (identifier : ℕ) → 1 ≤ identifier → identifier ≤ row_count database top
      → IsTrue (list_all (stands_along schema database given top identifier) asked.from)
      → IsTrue (list_all (λ one. is_some (known_along schema database given top identifier one)) asked.select)
  pub left : (identifier : ℕ) → 1 ≤ identifier → identifier ≤ row_count database top
      → IsTrue (list_all (stands_along schema database given top identifier) asked.from)
      → IsTrue (list_all (λ one. is_some (known_along schema database given top identifier one.member.field)) (members_left schema asked))
  pub answer : IsTrue (list_all (has_selected schema asked) (known_answer schema database asked given top))

abbrev pub KnownAnswersHaveSelected : Type 0
KnownAnswersHaveSelected =
    (schema : Schema) → IsTree schema → (database : Database) → IsDatabase schema database
    → (text : List ℕ) (asked : Query) → Means schema text asked
    → (given : List Reply) → AreWholeReplies schema asked given
    → (top : ℕ) → top_of schema asked ≡ Some top → AreKnown schema database asked given top

-- 32 values of at most 64 bytes, a tab between each two, `> ` before them and a line feed after them
abbrev pub longest_line : ℕ
longest_line = 2082

pub record IsShortRow (row : Row) : Type 0 where
  pub values : length row ≤ 32
  pub fields : IsTrue (list_all (λ value. nat_le (length (field_text value)) 64) row)
  pub line : length (row_line row) ≤ longest_line

abbrev pub LinesAreShort : Type 0
LinesAreShort =
    (schema : Schema) → IsTree schema → (text : List ℕ) (asked : Query) → Means schema text asked
    → (row : Row) → IsTrue (has_selected schema asked row) → IsShortRow row
