-- Combinations as the key knows them, under short words of their own.
use Rattle.std.specs.Prelude.{ℕ, Bool, List, length, Option, slice_get}
use Rattle.std.specs.List.{range_with_len}
use Rattle.ghost_model.specs.core.Schema.{Schema}
use Rattle.ghost_model.specs.core.Values.{Value, Row}
use Rattle.ghost_model.specs.core.Query.{Query, Field, Condition}
use Rattle.ghost_model.specs.laws.ShortWords.{rows_or_none}
use Rattle.ghost_model.specs.core.Split.{Hidden}
use Rattle.ghost_model.specs.core.Meaning as meaning
use Rattle.ghost_model.specs.core.Meaning.{Pick, combinations}
use Rattle.ghost_model.specs.core.Replies.{Reply, stands_in, reply_about, known}

abbrev pub identifiers_of : Hidden → (table : ℕ) → List ℕ
identifiers_of kept table = range_with_len 1 (length (rows_or_none (slice_get kept.hidden table)))

abbrev pub picks : Hidden → (tables : List ℕ) → List (List Pick)
picks kept tables = combinations (λ table. length (rows_or_none (slice_get kept.hidden table))) tables

abbrev pub known_in : Schema → Hidden → List Reply → List Pick → Field → Option Value
known_in schema kept given combination wanted = meaning.value_in (known schema kept given) combination wanted

abbrev pub is_true_or_asked : Schema → Hidden → List Reply → List Pick → Condition → Bool
is_true_or_asked schema kept given combination condition = meaning.is_true_in (known schema kept given) combination condition

abbrev pub stands_in_reply : List Reply → Pick → Bool
stands_in_reply given one = stands_in one.identifier (reply_about one.table given)

abbrev pub is_kept : Schema → Hidden → List Reply → List Condition → List Pick → Bool
is_kept schema kept given conditions combination = meaning.is_kept (known schema kept given) conditions combination

abbrev pub answer_of_pick : Schema → Hidden → Query → List Reply → (top identifier : ℕ) → List Row
answer_of_pick schema kept asked given top identifier = meaning.answer_of_row (known schema kept given) asked top identifier
