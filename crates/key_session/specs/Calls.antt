-- How many calls of the flash a session takes at most where its texts are answered by the plan `pre`, over the pages of a database and
-- with an honest host: for each accepted text the work of its query, and two for each page of the spool that its replies fill, one that
-- writes it and one that may erase its block before.
use Rattle.std.specs.Prelude.{ℕ, ◌+◌, ◌*◌, List, length, sum_by, Result, Ok, Err}
use Rattle.ghost_model.specs.core.Schema.{Schema}
use Rattle.ghost_model.specs.core.Values.{Database}
use Rattle.ghost_model.specs.core.Query.{Query}
use Rattle.ghost_model.specs.refusals.QueryMeaning.{Refusal}
use Rattle.ghost_model.specs.readings.QueryReading.{reading}
use Rattle.ghost_model.specs.core.Channel.{Ask}
use Rattle.ghost_model.specs.core.Asks.{asks_of, row_width}
use Rattle.ghost_model.specs.core.Replies.{Reply}
use Rattle.ghost_model.specs.forms.Runs.{pages_of}
use Rattle.ghost_model.specs.forms.QueryWork.{honest_rows, work}

-- the pages of the spool that a reply fills, as a run of its rows, the last of them begun or full; and those of an honest one to an ask
abbrev pub pages_of_reply : Schema → Reply → ℕ
pages_of_reply schema reply = pages_of (length reply.rows) (row_width schema reply.ask)

abbrev pub reply_pages : Schema → Database → Ask → ℕ
reply_pages schema database ask = pages_of (length (honest_rows schema database ask)) (row_width schema ask)

abbrev pub query_calls : Schema → Database → Query → ℕ
query_calls schema database asked =
    work schema database asked + 2 * sum_by (reply_pages schema database) (asks_of schema asked)

-- a text that is refused takes none
abbrev pub reading_calls : Schema → Database → Result Query Refusal → ℕ
reading_calls schema database (Ok asked) = query_calls schema database asked
reading_calls schema database (Err refusal) = 0

abbrev pub text_calls : Schema → Database → (text : List ℕ) → ℕ
text_calls schema database text = reading_calls schema database (reading schema text)

-- those of all texts
abbrev pub session_calls : Schema → Database → (texts : List (List ℕ)) → ℕ
session_calls schema database texts = sum_by (text_calls schema database) texts
