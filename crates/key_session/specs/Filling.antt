-- How many pages of the spool are filled by what was heard: by the replies that came whole, and by the rows of the one at hand.
use Rattle.std.specs.Prelude.{◌≡◌, ℕ, ◌+◌, ◌*◌, ◌/◌, ◌≤◌, false, List, length, sum_by, Option, Some, None}
use Rattle.ghost_model.specs.core.Schema.{Schema}
use Rattle.ghost_model.specs.core.Asks.{NumberedAsk, row_width}
use Rattle.ghost_model.specs.core.Lines.{was_refused}
use Rattle.ghost_model.specs.core.NextMove.{Heard}
use Rattle.ghost_model.specs.forms.Runs.{per_page}
use Rattle.edge_traits.specs.Devices.{Device}
use Rattle.channel_pump.specs.Sessions.{asked_in}
use Rattle.session_laws.specs.HonestSessions.{replies_in}
use Rattle.key_session.specs.Calls.{pages_of_reply}
use Rattle.key_session.specs.Kept.{is_lost}
use Rattle.key_session.specs.declared.replies.Replies.{Replies}

-- the pages that are full of the rows of an ask, by their bytes
abbrev pub full_pages : Schema → Option NumberedAsk → (rows : List ℕ) → ℕ
full_pages schema None rows = 0
full_pages schema (Some asked) rows = length rows / row_width schema asked.ask / per_page (row_width schema asked.ask)

abbrev pub pages_heard : Schema → Heard → ℕ
pages_heard schema heard =
    sum_by (pages_of_reply schema) (replies_in schema heard.ended) + full_pages schema (asked_in heard.awaits) heard.rows

-- The flash is called twice at most for each page that is filled by what is heard, as long as the host refuses no ask, and no text that
-- was not told yet is marked.
abbrev pub FillsPages : Schema → (low : ℕ) → (before after : Heard) → (flash now : Device) → Replies → Type 0
FillsPages schema low before after flash now replies =
    was_refused after.ended ≡ false → ((text : ℕ) → low ≤ text → is_lost replies text ≡ false)
    → now.calls + 2 * pages_heard schema before ≤ flash.calls + 2 * pages_heard schema after
