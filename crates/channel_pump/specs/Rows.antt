-- What is counted of the rows of one frame.
use Rattle.std.specs.Prelude.{◌≡◌, ℕ, ◌+◌, ◌≤◌, ◌<◌, List, length}
use Rattle.ghost_model.specs.core.Asks.{RowCells}
use Rattle.ghost_model.specs.core.NextMove.{last_identifier}
use Rattle.channel_pump.specs.declared.rows.Tally.{Tally}

-- the tally of some rows that come after one with the identifier `before`, of a table with `most` rows
pub record IsTally (before most : ℕ) (all : List RowCells) (tally : Tally) : Type 0 where
  pub rows : tally.rows ≡ length all
  pub last : tally.last ≡ last_identifier before all
  pub above : before + tally.rows ≤ tally.last
  pub within : 0 < tally.rows → tally.last ≤ most
