use Rattle.std.proofs.Common.{◌≡◌, ◌≤◌, ◌+◌, ◌*◌, length, map, sum}
use Rattle.ghost_model.specs.core.Asks as asks
use Rattle.ghost_model.specs.forms.Cells.{cell_width}
use Rattle.channel_codec.specs.AskViews.{ask_view}
use Rattle.channel_codec.proofs.ask.row_width.Given as goal

abbrev pub invariant-columns : goal.invariant-columns
invariant-columns l = record {
  counted : l.width + sum (map cell_width (map (asks.kind_at l.schema l.ask.table) l.rest)) ≡ asks.row_width l.schema (ask_view l.ask);
  some : 4 ≤ l.width;
  most : l.width + 65 * length l.rest ≤ 1564;
}

abbrev pub decreases-columns : goal.decreases-columns
decreases-columns l = length l.rest
