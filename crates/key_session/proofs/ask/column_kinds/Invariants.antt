use Rattle.std.proofs.Common.{◌≡◌, ◌≤◌, ◌+◌, ◌++◌, length, map, IsTrue}
use Rattle.std.specs.List.{list_all}
use Rattle.arrayvec.specs.ArrayVec.{array_vec_len}
use Rattle.ghost_model.specs.core.Asks as asks
use Rattle.ghost_base.specs.Views.{kind_of}
use Rattle.channel_codec.specs.AskViews.{ask_view}
use Rattle.visible_spool.specs.Replies.{is_narrow}
use Rattle.key_session.proofs.ask.column_kinds.Given as goal

abbrev pub invariant-columns : goal.invariant-columns
invariant-columns l = record {
  told : map kind_of l.kinds.items ++ map (asks.kind_at l.schema l.ask.table) l.rest ≡ asks.kinds_of l.schema (ask_view l.ask);
  narrow : IsTrue (list_all is_narrow (map kind_of l.kinds.items));
  room : array_vec_len l.kinds + length l.rest ≤ 24;
}

abbrev pub decreases-columns : goal.decreases-columns
decreases-columns l = length l.rest
