-- What the reply to an ask is made of.
use Rattle.std.specs.Prelude.{◌≡◌, ℕ, true, List, Some, slice_index}
use Rattle.ghost_model.specs.core.Channel as channel
use Rattle.ghost_model.specs.core.Asks.{is_proper_ask}
use Rattle.ghost_model.specs.readings.AskReading.{ask_in}
use Rattle.host_exec.specs.RowBytes.{form_of}
use Rattle.host_exec.specs.FormViews.{form_view}
use Rattle.host_exec.specs.declared.reply.Reply.{Reply}

pub record TakesAsk (catalog : channel.Catalog) (starts payload : List ℕ) (reply : Reply) : Type 0 where
  pub ask : channel.Ask
  pub read : ask_in catalog.schema payload ≡ Some ask
  pub proper : is_proper_ask catalog.schema ask ≡ true
  pub form : form_view reply.form ≡ form_of catalog.schema ask
  pub start : reply.start ≡ slice_index starts ask.table
  pub rows : reply.rows ≡ slice_index catalog.counts ask.table
  pub none : reply.piece.rows ≡ 0
