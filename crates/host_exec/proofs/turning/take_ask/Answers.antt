use Rattle.std.proofs.Common.{◌≡◌, Some, ap, sym, ◌∙◌}
use Rattle.ghost_model.specs.core.Schema.{Schema}
use Rattle.ghost_model.specs.readings.AskReading.{ask_in}
use Rattle.ghost_model.proofs.ChannelLemmas.Asks.{read_ask_is_proper}
use Rattle.channel_codec.specs.AskViews.{ask_view}
use Rattle.host_exec.specs.RowBytes.{form_of}
use Rattle.host_exec.proofs.turning.take_ask.Goals as goal

pub returns-clause-taken : goal.returns-clause-taken
returns-clause-taken c =
    let read : ask_in c.args.catalog.now.schema c.args.payload.now ≡ Some (ask_view c.in_ok-ask.ask) =
    ap (λ (s : Schema). ask_in s c.args.payload.now) (sym c.schema-schema.ensures.value) ∙ sym c.in_ok-ask.ensures.ask in
    record {
      ask = ask_view c.in_ok-ask.ask;
      read = read;
      proper = read_ask_is_proper c.args.catalog.now.schema c.args.payload.now (ask_view c.in_ok-ask.ask) read;
      form = c.reply_of.ensures.form ∙ ap (λ (s : Schema). form_of s (ask_view c.in_ok-ask.ask)) c.schema-schema.ensures.value;
      start = c.reply_of.ensures.start ∙ c.start_of-start.ensures.start;
      rows = c.reply_of.ensures.rows ∙ c.rows_of-rows.ensures.rows;
      none = c.reply_of.ensures.none;
    }
