-- What the codec's asks are as asks of the channel.
use Rattle.std.specs.Prelude.{ℕ, Bool, map}
use Rattle.ghost_model.specs.core.Schema.{Schema}
use Rattle.ghost_model.specs.core.Channel as channel
use Rattle.ghost_model.specs.core.Asks.{kind_at, fits_kind}
use Rattle.ghost_base.specs.Views.{test_of}
use Rattle.channel_codec.specs.declared.ask.Ask.{Ask}
use Rattle.channel_codec.specs.declared.ask.ColumnTest.{ColumnTest}

abbrev pub test_view : ColumnTest → channel.ColumnTest
test_view test = record { column = test.column; test = test_of test.test; more = test.more }

abbrev pub ask_view : Ask → channel.Ask
ask_view ask = record { table = ask.table; columns = ask.columns.items; tests = map test_view ask.tests.items }

-- whether the literal of a condition, where there is one, is of the column's kind but for NULL
abbrev pub has_kind : Schema → (table : ℕ) → channel.ColumnTest → Bool
has_kind schema table test = fits_kind (kind_at schema table test.column) test.test
