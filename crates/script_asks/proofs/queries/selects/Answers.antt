use Rattle.std.proofs.Common.{◌∙◌}
use Rattle.ghost_model.specs.laws.ShortWords as short
use Rattle.ghost_model.specs.core.Asks as asks
use Rattle.spj_parse.specs.Views.{field_of}
use Rattle.script_asks.proofs.QueryLemmas.{any_map}
use Rattle.script_asks.proofs.queries.selects.Goals as goal

pub returns : goal.returns
returns c = c.has_field.ensures ∙ any_map field_of (short.is_field c.args.table c.args.column) c.args.select.now
