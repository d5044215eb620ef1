use Rattle.std.proofs.Common.{refl, sym, ◌∙◌}
use Rattle.channel_pump.proofs.ListLemmas.{not_empty}
use Rattle.channel_pump.proofs.TurningLemmas.{asks_on}
use Rattle.channel_pump.proofs.state.Pump.go_on_with.Goals as goal

pub returns-else-is_empty-clause-turned : goal.returns-else-is_empty-clause-turned
returns-else-is_empty-clause-turned c catalog asks h =
    asks_on catalog _ c.args.serial asks refl refl refl refl refl (not_empty c.args.self.now.rest (sym c.is_empty.ensures.none ∙ c.if-is_empty.false)) h
