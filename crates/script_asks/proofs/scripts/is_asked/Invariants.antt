use Rattle.std.proofs.Common.{◌≡◌, ◌≤◌, ◌+◌, ◌==◌, length, map}
use Rattle.std.specs.List.{list_any}
use Rattle.ghost_model.specs.core.Asks as asks
use Rattle.ghost_model.specs.core.Asks.{NumberedAsk}
use Rattle.ghost_model.specs.readings.QueryReading.{reading}
use Rattle.script_asks.proofs.scripts.is_asked.Given as goal

abbrev pub invariant-texts : goal.invariant-texts
invariant-texts l = record {
  same : list_any (λ (a : NumberedAsk). a.text == l.text) (asks.asked_from l.schema (l.number + 1) (map (reading l.schema) l.texts))
      ≡ list_any (λ (a : NumberedAsk). a.text == l.text) (asks.asked_from l.schema (l.fn.number + 1) (map (reading l.schema) l.fn.texts));
  few : l.number + length l.texts ≤ 64;
}

abbrev pub decreases-texts : goal.decreases-texts
decreases-texts l = length l.texts
