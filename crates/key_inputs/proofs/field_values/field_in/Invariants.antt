use Rattle.std.proofs.Common.{◌≡◌, ◌-◌, ◌≤◌, drop}
use Rattle.ghost_model.specs.core.Database.{records_of}
use Rattle.key_inputs.proofs.field_values.field_in.Given as goal

abbrev pub invariant-loop : goal.invariant-loop
invariant-loop l =
    (1 ≤ l.counter) × (l.counter - 1 ≤ l.end - 1) × (l.records ≡ drop (l.counter - 1) (records_of l.file))
