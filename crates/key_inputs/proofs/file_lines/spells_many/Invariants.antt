use Rattle.std.proofs.Common.{◌≡◌, ◌≤◌, drop, length}
use Rattle.ghost_model.specs.core.Database.{records_of}
use Rattle.key_inputs.proofs.file_lines.spells_many.Given as goal

abbrev pub invariant-loop : goal.invariant-loop
invariant-loop l =
    (l.counter ≤ l.count) × (l.counter ≤ length (records_of l.text)) × (l.records ≡ drop l.counter (records_of l.text))
