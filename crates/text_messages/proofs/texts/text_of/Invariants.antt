use Rattle.std.proofs.Common.{◌≡◌, ◌-◌, ◌≤◌, drop}
use Rattle.ghost_model.specs.core.Texts.{texts_of}
use Rattle.text_messages.proofs.texts.text_of.Given as goal

abbrev pub invariant-loop : goal.invariant-loop
invariant-loop l =
    (1 ≤ l.counter) × (l.counter - 1 ≤ l.number - 1) × (l.texts ≡ drop (l.counter - 1) (texts_of l.script))
