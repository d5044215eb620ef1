use Rattle.std.proofs.Common.{◌≡◌, ◌-◌, ◌^◌, ℕ, List}
use Rattle.ghost_model.specs.core.Asks.{asked_of}
use Rattle.ghost_model.specs.core.Texts.{texts_of}
use Rattle.key_audit.specs.Journals.{HasPassed}
use Rattle.key_audit.specs.Windows.{StandsBehind}
use Rattle.key_audit.proofs.journal.audit_journal.Given as goal

abbrev pub invariant-lines : goal.invariant-lines
invariant-lines g l = record {
  same : g.D.Depot.contents l.depot ≡ g.D.Depot.contents l.fn.depot;
  faults : g.D.Depot.faults l.depot ≡ g.D.Depot.faults l.fn.depot;
  appends : g.D.Depot.append_faults l.depot ≡ g.D.Depot.append_faults l.fn.depot;
  stays_sure : (other : List ℕ) → g.D.Depot.sure l.fn.depot other → g.D.Depot.sure l.depot other;
  passed : List ℕ;
  stands : StandsBehind (g.D.Depot.contents l.fn.depot) l.name passed l.window;
  has : HasPassed l.cat (asked_of l.cat.schema (texts_of l.script)) passed l.audit l.moves;
}

abbrev pub decreases-lines : goal.decreases-lines
decreases-lines g l = 2 ^ 32 - l.window.passed
