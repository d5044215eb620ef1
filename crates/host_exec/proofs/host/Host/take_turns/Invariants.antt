use Rattle.std.proofs.Common.{◌≡◌, ◌≤◌, ◌+◌, ◌*◌, Some, MatchBool, false}
use Rattle.ghost_model.specs.core.Causes.{Rose}
use Rattle.edge_traits.specs.Counting.{WentCounting}
use Rattle.edge_traits.specs.Files.{file_of}
use Rattle.host_exec.specs.Hosts.{IsSameHost, Holds, name_of, steps_of}
use Rattle.host_exec.specs.declared.stage.Stage.TheVariants as stage
use Rattle.host_exec.proofs.Endings.{TurnsSoFar}
use Rattle.host_exec.proofs.host.Host.take_turns.Given as goal

abbrev pub invariant-turns : goal.invariant-turns
invariant-turns g l = record {
  same : IsSameHost l.fn.self l.self;
  contents : g.D.Depot.contents l.depot ≡ g.D.Depot.contents l.fn.depot;
  appends : g.D.Depot.append_faults l.depot ≡ g.D.Depot.append_faults l.fn.depot;
  sure : g.D.Depot.sure l.fn.depot (name_of l.fn.self) → g.D.Depot.sure l.depot (name_of l.self);
  calm : g.D.Depot.sure l.fn.depot (name_of l.fn.self) → g.D.Depot.faults l.depot ≡ g.D.Depot.faults l.fn.depot;
  granted : g.D.Depot.sure l.fn.depot (name_of l.fn.self) → l.failed ≡ false;
  never_falls : g.D.Depot.faults l.fn.depot ≤ g.D.Depot.faults l.depot;
  running : l.self.stage ≡ stage.Over → ⊥;
  fits : l.at + 2048 * steps_of l.self ≤ 18446744073709551615;
  told : MatchBool l.failed (Rose (g.D.Depot.faults l.fn.depot) (g.D.Depot.faults l.depot)) (g.D.Depot.faults l.depot ≡ g.D.Depot.faults l.fn.depot);
  turns : TurnsSoFar (λ journal. WentCounting (λ one. g.L.Link.went l.fn.link one l.link) (g.L.Link.faults l.fn.link) (g.L.Link.faults l.link) journal) l.at (g.D.Depot.faults l.fn.depot) (g.D.Depot.faults l.depot)
      (λ held file. (file_of (g.D.Depot.contents l.fn.depot) (name_of l.fn.self) ≡ Some file) × Holds held file l.fn.self) l.self;
}

abbrev pub decreases-turns : goal.decreases-turns
decreases-turns g l = steps_of l.self
