use Rattle.std.proofs.Common.{◌≡◌, ◌≤◌, Some, MatchBool, false}
use Rattle.host_exec.specs.declared.stage.Stage.TheVariants as stage
use Rattle.ghost_model.specs.core.Causes.{Rose}
use Rattle.edge_traits.specs.Counting.{WentCounting}
use Rattle.edge_traits.specs.Files.{file_of}
use Rattle.host_exec.specs.Hosts.{IsSameHost, StandsAs, name_of, steps_of}
use Rattle.host_exec.proofs.Speaking.{SpeaksSoFar}
use Rattle.host_exec.proofs.host.Host.speak.Given as goal

abbrev pub invariant-frames : goal.invariant-frames
invariant-frames g l = record {
  same : IsSameHost l.fn.self l.self;
  contents : g.D.Depot.contents l.depot ≡ g.D.Depot.contents l.fn.depot;
  appends : g.D.Depot.append_faults l.depot ≡ g.D.Depot.append_faults l.fn.depot;
  sure : g.D.Depot.sure l.fn.depot (name_of l.fn.self) → g.D.Depot.sure l.depot (name_of l.self);
  calm : g.D.Depot.sure l.fn.depot (name_of l.fn.self) → g.D.Depot.faults l.depot ≡ g.D.Depot.faults l.fn.depot;
  granted : g.D.Depot.sure l.fn.depot (name_of l.fn.self) → l.refused ≡ false;
  never_falls : g.D.Depot.faults l.fn.depot ≤ g.D.Depot.faults l.depot;
  nearer : steps_of l.self ≤ steps_of l.fn.self;
  over : l.self.stage ≡ stage.Over → l.fn.self.stage ≡ stage.Over;
  told : MatchBool l.refused (Rose (g.D.Depot.faults l.fn.depot) (g.D.Depot.faults l.depot)) (g.D.Depot.faults l.depot ≡ g.D.Depot.faults l.fn.depot);
  speaks : SpeaksSoFar (λ journal. WentCounting (λ one. g.L.Link.went l.fn.link one l.link) (g.L.Link.faults l.fn.link) (g.L.Link.faults l.link) journal) (g.D.Depot.faults l.fn.depot) (g.D.Depot.faults l.depot)
      (λ file owed stand. (file_of (g.D.Depot.contents l.fn.depot) (name_of l.fn.self) ≡ Some file) × StandsAs l.fn.self file owed stand) l.fn.self l.self;
}

abbrev pub decreases-frames : goal.decreases-frames
decreases-frames g l = steps_of l.self
