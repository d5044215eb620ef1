use Rattle.std.proofs.Common.{◌≡◌, ◌<◌, ◌≤◌, ℕ, List, true, false}
use Rattle.std.specs.Prelude.{◌-◌, ◌+◌}
use Rattle.edge_traits.specs.Devices.{Counts}
use Rattle.id_merge.specs.Since.{Since, IsSince}
use Rattle.spill_pass.specs.Works.{Goal, LiesWithin, StillCosts, WorkGoes}
use Rattle.spill_pass.proofs.works.slice.go_on.Given as goal

abbrev pub invariant-steps : goal.invariant-steps
invariant-steps g l = record {
  begun : l.before ≡ l.fn.spent;
  counted : Counts (l.spent - l.fn.spent) (g.F.Flash.state l.fn.flash).calls (g.F.Flash.state l.flash).calls;
  rises : l.fn.spent ≤ l.spent;
  most : l.spent ≤ l.fn.spent + 8;
  faults : (g.F.Flash.state l.flash).faults ≡ (g.F.Flash.state l.fn.flash).faults;
  ready : g.W.Work.ready g.F.Flash.told (g.F.Flash.state l.flash) l.pool l.work false;
  goes : WorkGoes (g.W.Work.unwritten l.fn.work) (g.F.Flash.state l.fn.flash) (g.F.Flash.state l.flash) l.fn.pool l.pool (g.W.Work.leases l.fn.work) (g.W.Work.leases l.work);
  lies : LiesWithin (g.W.Work.outside l.fn.work) (g.W.Work.outside l.work) (g.W.Work.unwritten l.fn.work) (g.W.Work.unwritten l.work);
  rows : g.W.Work.rows l.work ≡ g.W.Work.rows l.fn.work;
  same : g.W.Work.same l.fn.work l.work;
  fewer : g.W.Work.left l.pool l.work ≤ g.W.Work.left l.fn.pool l.fn.work;
  later : l.fn.spent < l.spent → g.W.Work.left l.pool l.work < g.W.Work.left l.fn.pool l.fn.work;
  less : (page : ℕ → List ℕ) → (among number slot found : ℕ) → g.W.Work.damaged page among l.work number slot found → g.W.Work.damaged page among l.fn.work number slot found;
  has : g.F.Flash.told ≡ true → (goal : Goal) → g.W.Work.has g.F.Flash.told (g.F.Flash.state l.fn.flash).page l.fn.pool l.fn.work false goal
      → g.W.Work.has g.F.Flash.told (g.F.Flash.state l.flash).page l.pool l.work false goal;
  given : (since : Since) → (size : ℕ) → IsSince g.F.Flash.told (g.F.Flash.state l.fn.flash) since
      → g.W.Work.given since size (g.F.Flash.state l.fn.flash) l.fn.pool l.fn.work false → g.W.Work.given since size (g.F.Flash.state l.flash) l.pool l.work false;
  costs : g.F.Flash.told ≡ true → (goal : Goal) → (most : ℕ) → g.W.Work.costs g.F.Flash.told (g.F.Flash.state l.fn.flash).page l.fn.pool l.fn.work goal most
      → StillCosts (g.W.Work.costs g.F.Flash.told (g.F.Flash.state l.flash).page l.pool l.work goal) l.fn.spent l.spent most;
}

abbrev pub decreases-steps : goal.decreases-steps
decreases-steps g l = g.W.Work.left l.pool l.work
