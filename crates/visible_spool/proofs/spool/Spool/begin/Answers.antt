use Rattle.std.proofs.Common.{◌≤◌, subst, sym, refl}
use Rattle.ghost_model.specs.core.Channel.{Catalog}
use Rattle.ghost_model.specs.forms.Layout as layout
use Rattle.page_pool.specs.Pools.{IsOut}
use Rattle.visible_spool.proofs.spool.Spool.begin.Goals as goal

pub returns-clause-ready : goal.returns-clause-ready
returns-clause-ready c = λ device pool need small out. record {
  out = subst (λ n. IsOut pool n) (sym c.begin.ensures.lease) out;
  areas = c.areas_of.ensures.writable device (subst (λ (cat : Catalog). layout.need cat ≤ device.page_count) (sym c.of.ensures.catalog) need);
  few = c.areas_of.ensures.few;
  small = small;
  hand = λ some. absurd (some refl);
}
