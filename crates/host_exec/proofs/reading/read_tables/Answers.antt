use Rattle.std.proofs.Common.{length, ap, refl, ◌∙◌, arith}
use Rattle.ghost_model.specs.core.Split.{Public}
use Rattle.host_exec.proofs.ReadTables.{no_tables, one_read}
use Rattle.host_exec.proofs.reading.read_tables.Goals as goal

pub tables-init : goal.tables-init
tables-init g c = record {
  same = refl;
  faults = refl;
  appends = refl;
  sure = λ is. is;
  within = omega arith;
  read = no_tables (g.D.Depot.contents c.args.depot.now) c.args.name.now c.args.cat.now c.new-public.result.visible (ap (λ (p : Public). p.visible) c.new-public.ensures);
}

pub tables-preserved : goal.tables-preserved
tables-preserved g c = record {
  same = c.in_ok-part.ensures.same ∙ c.tables.invariant.same;
  faults = c.in_ok-part.ensures.cause.other ∙ c.tables.invariant.faults;
  appends = c.in_ok-part.ensures.appends ∙ c.tables.invariant.appends;
  sure = λ is. c.in_ok-part.ensures.stays_sure (c.tables.invariant.sure is);
  within = omega (arith, c.tables-test.true);
  read = one_read (g.D.Depot.contents c.args.depot.now) (g.D.Depot.contents c.tables.depot) c.args.name.now c.args.cat.now c.tables.table c.tables.public.visible c.push.new.self.visible
      c.in_ok-part.part c.tables.invariant.same c.schema.ensures.catalog.one_each (omega (arith, c.tables-test.true, c.tables-tables.ensures.count, ap length c.schema.ensures.value))
      c.tables.invariant.read c.in_ok-part.ensures.read (ap (λ (p : Public). p.visible) c.in_ok-push.ensures);
}
