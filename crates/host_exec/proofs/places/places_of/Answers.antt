use Rattle.std.proofs.Common.{◌≡◌, ◌<◌, ◌+◌, ◌^◌, suc, length, All, ap, sym, subst, ◌∙◌, arith}
use Rattle.std.proofs.lemmas.List.Elements.{All-push}
use Rattle.host_exec.specs.RowBytes.{table_start}
use Rattle.host_exec.proofs.ImageTables.{start_none, start_more}
use Rattle.host_exec.proofs.Numbers.{pushed_at}
use Rattle.host_exec.proofs.places.places_of.Goals as goal

pub tables-init : goal.tables-init
tables-init c = record {
  within = omega arith;
  count = ap length c.new-starts.ensures;
  end = c.catalog_len-end.ensures.value ∙ sym (start_none c.args.catalog.now);
  most = c.catalog_len-end.ensures.most;
  starts = λ table inside. absurd (omega (arith, inside));
  near = subst (All (λ start. start < 2 ^ 63)) (sym c.new-starts.ensures) (λ k d h. absurd (omega (arith, h)));
}

pub tables-preserved : goal.tables-preserved
tables-preserved c =
    let next : c.tables.table + 1 ≡ suc c.tables.table = omega arith in
    record {
      within = omega (arith, c.tables-test.true);
      count = omega (arith, c.push.ensures.len, c.tables.invariant.count);
      end = omega (arith, c.tables.invariant.end, c.table_bytes-end.ensures.bytes, start_more c.args.catalog.now c.tables.table) ∙ ap (table_start c.args.catalog.now) (sym next);
      most = omega (arith, c.tables.invariant.most, c.table_bytes-end.ensures.most);
      starts = pushed_at (λ table start. start ≡ table_start c.args.catalog.now table) c.tables.starts.items c.push.new.self.items c.tables.end c.tables.table c.push.ensures.items c.tables.invariant.count c.tables.invariant.starts c.tables.invariant.end;
      near = subst (All (λ start. start < 2 ^ 63)) (sym c.push.ensures.items)
          (All-push (λ start. start < 2 ^ 63) c.tables.starts.items c.tables.end c.tables.invariant.near (omega (arith, c.tables.invariant.most, c.tables-test.true, c.tables-tables.ensures.few)));
    }
