use Rattle.std.proofs.Common.{◌≡◌, ◌∙◌, ◌<◌, ◌+◌, ap, sym, length, take, slice_index, arith}
use Rattle.std.specs.Prelude.{unwrap_or}
use Rattle.std.specs.List.{sum}
use Rattle.std.proofs.lemmas.Option.{unwrap_or-slice_get}
use Rattle.key_load.proofs.Sums.{one_longer}
use Rattle.key_load.proofs.line.rows_of.Goals as goal

pub loop-table-preserved : goal.loop-table-preserved
loop-table-preserved c =
    let counts = c.args.cat.now.counts in
    let table = c.loop-table.table in
    let tables = ap length c.schema.ensures.value in
    let one_each = c.schema.ensures.catalog.one_each in
    let less : table < length counts = omega (arith, c.loop-table-test.true, c.tables-table-end.ensures.count, tables, one_each) in
    let value : c.from-rows.result ≡ slice_index counts table =
    c.from-rows.ensures ∙ (c.unwrap_or.ensures ∙ (ap (λ rows. unwrap_or rows 0) c.rows.ensures ∙ unwrap_or-slice_get counts table 0)) in
    let most = c.a_catalog_has_a_layout.ensures.layout.few.rows table in
    let few = c.loop-table.invariant.few in
    record {
      same = ap (λ n. n + c.from-rows.result) c.loop-table.invariant.same ∙ (ap (λ n. sum (take table counts) + n) value ∙ sym (one_longer counts table less));
      few = omega (arith, value, most, few);
    }
