use Rattle.std.proofs.Common.{◌∙◌, ◌∷◌, [], ◌++◌, ◌<◌, ap, sym, subst, List, IsTrue, length, take, arith}
use Rattle.std.proofs.lemmas.Bool.{le-leb}
use Rattle.std.proofs.lemmas.List.{take_more, take_all, length-map}
use Rattle.ghost_model.specs.core.Database.{row_counts}
use Rattle.ghost_model.proofs.FlashLemmas.Values.{count_there}
use Rattle.tree_schema.specs.Catalogs.{are_counts}
use Rattle.tree_schema.proofs.CountsLemmas.{counts_more}
use Rattle.flash_build.proofs.catalogs.counts_of.Goals as goal

pub loop-table-preserved : goal.loop-table-preserved
loop-table-preserved c =
    let was = c.loop-table.invariant in
    let tables = c.args.tables.now in
    let table = c.loop-table.table in
    let counts = row_counts tables in
    let less : table < length counts =
    omega (arith, c.loop-table-test.true, c.tables-table-end.ensures.count, c.requires, length-map tables length) in
    record {
      size = omega (arith, c.push.ensures.len, was.size);
      counts =
          c.push.ensures.items
          ∙ (ap (λ (xs : List _). xs ++ c.rows.result ∷ []) was.counts
          ∙ (ap (λ n. take table counts ++ n ∷ []) (c.rows.ensures.count ∙ sym (count_there tables table)) ∙ sym (take_more counts table 0 less)));
      within =
          subst (λ (xs : List _). IsTrue (are_counts xs)) (sym c.push.ensures.items)
          (counts_more c.loop-table.counts.items c.rows.result was.within (le-leb c.rows.result 1000000 c.rows.ensures.few));
    }

pub returns-clause-counts : goal.returns-clause-counts
returns-clause-counts c =
    let tables = c.args.tables.now in
    c.loop-table.invariant.counts
    ∙ take_all c.loop-table.table (row_counts tables)
    (omega (arith, c.requires, c.tables-table-end.ensures.count, c.loop-table.auto.table-end, c.loop-table-test.false, length-map tables length))
