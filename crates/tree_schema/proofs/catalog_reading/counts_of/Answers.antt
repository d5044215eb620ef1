use Rattle.std.proofs.Common.{◌<◌, IsTrue, List, [], ◌∷◌, ◌++◌, length, sym, ap, ◌∙◌, subst, arith}
use Rattle.std.proofs.lemmas.Bool.{le-leb}
use Rattle.ghost_model.specs.forms.Catalog.{counts_bytes}
use Rattle.tree_schema.specs.Catalogs.{are_counts}
use Rattle.tree_schema.proofs.CountsLemmas.{next, counts_more}
use Rattle.tree_schema.proofs.catalog_reading.counts_of.Goals as goal

pub returns-in_default-clause-only : goal.returns-in_default-clause-only
returns-in_default-clause-only c = λ counts later one few e.
    let found = c.loop-rest.counts.items in
    let less : length found < length counts = omega (arith, c.len.ensures.value, one, c.loop-rest-test.true) in
    let more = next found c.loop-rest.rest.now counts later (c.loop-rest.invariant.goes_on counts later one few e) less few in
    c.in_default.ensures.only more.count (counts_bytes more.left ++ later) more.front

pub loop-rest-preserved : goal.loop-rest-preserved
loop-rest-preserved c =
    let found = c.loop-rest.counts.items in
    record {
      few = omega (arith, c.push.ensures.len, c.len.ensures.value, c.loop-rest-test.true);
      within = subst (λ (xs : List _). IsTrue (are_counts xs)) (sym c.push.ensures.items)
          (counts_more found c.in-Some.rows c.loop-rest.invariant.within (le-leb c.in-Some.rows 1000000 c.in-Some.ensures.found.within));
      goes_on = λ counts later one few e.
          let less : length found < length counts = omega (arith, c.len.ensures.value, one, c.loop-rest-test.true) in
          let more = next found c.loop-rest.rest.now counts later (c.loop-rest.invariant.goes_on counts later one few e) less few in
          let same = c.in-Some.ensures.only more.count (counts_bytes more.left ++ later) more.front in
          record {
            left = more.left;
            whole = more.whole ∙ ap (λ (xs : List _). xs ++ more.left) (ap (λ y. found ++ y ∷ []) (sym same.0) ∙ sym c.push.ensures.items);
            bytes = same.1;
          };
    }
