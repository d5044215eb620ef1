use Rattle.std.proofs.Common.{arith}
use Rattle.index_tests.proofs.rows.table_on.Goals as goal

pub returns : goal.returns
returns c = record {
  readable =
      c.of-2.ensures.readable _ (omega (arith, c.need.ensures.pages, c.pages.ensures, c.if-need-pages.false))
      (omega (arith, c.pages.ensures));
}
