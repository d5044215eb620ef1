use Rattle.std.proofs.Common.{◌≡◌, Bool, MatchBool, length, ap, sym, subst, ◌∙◌, arith, inl, inr}
use Rattle.edge_traits.specs.Files.{file_of}
use Rattle.host_exec.specs.Checked.{GoodTable, BadTable}
use Rattle.host_exec.proofs.Groups.{side}
use Rattle.host_exec.proofs.checking.check_tables.Goals as goal

pub returns-then-not-branch-clause-checked : goal.returns-then-not-branch-clause-checked
returns-then-not-branch-clause-checked g c file is =
    let there = ap (λ k. file_of k c.args.name.now) c.tables.invariant.same ∙ is in
    let bad = subst (λ (b : Bool). MatchBool b (GoodTable c.args.catalog.now file c.tables.table) (BadTable c.args.catalog.now file c.tables.table)) c.if-not-branch.true (c.in_ok-check_table.ensures.checked file there) in
    (c.tables.table, omega (arith, c.tables-test.true, c.tables-tables.ensures.count, ap length c.schema.ensures.value), bad)

pub tables-preserved : goal.tables-preserved
tables-preserved g c = record {
  same = c.in_ok-check_table.ensures.same ∙ c.tables.invariant.same;
  faults = c.in_ok-check_table.ensures.cause.other ∙ c.tables.invariant.faults;
  appends = c.in_ok-check_table.ensures.appends ∙ c.tables.invariant.appends;
  sure = λ is. c.in_ok-check_table.ensures.stays_sure (c.tables.invariant.sure is);
  good = λ file is table inside.
      (let there = ap (λ k. file_of k c.args.name.now) c.tables.invariant.same ∙ is in
      let now = subst (λ (b : Bool). MatchBool b (GoodTable c.args.catalog.now file c.tables.table) (BadTable c.args.catalog.now file c.tables.table)) c.if-not-branch.false (c.in_ok-check_table.ensures.checked file there) in
      elim (side table c.tables.table) [
        | inl before ↦ c.tables.invariant.good file is table before
        | inr after ↦ (let same : table ≡ c.tables.table = omega (arith, inside, after) in subst (GoodTable c.args.catalog.now file) (sym same) now)
      ]);
}
