use Rattle.std.proofs.Common.{◌<◌, ◌≤◌, MatchOption, map, ap, subst, ◌∙◌, inl, inr}
use Rattle.std.specs.Prelude.{⊤}
use Rattle.ghost_base.specs.Views.{kind_of}
use Rattle.edge_traits.specs.Files.{file_of}
use Rattle.host_exec.specs.Checked.{GoodRows, BadRow}
use Rattle.host_exec.proofs.Groups.{side}
use Rattle.host_exec.proofs.checking.check_rows.Goals as goal

pub returns-in-None-clause-checked : goal.returns-in-None-clause-checked
returns-in-None-clause-checked g c file is =
    let there = ap (λ k. file_of k c.args.name.now) c.pieces.invariant.same ∙ is in
    subst (λ o. MatchOption o (BadRow (map kind_of c.args.kinds.now) file c.args.start c.args.width c.args.rows) (λ n. GoodRows (map kind_of c.args.kinds.now) file c.args.start c.args.width c.pieces.next n))
    c.in-None.is (c.in_ok-check_piece.ensures.checked file there)

pub pieces-preserved : goal.pieces-preserved
pieces-preserved g c =
    let on = subst (λ o. MatchOption o ⊤ (λ n. (c.pieces.next < n) × (n ≤ c.args.rows))) c.in-Some.is c.in_ok-check_piece.ensures.goes_on in
    record {
      same = c.in_ok-check_piece.ensures.same ∙ c.pieces.invariant.same;
      faults = c.in_ok-check_piece.ensures.cause.other ∙ c.pieces.invariant.faults;
      appends = c.in_ok-check_piece.ensures.appends ∙ c.pieces.invariant.appends;
      sure = λ is. c.in_ok-check_piece.ensures.stays_sure (c.pieces.invariant.sure is);
      within = on.1;
      good = λ file is row low high.
          (let there = ap (λ k. file_of k c.args.name.now) c.pieces.invariant.same ∙ is in
          let later = subst (λ o. MatchOption o (BadRow (map kind_of c.args.kinds.now) file c.args.start c.args.width c.args.rows) (λ n. GoodRows (map kind_of c.args.kinds.now) file c.args.start c.args.width c.pieces.next n))
          c.in-Some.is (c.in_ok-check_piece.ensures.checked file there) in
          elim (side row c.pieces.next) [ inl h ↦ c.pieces.invariant.good file is row low h | inr h ↦ later row h high ]);
    }
