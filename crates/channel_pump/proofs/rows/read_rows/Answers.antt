use Rattle.std.proofs.Common.{◌≡◌, ℕ, ◌/◌, false, List, length, take, ap, sym, ◌∙◌, subst, arith}
use Rattle.ghost_model.specs.core.Asks.{row_in, rows_from}
use Rattle.ghost_model.specs.core.NextMove.{rows_fit, last_identifier}
use Rattle.channel_pump.specs.Forms.{form_of}
use Rattle.channel_pump.specs.Asked.{form_kinds, width_of, rows_with}
use Rattle.channel_pump.proofs.RowLemmas.{row_test, rows_none, rows_count, fits_none, fits_not, row_read, width_step}
use Rattle.channel_pump.proofs.rows.read_rows.Goals as goal

pub returns-then-not-row_fits-clause-fits : goal.returns-then-not-row_fits-clause-fits
returns-then-not-row_fits-clause-fits c =
    let fails : row_test c.args.form.now.rows c.rows.before (form_kinds (form_of c.args.form.now)) (row_in c.split_at.result.0.now) ≡ false =
    sym c.row_fits.ensures ∙ c.if-not-row_fits.true in
    let test : row_test c.args.form.now.rows c.rows.before (form_kinds (form_of c.args.form.now)) (row_in (take c.row_width-width.result c.rows.rest.now)) ≡ false =
    subst (λ (x : List ℕ). row_test c.args.form.now.rows c.rows.before (form_kinds (form_of c.args.form.now)) (row_in x) ≡ false) c.split_at.ensures.front fails in
    sym (sym c.rows.invariant.left.same
    ∙ fits_not c.args.form.now.rows c.rows.before c.row_width-width.result c.rows.left (form_kinds (form_of c.args.form.now)) c.rows.rest.now c.rows-test.true test)

pub rows-preserved : goal.rows-preserved
rows-preserved c = record {
  left = row_read _ _ _ _ _ _ _ _ _ _ _ _ c.rows.invariant.left c.rows-test.true c.split_at.ensures.front c.split_at.ensures.back
      (sym c.row_fits.ensures ∙ c.if-not-row_fits.false) c.number_in-before.ensures;
  count = omega (arith, c.rows.invariant.count, c.rows-test.true);
  room = width_step c.rows.left c.row_width-width.result c.rows.rest.now c.split_at.result.1.now c.rows-test.true c.rows.invariant.room c.split_at.ensures.back;
}

pub returns-clause-fits : goal.returns-clause-fits
returns-clause-fits c =
    let none : c.rows.left ≡ 0 = omega (arith, c.rows-test.false) in
    sym (sym c.rows.invariant.left.same
    ∙ (ap (λ (n : ℕ). rows_fit c.args.form.now.rows c.rows.before (form_kinds (form_of c.args.form.now)) (rows_from c.row_width-width.result n c.rows.rest.now)) none
    ∙ (ap (rows_fit c.args.form.now.rows c.rows.before (form_kinds (form_of c.args.form.now))) (rows_none c.row_width-width.result c.rows.rest.now)
    ∙ fits_none c.args.form.now.rows c.rows.before (form_kinds (form_of c.args.form.now)))))

pub returns-clause-tally : goal.returns-clause-tally
returns-clause-tally c =
    let none : c.rows.left ≡ 0 = omega (arith, c.rows-test.false) in
    let counted : length (rows_with (form_kinds (form_of c.args.form.now)) c.args.payload.now) ≡ length c.args.payload.now / width_of (form_kinds (form_of c.args.form.now)) =
    rows_count (width_of (form_kinds (form_of c.args.form.now))) (length c.args.payload.now / width_of (form_kinds (form_of c.args.form.now))) c.args.payload.now in
    record {
      rows = omega (arith, counted, c.rows.invariant.count, none);
      last = ap (λ (all : _). last_identifier c.rows.before all) (sym (rows_none c.row_width-width.result c.rows.rest.now))
          ∙ (ap (λ (n : ℕ). last_identifier c.rows.before (rows_from c.row_width-width.result n c.rows.rest.now)) (sym none)
          ∙ c.rows.invariant.left.final);
      above = c.rows.invariant.left.above;
      within = c.rows.invariant.left.within;
    }
