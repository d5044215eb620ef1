use Rattle.std.proofs.Common.{◌≡◌, ◌≤◌, length, ◌+◌, ◌*◌, ◌/◌}
use Rattle.channel_pump.specs.Forms.{form_of}
use Rattle.channel_pump.specs.Asked.{form_kinds, width_of, rows_with}
use Rattle.channel_pump.proofs.RowLemmas.{RowsLeft}
use Rattle.channel_pump.proofs.rows.read_rows.Given as goal

abbrev pub invariant-rows : goal.invariant-rows
invariant-rows l = record {
  left : RowsLeft l.form.rows l.last (form_kinds (form_of l.form)) (rows_with (form_kinds (form_of l.form)) l.payload) l.width l.left l.before l.rows l.rest;
  count : l.rows + l.left ≡ length l.payload / width_of (form_kinds (form_of l.form));
  room : l.left * l.width ≤ length l.rest;
}

abbrev pub decreases-rows : goal.decreases-rows
decreases-rows l = l.left
