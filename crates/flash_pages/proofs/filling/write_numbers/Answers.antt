use Rattle.std.proofs.Common.{ap, length, [], arith}
use Rattle.std.proofs.lemmas.List.{get_or-map, length-map}
use Rattle.ghost_model.specs.forms.Runs.{number_cell}
use Rattle.flash_pages.proofs.filling.write_numbers.Goals as goal

pub write_run-requires-clause-widths : goal.write_run-requires-clause-widths
write_run-requires-clause-widths g c = λ i within.
    ap (λ b. length b)
    (get_or-map number_cell c.args.numbers.now i 0 [] (omega (arith, within, length-map c.args.numbers.now number_cell)))
