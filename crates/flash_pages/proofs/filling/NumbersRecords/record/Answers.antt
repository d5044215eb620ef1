use Rattle.std.proofs.Common.{◌∙◌, ap, sym, length, [], arith}
use Rattle.std.proofs.lemmas.List.{take_at, get_or-map, length-map}
use Rattle.ghost_model.specs.forms.Runs.{number_cell}
use Rattle.flash_pages.proofs.filling.NumbersRecords.record.Goals as goal

pub returns : goal.returns
returns c =
    let numbers = c.args.self.now.numbers.now in
    let cell = c.copy_from_slice.ensures.after ∙ c.to_be_bytes.ensures in
    take_at c.copy_from_slice.new.self _ 4 (ap (λ b. length b) cell)
    ∙ cell
    ∙ sym (get_or-map number_cell numbers c.args.i 0 [] (omega (arith, c.requires, length-map numbers number_cell)))
