use Rattle.std.proofs.Common.{◌*◌, length, ap, sym, ◌∙◌}
use Rattle.flash_layout.proofs.layout.Layout.id_directory.Goals as goal

pub returns : goal.returns
returns c =
    let first = c.places.ensures.places.id_index ∙ sym (c.laws.ensures.layout.sums.id_directory c.args.table c.requires.there) in
    let width = c.id_directory_width.ensures.value ∙ ap (λ tables. 8 * length tables) c.above.ensures.tables in
    record { run = λ i. record { first = first i; count = c.rows.ensures.value i; width = width i } }
