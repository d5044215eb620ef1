use Rattle.std.proofs.Common.{◌*◌, length, ap, sym, ◌∙◌}
use Rattle.flash_layout.proofs.layout.Layout.subtree_table.Goals as goal

pub returns : goal.returns
returns c =
    let first = c.places.ensures.places.subtree ∙ sym (c.laws.ensures.layout.sums.subtree_table c.args.table c.requires.there) in
    let width = c.subtree_width.ensures.value ∙ ap (λ tables. 4 * length tables) c.below.ensures.tables in
    record { run = λ i. record { first = first i; count = c.rows.ensures.value i; width = width i } }
