use Rattle.std.proofs.Common.{ap, ◌∙◌, length}
use Rattle.edge_traits.specs.Marks.{is_marked}
use Rattle.edge_traits.proofs.MarkLemmas.{none_marked}
use Rattle.edge_traits.proofs.marks.clear_all.Goals as goal

pub returns : goal.returns
returns c = λ page.
    ap (λ m. is_marked m page) (c.fill.ensures.after (λ y e. e)) ∙ none_marked (length c.args.marks.now) page
