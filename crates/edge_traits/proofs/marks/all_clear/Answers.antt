use Rattle.std.proofs.Common.{ap, ◌∙◌}
use Rattle.edge_traits.specs.Marks.{is_marked}
use Rattle.edge_traits.proofs.MarkLemmas.{none_marked}
use Rattle.edge_traits.proofs.marks.all_clear.Goals as goal

pub returns-clause-cleared : goal.returns-clause-cleared
returns-clause-cleared c = λ page.
    ap (λ m. is_marked m page) (c.in_ok-marks.ensures.items_if_clones_equal (λ y e. e)) ∙ none_marked c.args.blocks page
