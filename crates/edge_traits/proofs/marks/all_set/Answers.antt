use Rattle.std.proofs.Common.{ap, ◌∙◌}
use Rattle.edge_traits.specs.Marks.{is_marked}
use Rattle.edge_traits.proofs.MarkLemmas.{all_marked}
use Rattle.edge_traits.proofs.marks.all_set.Goals as goal

pub returns-clause-marked : goal.returns-clause-marked
returns-clause-marked c = λ page within.
    ap (λ m. is_marked m page) (c.in_ok-marks.ensures.items_if_clones_equal (λ y e. e))
    ∙ all_marked c.args.blocks page within
