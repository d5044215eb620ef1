use Rattle.key_exec.proofs.KnowledgeLemmas.{files_kept, columns_kept_by, damage_kept}
use Rattle.key_exec.proofs.laws.knowledge_stays.Goals as goal

pub returns : goal.returns
returns c =
    let small = c.layout_is_small.ensures in
    let order = c.files_lie_in_order.ensures in
    let stand = c.records_stand_within.ensures in
    record {
      pages = files_kept small order c.files_lie_as_summed.ensures stand c.holdings_are_kept.ensures;
      but = columns_kept_by small order stand c.knowledge_stays.ensures;
      damage = damage_kept small order stand c.knowledge_stays.ensures;
    }
