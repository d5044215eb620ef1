use Rattle.candidate_gathering.proofs.searching_lemmas.RowLists.{entries, identifiers, replied}
use Rattle.candidate_gathering.proofs.searching.laws.lists_have_their_rows.Goals as goal

pub returns : goal.returns
returns c =
    let of_terms = c.lists_are_of_terms.ensures in
    let order = c.lists_come_in_order.ensures in
    let costs = c.lists_are_within_costs.ensures in
    let grows = c.work_grows.ensures in
    record {
      entries = entries c.entries_have_their_lists.ensures.values c.groups_ascend.ensures of_terms order costs grows;
      identifiers = identifiers c.entries_have_their_lists.ensures.identifiers of_terms order costs grows;
      replies = replied c.replies_have_their_lists.ensures.identifiers of_terms order costs grows;
    }
